-- SPDX-License-Identifier: Apache-2.0 AND BSD-3-Clause
-- `step::respond` meets its contract: the used length is 10 exactly if the response was delivered.
use mathlib.Core.Path.{refl, sym}
use mathlib.Core.List.{[]}
use Rattle.rows.proofs.Words.{whole}
use Rattle.step.proofs.respond.Goals as goal

pub returns : goal.returns
returns c =
    record {
      answered = rw (c.used_length.ensures, c.deliver.ensures.value);
      told = rw (c.used_length.ensures, c.deliver.ensures.value);
      recorded = refl;
      leaves = record { marked = refl; mapped = sym (whole []); left = c.deliver.ensures.mem_after };
    }
