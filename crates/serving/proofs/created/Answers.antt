-- SPDX-License-Identifier: Apache-2.0 AND BSD-3-Clause
-- `serving::created` meets its contract.
use mathlib.Core.Path.{refl}
use Rattle.serving.proofs.created.Goals as goal

pub returns : goal.returns
returns c =
    record {
      answered = refl;
      told = refl;
      recorded = simp (c.pending_to.ensures, c.sized.ensures);
      leaves = record { marked = refl; mapped = c.fill.ensures; left = refl };
    }
