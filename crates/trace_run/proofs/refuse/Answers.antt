-- SPDX-License-Identifier: Apache-2.0 AND BSD-3-Clause
-- `trace_run::refuse` meets its contract: the newline is put after the refusal.
use mathlib.Core.Path.{refl}
use Rattle.text.proofs.Puts.{then}
use Rattle.trace_run.proofs.refuse.Goals as goal

pub returns : goal.returns
returns c =
    let number = c.number-number.ensures in
    record { stands = refl; said = rw number; printed = then (rw number at c.put_refusal-end.ensures) c.put.ensures }
