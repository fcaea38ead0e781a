-- SPDX-License-Identifier: Apache-2.0 AND BSD-3-Clause
-- `trace_run::first_line` meets its contract: a line where another is due, and a bad one, are refused.
use Rattle.std.specs.Prelude.{Some}
use mathlib.Core.Path.{◌≡◌}
use Rattle.trace_run.specs.Run.{turn}
use Rattle.trace_run.proofs.Laws.{printed_comes}
use Rattle.trace_run.proofs.first_line.Goals as goal

pub returns-in-Some-Later : goal.returns-in-Some-Later
unfolding turn
returns-in-Some-Later c =
    let e : c.args.line ≡ Some c.in-Some-Later.field-0 = c.in-Some-Later.is in
    let f = rw e at c.in-Some-Later.field-0-is in
    rw (e, f) (printed_comes _ c.refuse.ensures)

pub returns-in-None : goal.returns-in-None
unfolding turn
returns-in-None c = rw c.in-None.is (printed_comes _ c.refuse-in-None.ensures)
