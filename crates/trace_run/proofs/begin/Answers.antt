-- SPDX-License-Identifier: Apache-2.0 AND BSD-3-Clause
-- `trace_run::begin` meets its contract: a device is made, which has the stated shape, or the line is refused.
use mathlib.Core.Path.{sym, ◌∙◌}
use Rattle.making.proofs.Newly.{made_new}
use Rattle.trace_run.specs.Run.{begun_on}
use Rattle.trace_run.proofs.Laws.{printed_comes}
use Rattle.trace_run.proofs.begin.Goals as goal

pub put_in_place-requires : goal.put_in_place-requires
put_in_place-requires c = ((made_new _ _ _ _ _ _ (sym c.new-made.ensures.same ∙ c.in-Ok.is)).shape, c.requires)

pub returns-in-Err : goal.returns-in-Err
unfolding begun_on
returns-in-Err c = rw (← c.new-made.ensures.same, c.in-Err.is) (printed_comes _ c.refuse.ensures)

pub returns-in-Ok : goal.returns-in-Ok
unfolding begun_on
returns-in-Ok c = rw (← c.new-made.ensures.same, c.in-Ok.is) c.put_in_place.ensures
