-- SPDX-License-Identifier: Apache-2.0 AND BSD-3-Clause
-- `serving::state` meets its contract.
use mathlib.Core.Path.{sym, ◌∙◌}
use Rattle.step.specs.Step.{state_type}
use Rattle.serving.proofs.state.Goals as goal

pub returns-in-Ok : goal.returns-in-Ok
unfolding state_type
returns-in-Ok c =
    rw (sym (rw c.area_of-2.ensures at c.range_of.ensures) ∙ c.in-Ok.is, ← rw c.area_of.ensures at c.state_of-state.ensures) (rw c.ack.ensures at c.with_state.ensures)

pub returns-in-Err : goal.returns-in-Err
unfolding state_type
returns-in-Err c =
    rw (sym (rw c.area_of-2.ensures at c.range_of.ensures) ∙ c.in-Err.is, ← rw c.area_of.ensures at c.state_of-state.ensures) (rw c.error.ensures at c.with_state-in-Err.ensures)
