-- SPDX-License-Identifier: Apache-2.0 AND BSD-3-Clause
-- `change::state_in` meets its contract.
use Rattle.units.proofs.Tests.{flag}
use Rattle.change.specs.Change.{state_in}
use Rattle.change.proofs.state_in.Goals as goal

pub returns-then-all_in_state : goal.returns-then-all_in_state
unfolding state_in
returns-then-all_in_state c = simp (flag _ _ _ c.all_in_state.ensures c.if-all_in_state.true)

pub returns-then-all_in_state-2 : goal.returns-then-all_in_state-2
unfolding state_in
returns-then-all_in_state-2 c =
    simp (flag _ _ _ c.all_in_state.ensures c.if-all_in_state.false, flag _ _ _ c.all_in_state-2.ensures c.if-all_in_state-2.true)

pub returns : goal.returns
unfolding state_in
returns c =
    simp (flag _ _ _ c.all_in_state.ensures c.if-all_in_state.false, flag _ _ _ c.all_in_state-2.ensures c.if-all_in_state-2.false)
