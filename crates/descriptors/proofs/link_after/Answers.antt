-- SPDX-License-Identifier: Apache-2.0 AND BSD-3-Clause
-- `descriptors::link_after` meets its contract: with the next flag it is the descriptor at `next`, and without it there is none.
use Rattle.descriptors.specs.Descriptors.{link_after}
use Rattle.descriptors.proofs.link_after.Goals as goal

pub returns-then-has_next : goal.returns-then-has_next
unfolding link_after
returns-then-has_next c = simp (← c.has_next.ensures, c.if-has_next.true, c.link_at.ensures)

pub returns-else-has_next : goal.returns-else-has_next
unfolding link_after
returns-else-has_next c = simp (← c.has_next.ensures, c.if-has_next.false)
