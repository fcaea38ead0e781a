-- SPDX-License-Identifier: Apache-2.0 AND BSD-3-Clause
-- `queue::none_told` meets its contract: the refusal comes first.
use mathlib.Core.Path.{sym, ◌∙◌}
use Rattle.queue.proofs.Turns.{told_none, told_refusal}
use Rattle.queue.proofs.none_told.Goals as goal

pub returns-in-Ok : goal.returns-in-Ok
returns-in-Ok c = told_none _ _ _ (sym c.and.ensures ∙ c.in-Ok.is)

pub returns-in-Err : goal.returns-in-Err
returns-in-Err c = rw c.number.ensures (told_refusal _ _ _ (sym c.and.ensures ∙ c.in-Err.is))
