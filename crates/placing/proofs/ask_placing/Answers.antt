-- SPDX-License-Identifier: Apache-2.0 AND BSD-3-Clause
-- `placing::ask_placing` meets its contract.
use mathlib.Core.Path.{ap, sym, ◌∙◌}
use Rattle.step.specs.World.{answered_by}
use Rattle.placing.proofs.Laws.{placing-several, placing_single}
use Rattle.placing.proofs.ask_placing.Goals as goal

pub returns-then-d : goal.returns-then-d
returns-then-d c = c.resize.ensures ∙ ap answered_by (sym (placing-several _ c.if-d.true))

pub returns : goal.returns
returns c = c.ask_creation.ensures ∙ ap answered_by (sym (placing_single _ c.if-d.false))
