-- SPDX-License-Identifier: Apache-2.0 AND BSD-3-Clause
-- `placing::resize` meets its contract.
use mathlib.Core.Path.{sym, ◌∙◌}
use Rattle.step.specs.Step.{resizes}
use Rattle.placing.proofs.Laws.{asked_within}
use Rattle.placing.proofs.resize.Goals as goal

pub returns-in_default : goal.returns-in_default
unfolding resizes
returns-in_default c =
    simp (← c.new_size-new.ensures, ← c.growth_of-growth.ensures, c.in_default.is, c.sized.ensures)

pub ask_creation-requires : goal.ask_creation-requires
ask_creation-requires c =
    asked_within c.args.shaped.device c.args.shaped.shape _ _ _ _ _ _ (sym c.growth_of-growth.ensures ∙ c.in-Some.is)

pub returns : goal.returns
unfolding resizes
returns c =
    simp (← c.new_size-new.ensures, ← c.growth_of-growth.ensures, c.in-Some.is)
    c.ask_creation.ensures
