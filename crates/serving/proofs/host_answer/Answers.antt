-- SPDX-License-Identifier: Apache-2.0 AND BSD-3-Clause
-- `serving::host_answer` meets its contract: 12, 8 and 11 first, then the answer to what is pending.
use mathlib.Core.Path.{◌≡◌, refl, sym, ◌∙◌}
use mathlib.Core.Bool.{true}
use Rattle.record.specs.Shape.{shaped_of}
use Rattle.step.proofs.Entry.{waits_is}
use Rattle.step.proofs.Giving.{as_given, answers}
use Rattle.serving.proofs.Entries.{answer_refused, answer_ready, case_is, none_pending, any_host, any_host_one}
use Rattle.serving.proofs.Creation.{heard}
use Rattle.serving.proofs.host_answer.Goals as goal
use Rattle.serving.proofs.host_answer.Goals.{In_default}

pub returns-in-Err : goal.returns-in-Err
returns-in-Err c = as_given (answer_refused _ _ _ _ c.pending_refusal.ensures _ _ _ _ c.in-Err.is) (answers _ _ c.refuse_as.ensures refl refl)

-- past 12, 8 and 11
shape : (c : In_default) → shaped_of c.args.d ≡ true
shape c = (waits_is _ _ _ (sym c.pending_refusal.ensures ∙ c.in_default.is)).shaped

pub invariant_of-shaped : goal.invariant_of-shaped
invariant_of-shaped c = record { shape = shape (goal.at.invariant_of-shaped c).In_default }

pub invariant_of-shaped-in-Discard : goal.invariant_of-shaped-in-Discard
invariant_of-shaped-in-Discard c = record { shape = shape (goal.at.invariant_of-shaped-in-Discard c).In_default }

pub invariant_of-shaped-in-DiscardOne : goal.invariant_of-shaped-in-DiscardOne
invariant_of-shaped-in-DiscardOne c = record { shape = shape (goal.at.invariant_of-shaped-in-DiscardOne c).In_default }

pub creation_answered-requires : goal.creation_answered-requires
creation_answered-requires c = c.in-Create.is

pub unplug_answered-requires : goal.unplug_answered-requires
unplug_answered-requires c = c.in-Discard.is

pub one_answered-requires : goal.one_answered-requires
one_answered-requires c = c.in-DiscardOne.is

pub returns-in-Nothing : goal.returns-in-Nothing
returns-in-Nothing c =
    as_given
    (answer_ready _ _ _ _ c.pending_refusal.ensures _ _ _ c.in_default.is
    ∙ case_is _ _ _ _ _ c.in-Nothing.is _
    ∙ none_pending _ _ _ _)
    (answers _ _ c.refuse_as-in-Nothing.ensures refl refl)

pub returns-in-Create : goal.returns-in-Create
returns-in-Create c =
    as_given
    (answer_ready _ _ _ _ c.pending_refusal.ensures _ _ _ c.in_default.is
    ∙ case_is _ _ _ _ _ c.in-Create.is _)
    (heard _ _ _ _ _ _ _ _ _ _ c.creation_answered.ensures)

pub returns-in-Discard : goal.returns-in-Discard
returns-in-Discard c =
    as_given
    (answer_ready _ _ _ _ c.pending_refusal.ensures _ _ _ c.in_default.is
    ∙ case_is _ _ _ _ _ c.in-Discard.is _
    ∙ any_host _ _ _ _ _ _ _)
    c.unplug_answered.ensures

pub returns-in-DiscardOne : goal.returns-in-DiscardOne
returns-in-DiscardOne c =
    as_given
    (answer_ready _ _ _ _ c.pending_refusal.ensures _ _ _ c.in_default.is
    ∙ case_is _ _ _ _ _ c.in-DiscardOne.is _
    ∙ any_host_one _ _ _ _ _ _)
    c.one_answered.ensures
