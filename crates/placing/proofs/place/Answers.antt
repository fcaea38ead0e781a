-- SPDX-License-Identifier: Apache-2.0 AND BSD-3-Clause
-- `placing::place` meets its contract: the refusals 12, 7, 6, 11, then 3, 4, and then the tables are written before the host is asked.
use mathlib.Core.Path.{◌≡◌, refl, sym, ◌∙◌}
use mathlib.Core.Bool.{true}
use Rattle.bitmap.proofs.Laws.{blocks-length}
use Rattle.rows.proofs.Words.{count}
use Rattle.record.specs.Shape.{shaped_of}
use Rattle.record.proofs.Laws.{start_keeps}
use Rattle.step.specs.Step.{step, place}
use Rattle.step.proofs.Entry.{unplaced_shaped}
use Rattle.step.proofs.Giving.{stops, goes_on}
use Rattle.placing.proofs.Writes.{start_good, placed_gives}
use Rattle.placing.proofs.place.Goals as goal
use Rattle.placing.proofs.place.Goals.{In_default}

-- past 12, 7, 6 and 11
shape : (c : In_default) → shaped_of c.args.d ≡ true
shape c = unplaced_shaped _ _ _ (sym c.unplaced_refusal.ensures ∙ c.in_default.is)

pub returns-in-Err : goal.returns-in-Err
unfolding step
returns-in-Err c = simp (blocks-length, count, ← c.unplaced_refusal.ensures) (stops _ _ _ _ _ _ c.in-Err.is c.refuse_as.ensures)

pub returns-in-Err-range_refusal : goal.returns-in-Err-range_refusal
unfolding step place
returns-in-Err-range_refusal c =
    simp (blocks-length, count, ← c.unplaced_refusal.ensures)
    (goes_on _ _ _ _ _ _ _ c.in_default.is
    (simp (← c.range_refusal.ensures) (stops _ _ _ _ _ _ c.in-Err-range_refusal.is c.refuse_as-in-Err-range_refusal.ensures)))

pub invariant_of-ask_placing : goal.invariant_of-ask_placing
invariant_of-ask_placing c =
    let before = shape (goal.at.invariant_of-ask_placing c).In_default in
    let after = start_keeps _ before _ (start_good _ _ _ _ (sym c.range_refusal.ensures ∙ c.in_default-range_refusal.is)) in
    record { shape = cc }

pub returns : goal.returns
unfolding step place
returns c =
    simp (blocks-length, count, ← c.unplaced_refusal.ensures)
    (goes_on _ _ _ _ _ _ _ c.in_default.is
    (simp (← c.range_refusal.ensures)
    (goes_on _ _ _ _ _ _ _ c.in_default-range_refusal.is
    (placed_gives c.args.d _ _ _ _ _ (rw c.blocks_in-blocks.ensures at c.set_range.ensures) c.lay.ensures refl c.ask_placing.ensures))))
