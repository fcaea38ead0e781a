-- SPDX-License-Identifier: Apache-2.0 AND BSD-3-Clause
-- `placing::set_requested_size` meets its contract: the refusals 12, 7, 5, 11 and then 1, and the new requested size before anything is worked out.
use Prim.Native.Nat.{◌*◌}
use mathlib.Core.Path.{◌≡◌, refl, sym, ◌∙◌}
use mathlib.Core.Bool.{true}
use native.Mathlib.Omega.{arith}
use Rattle.bitmap.proofs.Laws.{blocks-length}
use Rattle.rows.proofs.Words.{count, whole}
use Rattle.record.specs.Shape.{shaped_of}
use Rattle.record.proofs.Laws.{shaped_is, requested_keeps}
use Rattle.record.specs.Changes.{requested_to}
use Rattle.refusal.specs.declared.Refusal.TheVariants.{WrongSize}
use Rattle.step.specs.World.{world_of}
use Rattle.step.specs.Step.{step, device_of, set_requested_size}
use Rattle.step.proofs.Entry.{ready_is}
use Rattle.making.proofs.Asked.{Asked, asked_is}
use Rattle.placing.proofs.Laws.{resizes_gives}
use Rattle.step.proofs.Giving.{refused_gives, stops, goes_on}
use Rattle.placing.proofs.set_requested_size.Goals as goal
use Rattle.placing.proofs.set_requested_size.Goals.{In_default, Else-requested_refused}

-- past 12, 7, 5 and 11
shape : (c : In_default) → shaped_of c.args.d ≡ true
shape c = (ready_is _ _ _ (sym c.ready_refusal.ensures ∙ c.in_default.is)).shaped

-- past 1
size : (c : Else-requested_refused) → (let a = c.args in Asked a.d.config.block_size (a.requested_mib * 1048576) a.d.config.region_size)
size c = asked_is _ _ _ _ c.requested_refused.ensures c.if-requested_refused.false

pub returns-in-Err : goal.returns-in-Err
unfolding step
returns-in-Err c = simp (blocks-length, count, ← c.ready_refusal.ensures) (stops _ _ _ _ _ _ c.in-Err.is c.refuse_as.ensures)

pub returns-then-requested_refused : goal.returns-then-requested_refused
unfolding step set_requested_size
returns-then-requested_refused c =
    simp (blocks-length, count, ← c.ready_refusal.ensures)
    (goes_on _ _ _ _ _ _ _ c.in_default.is
    (refused_gives _ _ WrongSize _ _
    (simp (← c.requested_refused.ensures, c.if-requested_refused.true))
    c.refuse_as-then-requested_refused.ensures))

pub overflow_mul-requested : goal.overflow_mul-requested
overflow_mul-requested c = omega (arith, (size (goal.at.overflow_mul-requested c).Else-requested_refused).within)

pub invariant_of-resize : goal.invariant_of-resize
invariant_of-resize c =
    let d = c.args.d in
    let before = shape (goal.at.invariant_of-resize c).In_default in
    let after = requested_keeps _ before _ (rw (shaped_is d before).block_size at (size (goal.at.invariant_of-resize c).Else-requested_refused).whole) (size (goal.at.invariant_of-resize c).Else-requested_refused).within in
    record { shape = cc }

pub returns : goal.returns
unfolding step set_requested_size
returns c =
    let a = c.args in
    let bytes = a.requested_mib * 1048576 in
    simp (blocks-length, count, ← c.ready_refusal.ensures)
    (goes_on _ _ _ _ _ _ _ c.in_default.is
    (simp (← c.requested_refused.ensures, c.if-requested_refused.false)
    (resizes_gives _ (device_of (requested_to bytes a.d) (world_of a.d a.bitmap.now a.table.now)) _ _ _ c.resize.ensures refl (sym (whole _)) refl)))
