-- SPDX-License-Identifier: Apache-2.0 AND BSD-3-Clause
-- `trace_run::put_in_place` meets its contract: the slots that it lends are as many as the map regions, and count up.
use mathlib.Core.Path.{refl, sym, ap, ◌∙◌}
use native.Mathlib.Omega.{arith}
use lib.ListN.{take}
use lib.Seq.{length-take-le}
use Rattle.record.proofs.Laws.{shaped_is}
use Rattle.step.specs.World.{world_of}
use Rattle.step.specs.Step.{step}
use Rattle.step.specs.Promise.{lent, meant}
use Rattle.trace_run.specs.Run.{counted_from, place_call, begun_on}
use Rattle.trace_run.proofs.Laws.{counted_take, placed_comes}
use Rattle.trace_run.proofs.put_in_place.Goals as goal

pub slice_bounds-slots-end : goal.slice_bounds-slots-end
slice_bounds-slots-end c =
    let few = (shaped_is _ c.requires.0).rows_few in
    let rows = c.map_regions-rows.ensures in
    omega arith

pub slice_bounds-place-end : goal.slice_bounds-place-end
slice_bounds-place-end c =
    let few = (shaped_is _ c.requires.0).rows_few in
    let rows = c.map_regions-rows.ensures in
    sym (length-take-le _ _ (omega arith))

pub returns : goal.returns
unfolding begun_on
returns c =
    let a = c.args in
    let few = (shaped_is _ c.requires.0).rows_few in
    let rows = c.map_regions-rows.ensures in
    let counted = c.count_slots.ensures in
    let up = ap (take c.map_regions-rows.result) counted ∙ counted_take _ 512 _ (omega arith) ∙ ap (counted_from a.first.slot) rows in
    let m = rw up at c.place-placed.ensures in
    placed_comes (step (world_of a.d a.bitmap.now a.table.now) (place_call a.d a.first (meant (lent a.bitmap.now a.table.now a.mem.now)))) _
    m.answered m.recorded m.leaves.marked m.leaves.mapped refl c.answer.ensures c.after_placing.ensures
