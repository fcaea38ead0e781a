-- SPDX-License-Identifier: Apache-2.0 AND BSD-3-Clause
-- `old_form::to_new` meets its contract.
use mathlib.Core.List.{[]}
use Rattle.old_form.proofs.Turns.{each_is_old, no_scratch, no_shape_lem, wrong_number, wrong_byte, has_room, moved}
use Rattle.old_form.proofs.to_new.Goals as goal

pub returns-then-scratch-lt-BITMAP : goal.returns-then-scratch-lt-BITMAP
returns-then-scratch-lt-BITMAP c = no_scratch _ _ _ _ c.if-scratch-lt-BITMAP.true

pub returns-then-not-shape_ok : goal.returns-then-not-shape_ok
returns-then-not-shape_ok c = no_shape_lem _ _ c.args.scratch.now _ c.if-scratch-lt-BITMAP.false _ c.shape_ok.ensures c.if-not-shape_ok.true

pub returns-then-old-blocks_in : goal.returns-then-old-blocks_in
returns-then-old-blocks_in c = wrong_number _ _ c.args.scratch.now _ c.if-scratch-lt-BITMAP.false _ c.shape_ok.ensures c.if-not-shape_ok.false _ c.blocks_in.ensures c.if-old-blocks_in.true

pub returns-then-not-is_old : goal.returns-then-not-is_old
returns-then-not-is_old c = wrong_byte _ _ c.args.scratch.now _ c.if-scratch-lt-BITMAP.false _ c.shape_ok.ensures c.if-not-shape_ok.false _ c.blocks_in.ensures c.if-old-blocks_in.false _ (each_is_old _ _ c.is_old.ensures) c.if-not-is_old.true

pub pack-requires : goal.pack-requires
pack-requires c = has_room _ _ c.args.scratch.now [] c.if-scratch-lt-BITMAP.false _ c.shape_ok.ensures c.if-not-shape_ok.false _ c.blocks_in.ensures c.if-old-blocks_in.false _ (each_is_old _ _ c.is_old.ensures)

pub returns : goal.returns
returns c = moved _ _ _ _ c.if-scratch-lt-BITMAP.false _ c.shape_ok.ensures c.if-not-shape_ok.false _ c.blocks_in.ensures c.if-old-blocks_in.false _ (each_is_old _ _ c.is_old.ensures) c.if-not-is_old.false _ _ _ c.pack.ensures c.write.ensures
