-- SPDX-License-Identifier: Apache-2.0 AND BSD-3-Clause
-- `serving::plug` meets its contract: each `return` is a leaf, NACK before the tests of the range.
use native.Mathlib.Omega.{arith}
use Rattle.record.proofs.Laws.{shaped_is}
use Rattle.serving.proofs.Ways.{plug_nacks, plug_errs, plug_acks}
use Rattle.serving.proofs.plug.Goals as goal

pub returns-then-not-sum_within : goal.returns-then-not-sum_within
returns-then-not-sum_within c = plug_nacks _ _ _ c.args.shaped.shape _ _ _ _ _ _ _ (rw (c.area_of-area.ensures, c.blocks_of-blocks.ensures) at c.bytes_of-size.ensures) _ c.sum_within.ensures c.if-not-sum_within.true (rw c.nack.ensures at c.respond.ensures)

pub returns-in-Err : goal.returns-in-Err
returns-in-Err c = plug_errs _ _ _ c.args.shaped.shape _ _ _ _ _ _ _ (rw (c.area_of-area.ensures, c.blocks_of-blocks.ensures) at c.bytes_of-size.ensures) _ c.sum_within.ensures c.if-not-sum_within.false _ (rw (c.area_of-area.ensures, c.blocks_of-blocks.ensures) at c.change_of-tested.ensures) _ c.in-Err.is (rw c.error.ensures at c.respond-in-Err.ensures)

pub overflow_add-plugged : goal.overflow_add-plugged
overflow_add-plugged c =
    let shape = shaped_is _ c.args.shaped.shape in
    omega (arith, shape, rw shape.block_size at (rw (c.area_of-area.ensures, c.blocks_of-blocks.ensures) at c.bytes_of-size.ensures))

pub returns : goal.returns
returns c = plug_acks _ _ _ c.args.shaped.shape _ _ _ _ _ _ _ (rw (c.area_of-area.ensures, c.blocks_of-blocks.ensures) at c.bytes_of-size.ensures) _ c.sum_within.ensures c.if-not-sum_within.false _ (rw (c.area_of-area.ensures, c.blocks_of-blocks.ensures) at c.change_of-tested.ensures) _ c.in-Ok.is _ (rw c.blocks_of-blocks.ensures at c.set_range.ensures) _ c.plugged_to-grown.ensures (rw c.ack.ensures at c.respond-2.ensures)
