-- SPDX-License-Identifier: Apache-2.0 AND BSD-3-Clause
-- `serving::unplug_answered` meets its contract; by the record's shape the unplug is at most the plugged size.
use Prim.Native.Nat.{◌*◌}
use mathlib.Core.Path.{◌≡◌}
use native.Mathlib.Omega.{arith}
use Rattle.record.proofs.Laws.{shaped_is, discard_is}
use Rattle.serving.proofs.Entries.{unplug_fails, unplug_done}
use Rattle.serving.proofs.unplug_answered.Goals as goal

pub returns-then-failed : goal.returns-then-failed
returns-then-failed c = unplug_fails _ _ _ c.args.shaped.shape _ _ _ _ _ _ c.if-failed.true c.stopped.ensures

pub overflow_mul-left : goal.overflow_mul-left
overflow_mul-left c =
    let a = c.args in
    let shape = shaped_is _ c.args.shaped.shape in
    let same : a.count * a.shaped.device.config.block_size ≡ a.count * 4194304 = rw shape.block_size in
    omega (arith, shape, same, discard_is _ c.args.shaped.shape _ _ _ c.requires)

pub overflow_sub-left : goal.overflow_sub-left
overflow_sub-left c =
    let a = c.args in
    let shape = shaped_is _ c.args.shaped.shape in
    let same : a.count * a.shaped.device.config.block_size ≡ a.count * 4194304 = rw shape.block_size in
    omega (arith, shape, same, discard_is _ c.args.shaped.shape _ _ _ c.requires)

pub returns : goal.returns
returns c = unplug_done _ _ _ c.args.shaped.shape _ _ _ _ _ _ c.if-failed.false _ c.set_range.ensures _ _ c.plugged_to.ensures c.pending_to-unplugged.ensures (rw c.ack.ensures at c.respond.ensures)
