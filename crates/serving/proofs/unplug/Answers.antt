-- SPDX-License-Identifier: Apache-2.0 AND BSD-3-Clause
-- `serving::unplug` meets its contract: every ERROR comes before 12, and 12 before the question.
use Rattle.serving.proofs.Ways.{unplug_errs, unplug_refuses, unplug_asks}
use Rattle.serving.proofs.unplug.Goals as goal

pub returns-in-Err : goal.returns-in-Err
returns-in-Err c = unplug_errs _ _ _ c.args.shaped.shape _ _ _ _ _ _ (rw (c.area_of-area.ensures, c.blocks_of-blocks.ensures) at c.change_of-tested.ensures) _ c.in-Err.is (rw c.error.ensures at c.respond.ensures)

pub returns-then-d-size : goal.returns-then-d-size
returns-then-d-size c = unplug_refuses _ _ _ c.args.shaped.shape _ _ _ _ _ _ (rw (c.area_of-area.ensures, c.blocks_of-blocks.ensures) at c.change_of-tested.ensures) _ c.in-Ok.is _ (rw (c.area_of-area.ensures, c.blocks_of-blocks.ensures) at c.bytes_of-size.ensures) c.if-d-size.true c.refuse_as.ensures

pub returns : goal.returns
returns c = unplug_asks _ _ _ c.args.shaped.shape _ _ _ _ _ _ (rw (c.area_of-area.ensures, c.blocks_of-blocks.ensures) at c.change_of-tested.ensures) _ c.in-Ok.is _ (rw (c.area_of-area.ensures, c.blocks_of-blocks.ensures) at c.bytes_of-size.ensures) c.if-d-size.false (rw c.blocks_of-blocks.ensures at c.asked.ensures)
