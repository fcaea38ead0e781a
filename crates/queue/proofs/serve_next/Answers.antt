-- SPDX-License-Identifier: Apache-2.0 AND BSD-3-Clause
-- `queue::serve_next` meets its contract: no head that is taken, or a head by the device's answer.
use Rattle.step.specs.World.{guest_of}
use Rattle.queue.proofs.Turns.{about_met, next_none, walk_as}
use Rattle.queue.proofs.serve_next.Goals as goal

pub returns-in-NoHead : goal.returns-in-NoHead
returns-in-NoHead c =
    let a = c.args in
    next_none a.d a.bitmap.now a.table.now a.q (guest_of a.mem.now a.base) _ c.next_taking.ensures _ c.in-NoHead.is c.tells.ensures

pub returns-in-Walk : goal.returns-in-Walk
returns-in-Walk c =
    let a = c.args in
    rw (walk_as a.d a.bitmap.now a.table.now a.q (guest_of a.mem.now a.base) _ c.next_taking.ensures _ c.in-Walk.is _ c.took_head.ensures)
    (about_met c.request-s.ensures _ _ _ _ _ _ c.ending_of.ensures c.settle-queue.ensures c.tells-in-Walk.ensures)
