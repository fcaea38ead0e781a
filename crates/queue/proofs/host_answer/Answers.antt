-- SPDX-License-Identifier: Apache-2.0 AND BSD-3-Clause
-- `queue::host_answer` meets its contract: a number of the queue's, or the device's answer, about the head that is out if one is.
use Rattle.step.specs.World.{guest_of}
use Rattle.queue.specs.Queue.{answers}
use Rattle.queue.proofs.Turns.{about_met, aside_met, answer_refused, heard_as}
use Rattle.queue.proofs.host_answer.Goals as goal

pub returns-in-Err : goal.returns-in-Err
returns-in-Err c =
    let a = c.args in
    answer_refused a.d a.bitmap.now a.table.now a.q (guest_of a.mem.now a.base) _ _ _ c.queue_refusal.ensures _ c.in-Err.is (rw c.number.ensures at c.tells.ensures)

pub returns-in_default-taken : goal.returns-in_default-taken
unfolding answers
returns-in_default-taken c =
    let a = c.args in
    rw (heard_as a.d a.bitmap.now a.table.now a.q (guest_of a.mem.now a.base) _ _ _ c.queue_refusal.ensures c.in_default.is _ c.in_default-taken.is)
    (aside_met c.host_answer-s.ensures _ c.tells-in_default-taken.ensures)

pub returns : goal.returns
unfolding answers
returns c =
    let a = c.args in
    rw (heard_as a.d a.bitmap.now a.table.now a.q (guest_of a.mem.now a.base) _ _ _ c.queue_refusal.ensures c.in_default.is _ c.in-Some.is)
    (about_met c.host_answer-s.ensures _ _ _ _ _ _ c.ending_of.ensures c.settle-queue.ensures c.tells-2.ensures)
