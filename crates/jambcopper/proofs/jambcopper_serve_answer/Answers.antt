-- SPDX-License-Identifier: Apache-2.0 AND BSD-3-Clause
-- `jambcopper::jambcopper_serve_answer` meets its contract: 12 where there is no record, or no queue; a number of the queue's; or the device's answer, and the head that is out by it.
use mathlib.Core.Path.{refl}
use Rattle.step.proofs.Served.{always_short}
use Rattle.queue.specs.Queue.{answers}
use Rattle.queue.proofs.Turns.{refused_as, heard_as}
use Rattle.jambcopper.proofs.QueueWays.{no_record, no_queue, unmoved_told, aside-told, about-told}
use Rattle.step.specs.Promise.{lent}
use Rattle.jambcopper.specs.Queue.{serve_answer_on}
use Rattle.jambcopper.proofs.jambcopper_serve_answer.Goals as goal

pub returns-in_default : goal.returns-in_default
returns-in_default c = no_record _ _ _ c.decode.ensures c.in_default.is _ _ (c.tell_refused.ensures.value, c.tell_refused.ensures.words_after)

pub returns-in_default-decode_queue : goal.returns-in_default-decode_queue
returns-in_default-decode_queue c =
    no_queue _ _ _ c.decode.ensures c.in-Some.is c.decode_queue.ensures c.in_default-decode_queue.is _ _
    (c.tell_refused-in_default-decode_queue.ensures.value, c.tell_refused-in_default-decode_queue.ensures.words_after)

pub returns-in-Err : goal.returns-in-Err
returns-in-Err c =
    let a = c.args in
    unmoved_told (serve_answer_on a.base a.ok a.host) _ _ c.decode.ensures c.in-Some.is c.decode_queue.ensures c.in-Some-decode_queue.is
    _ (lent a.bitmap.now a.table.now a.mem.now)
    (refused_as _ _ _ _ _ _ _ _ c.queue_refusal.ensures _ c.in-Err.is)
    (c.tell_refused-in-Err.ensures.value, c.tell_refused-in-Err.ensures.words_after)

pub returns-in_default-taken : goal.returns-in_default-taken
unfolding answers
returns-in_default-taken c =
    aside-told _ _ _ c.decode.ensures c.in-Some.is c.decode_queue.ensures c.in-Some-decode_queue.is
    _ _ _ _ _ _ _ c.jambcopper_host_answer.ensures
    (heard_as _ _ _ _ _ _ _ _ c.queue_refusal.ensures c.in_default-queue_refusal.is _ c.in_default-taken.is)

pub returns : goal.returns
unfolding answers
returns c =
    about-told _ _ _ c.decode.ensures c.in-Some.is c.decode_queue.ensures c.in-Some-decode_queue.is
    _ _ _ _ _ _ _ c.jambcopper_host_answer-number.ensures _ refl (always_short _ _)
    (heard_as _ _ _ _ _ _ _ _ c.queue_refusal.ensures c.in_default-queue_refusal.is _ c.in-Some-taken.is)
    c.ending_told-ending.ensures c.settle-now.ensures (c.encode_queue.ensures.words_after, c.encode_queue.ensures.words_after_2) c.pass_on.ensures
