-- SPDX-License-Identifier: Apache-2.0 AND BSD-3-Clause
-- `jambcopper::jambcopper_serve` meets its contract: 12 where there is no record, or no queue; no head that is taken; or the device's request, and the head by its answer.
use mathlib.Core.Path.{refl}
use Rattle.step.proofs.Served.{always_short}
use Rattle.queue.proofs.Turns.{told_as, walk_as}
use Rattle.jambcopper.proofs.QueueWays.{no_record, no_queue, unmoved_told, about-told}
use Rattle.jambcopper.proofs.jambcopper_serve.Goals as goal

pub returns-in_default : goal.returns-in_default
returns-in_default c = no_record _ _ _ c.decode.ensures c.in_default.is _ _ (c.tell_refused.ensures.value, c.tell_refused.ensures.words_after)

pub returns-in_default-decode_queue : goal.returns-in_default-decode_queue
returns-in_default-decode_queue c =
    no_queue _ _ _ c.decode.ensures c.in-Some.is c.decode_queue.ensures c.in_default-decode_queue.is _ _
    (c.tell_refused-in_default-decode_queue.ensures.value, c.tell_refused-in_default-decode_queue.ensures.words_after)

pub returns-in-NoHead : goal.returns-in-NoHead
returns-in-NoHead c =
    unmoved_told _ _ _ c.decode.ensures c.in-Some.is c.decode_queue.ensures c.in-Some-decode_queue.is _ _
    (told_as _ _ _ _ _ _ c.next_taking.ensures _ c.in-NoHead.is)
    (c.tell_queue.ensures.value, c.tell_queue.ensures.words_after)

pub returns-in-Walk : goal.returns-in-Walk
returns-in-Walk c =
    about-told _ _ _ c.decode.ensures c.in-Some.is c.decode_queue.ensures c.in-Some-decode_queue.is
    _ _ _ _ _ _ _ c.jambcopper_request-number.ensures _ refl (always_short _ _)
    (walk_as _ _ _ _ _ _ c.next_taking.ensures _ c.in-Walk.is _ c.took_head.ensures)
    c.ending_told-ending.ensures c.settle-now.ensures (c.encode_queue.ensures.words_after, c.encode_queue.ensures.words_after_2) c.pass_on.ensures
