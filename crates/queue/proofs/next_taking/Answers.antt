-- SPDX-License-Identifier: Apache-2.0 AND BSD-3-Clause
-- `queue::next_taking` meets its contract: 12, no head, or the head that stands next.
use Rattle.std.specs.Prelude.{◌≡◌, Some, None}
use Rattle.std.specs.Option.{option_flatten}
use Rattle.std.specs.Result.{result_ok}
use Rattle.units.proofs.Tests.{flag}
use Rattle.queue.specs.Queue.{taking_of}
use Rattle.queue.proofs.Turns.{none_stands, head_stands}
use Rattle.queue.proofs.next_taking.Goals as goal

pub returns-then-not-queue_ok : goal.returns-then-not-queue_ok
unfolding taking_of
returns-then-not-queue_ok c = rw (flag _ _ _ c.queue_ok.ensures c.if-not-queue_ok.true, c.number.ensures)

pub returns-in_default : goal.returns-in_default
unfolding taking_of
returns-in_default c =
    let none : option_flatten (result_ok c.next_head-next.result) ≡ None = cc (c.ok.ensures.value, c.flatten.ensures, c.in_default.is) in
    rw (flag _ _ _ c.queue_ok.ensures c.if-not-queue_ok.false, ← c.next_head-next.ensures, ← c.ready_refusal-admitted.ensures, none_stands _ none _, ← c.none_told.ensures)

pub returns : goal.returns
unfolding taking_of
returns c =
    let some : option_flatten (result_ok c.next_head-next.result) ≡ Some c.in-Some.head = cc (c.ok.ensures.value, c.flatten.ensures, c.in-Some.is) in
    rw (flag _ _ _ c.queue_ok.ensures c.if-not-queue_ok.false, ← c.next_head-next.ensures, head_stands _ _ some _)
