-- SPDX-License-Identifier: Apache-2.0 AND BSD-3-Clause
-- `queue::queue_refusal` meets its contract: 12, then nothing where the head can be reported, and 14 behind the device's numbers.
use mathlib.Core.Path.{ap}
use Rattle.std.specs.Prelude.{Err}
use Rattle.units.proofs.Tests.{flag}
use Rattle.queue.specs.Queue.{queue_refusal}
use Rattle.queue.proofs.queue_refusal.Goals as goal

pub returns-then-not-queue_ok : goal.returns-then-not-queue_ok
unfolding queue_refusal
returns-then-not-queue_ok c = rw (flag _ _ _ c.queue_ok.ensures c.if-not-queue_ok.true)

pub returns-then-can_report : goal.returns-then-can_report
unfolding queue_refusal
returns-then-can_report c =
    rw (flag _ _ _ c.queue_ok.ensures c.if-not-queue_ok.false, ← c.can_report.ensures, c.if-can_report.true)

pub returns : goal.returns
unfolding queue_refusal
returns c =
    rw (flag _ _ _ c.queue_ok.ensures c.if-not-queue_ok.false, ← c.can_report.ensures, c.if-can_report.false)
    (ap Err c.outside_refusal.ensures)
