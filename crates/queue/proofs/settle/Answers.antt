-- SPDX-License-Identifier: Apache-2.0 AND BSD-3-Clause
-- `queue::settle` meets its contract: the queue and the used ring are those of the ending.
use mathlib.Core.Path.{refl}
use Rattle.queue.specs.Queue.{queue_by, bytes_by}
use Rattle.queue.proofs.settle.Goals as goal

pub returns-in-Stays : goal.returns-in-Stays
unfolding queue_by bytes_by
returns-in-Stays c = rw c.in-Stays.is (record { queued = refl; left = refl })

pub returns-in-Out : goal.returns-in-Out
unfolding queue_by bytes_by
returns-in-Out c = rw c.in-Out.is (record { queued = refl; left = refl })

pub returns-in-Used : goal.returns-in-Used
unfolding queue_by bytes_by
returns-in-Used c = rw c.in-Used.is (record { queued = c.gave_back.ensures; left = c.report.ensures })
