-- SPDX-License-Identifier: Apache-2.0 AND BSD-3-Clause
-- `queue::can_report` meets its contract: the rings are tested where a head is out.
use Rattle.queue.specs.Queue.{can_report}
use Rattle.queue.proofs.can_report.Goals as goal

pub returns-in-None : goal.returns-in-None
unfolding can_report
returns-in-None c = rw c.in-None.is

pub returns-in-Some : goal.returns-in-Some
unfolding can_report
returns-in-Some c = rw c.in-Some.is c.rings_inside.ensures
