-- SPDX-License-Identifier: Apache-2.0 AND BSD-3-Clause
-- `queue::ending_of` meets its contract: each answer has its ending.
use Rattle.queue.proofs.ending_of.Goals as goal

pub returns-in-Served : goal.returns-in-Served
returns-in-Served c = simp c.in-Served.is
