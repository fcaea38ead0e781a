-- SPDX-License-Identifier: Apache-2.0 AND BSD-3-Clause
-- `queue::took_head` meets its contract: the available index is one further, and the head is out.
use Rattle.queue.proofs.took_head.Goals as goal

pub returns : goal.returns
returns c = simp c.index_after-next.ensures
