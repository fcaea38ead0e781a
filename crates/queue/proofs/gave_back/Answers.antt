-- SPDX-License-Identifier: Apache-2.0 AND BSD-3-Clause
-- `queue::gave_back` meets its contract: the used index is one further, and no head is out.
use Rattle.queue.proofs.gave_back.Goals as goal

pub returns : goal.returns
returns c = simp c.index_after-next.ensures
