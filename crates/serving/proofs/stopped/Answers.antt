-- SPDX-License-Identifier: Apache-2.0 AND BSD-3-Clause
-- `serving::stopped` meets its contract.
use Rattle.serving.proofs.stopped.Goals as goal

pub returns : goal.returns
returns c = rw (c.pending_to-stopped.ensures, c.error.ensures) at c.respond.ensures
