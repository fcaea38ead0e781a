-- SPDX-License-Identifier: Apache-2.0 AND BSD-3-Clause
-- `record::features` meets its contract.
use Rattle.record.proofs.features.Goals as goal

pub returns-then-node_given : goal.returns-then-node_given
returns-then-node_given c = rw c.if-node_given.true

pub returns-else-node_given : goal.returns-else-node_given
returns-else-node_given c = rw c.if-node_given.false
