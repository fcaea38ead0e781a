-- SPDX-License-Identifier: Apache-2.0 AND BSD-3-Clause
-- `config_shaped` meets its contract.
use Rattle.record.specs.Shape.{config_shaped_of}
use Rattle.record.proofs.config_shaped.Goals as goal

pub returns : goal.returns
unfolding config_shaped_of
returns c = c.shaped.ensures
