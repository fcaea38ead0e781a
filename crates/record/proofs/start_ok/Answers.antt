-- SPDX-License-Identifier: Apache-2.0 AND BSD-3-Clause
-- `record::start_ok` meets its contract.
use Rattle.record.specs.Shape.{start_ok}
use Rattle.record.proofs.start_ok.Goals as goal

pub returns : goal.returns
unfolding start_ok
returns c = cc
