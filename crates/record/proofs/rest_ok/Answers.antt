-- SPDX-License-Identifier: Apache-2.0 AND BSD-3-Clause
-- `record::rest_ok` meets its contract.
use Rattle.record.specs.Tests.{rest_ok}
use Rattle.record.proofs.rest_ok.Goals as goal

pub returns : goal.returns
unfolding rest_ok
returns c = cc
