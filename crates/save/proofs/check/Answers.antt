-- SPDX-License-Identifier: Apache-2.0 AND BSD-3-Clause
-- `save::check` meets its contract.
use Rattle.save.proofs.Heading.{checked_whole}
use Rattle.save.proofs.check.Goals as goal

pub returns : goal.returns
returns c = checked_whole _ _ _ c.in_ok-head.ensures c.runs_of.result c.runs_of.ensures
