-- SPDX-License-Identifier: Apache-2.0 AND BSD-3-Clause
-- `change::host_in` meets its contract.
use Rattle.change.specs.Change.{host_in}
use Rattle.change.proofs.host_in.Goals as goal

pub returns-in_default : goal.returns-in_default
unfolding host_in
returns-in_default c = simp c.in_default.is

pub returns : goal.returns
unfolding host_in
returns c = simp c.in-Some.is c.host_sum.ensures
