-- SPDX-License-Identifier: Apache-2.0 AND BSD-3-Clause
-- `rings::rings_inside` meets its contract: both tests are made, and both hold.
use Rattle.rings.specs.Rings.{rings_inside}
use Rattle.rings.proofs.rings_inside.Goals as goal

pub returns : goal.returns
unfolding rings_inside
returns c = cc
