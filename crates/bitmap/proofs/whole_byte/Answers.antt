-- SPDX-License-Identifier: Apache-2.0 AND BSD-3-Clause
-- `bitmap::whole_byte` meets its contract. No loop.
use Rattle.bitmap.specs.Whole.{whole}
use Rattle.bitmap.proofs.whole_byte.Goals as goal

pub returns-then-v : goal.returns-then-v
unfolding whole
returns-then-v c = rw c.if-v.true

pub returns-else-v : goal.returns-else-v
unfolding whole
returns-else-v c = rw c.if-v.false
