-- SPDX-License-Identifier: Apache-2.0 AND BSD-3-Clause
-- `bitmap::next_set` meets its contract.
use Rattle.bitmap.proofs.next_set.Goals as goal

pub returns : goal.returns
returns c = c.next_of.ensures
