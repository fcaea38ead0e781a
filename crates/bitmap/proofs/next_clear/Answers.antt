-- SPDX-License-Identifier: Apache-2.0 AND BSD-3-Clause
-- `bitmap::next_clear` meets its contract.
use Rattle.bitmap.proofs.next_clear.Goals as goal

pub returns : goal.returns
returns c = c.next_of.ensures
