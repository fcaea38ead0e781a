-- SPDX-License-Identifier: Apache-2.0 AND BSD-3-Clause
-- `bitmap::bit` meets its contract. No loop.
use mathlib.Core.Path.{sym}
use Rattle.bitmap.proofs.Bits.{low_at}
use Rattle.bitmap.proofs.bit.Goals as goal

pub returns : goal.returns
returns c = sym (low_at 8 c.args.k c.args.b c.requires)
