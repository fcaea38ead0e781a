-- SPDX-License-Identifier: Apache-2.0 AND BSD-3-Clause
-- `bitmap::are` meets its contract. No loop.
use borrow.Author.Rules.{rules}
use Rattle.bitmap.proofs.Bits.{run_is}
use Rattle.bitmap.proofs.Bytes.{are_run}
use Rattle.bitmap.proofs.are.Goals as goal

pub returns : goal.returns
returns c =
    let a = c.args in
    rw (c.mask-m.ensures, run_is a.k a.n, c.whole_byte.ensures) (are_run a.k a.n a.b a.v c.requires (search rules))
