-- SPDX-License-Identifier: Apache-2.0 AND BSD-3-Clause
-- `bitmap::put` meets its contract. No loop.
use Rattle.bitmap.proofs.Bits.{run_is, put_run}
use Rattle.bitmap.proofs.put.Goals as goal

pub returns : goal.returns
returns c =
    let a = c.args in
    rw (c.mask-m.ensures, run_is a.k a.n, c.whole_byte.ensures) (put_run a.k a.n a.b c.requires a.v)
