-- SPDX-License-Identifier: Apache-2.0 AND BSD-3-Clause
-- `bitmap::mask` meets its contract. No loop.
use Prim.Native.Nat.{◌+◌, ◌≤◌}
use native.Mathlib.Omega.{arith}
use lib.Pow.{pow_pos, pow_mono}
use Rattle.bitmap.proofs.Bits.{one_shl, ones_shl}
use Rattle.bitmap.proofs.mask.Goals as goal

pub overflow_sub-result : goal.overflow_sub-result
overflow_sub-result c = rw (one_shl c.args.n (omega arith)) (omega (arith, pow_pos c.args.n))

pub overflow_cast-result : goal.overflow_cast-result
overflow_cast-result c =
    let a = c.args in
    let h : a.n + a.k ≤ 8 = omega arith in
    rw (ones_shl a.k a.n c.requires) (omega (arith, pow_mono h, pow_pos a.k))

pub returns : goal.returns
returns c = ones_shl c.args.k c.args.n c.requires
