-- SPDX-License-Identifier: Apache-2.0 AND BSD-3-Clause
-- `units::alignment_of` meets its contract: a shift of 1 by at most 31 is a power of two.
use Prim.Native.Nat.{ℕ, ◌*◌, ◌%◌, ◌^◌, ◌<◌}
use mathlib.Core.Path.{◌≡◌, refl}
use native.Mathlib.Nat.{mod-eq_of_lt, one-mul}
use native.Mathlib.Omega.{arith}
use borrow.Author.Tests.{lt-ltb, le-ltb}
use lib.Pow.{pow-lt}
use Rattle.units.specs.Numbers.{GiB, alignment_of, twos, between}
use Rattle.units.proofs.alignment_of.Goals as goal

-- 1 shifted by less than 64 loses nothing
shifted : (n : ℕ) → n < 64 → 1 * 2 ^ n % 2 ^ 64 ≡ 2 ^ n
shifted n h = rw one-mul (mod-eq_of_lt (pow-lt h))

pub returns-then-small : goal.returns-then-small
unfolding alignment_of
returns-then-small c = rw (lt-ltb c.args.boot (64 * GiB) (omega arith)) refl

pub returns : goal.returns
unfolding alignment_of twos
returns c =
    let boot = c.args.boot in
    let short : between (twos boot) < 64 = omega arith in
    let e : c.clamp.result ≡ between (twos boot) = omega arith in
    rw (le-ltb boot (64 * GiB) (omega arith), e) (shifted (between (twos boot)) short)
