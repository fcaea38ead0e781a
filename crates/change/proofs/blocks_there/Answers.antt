-- SPDX-License-Identifier: Apache-2.0 AND BSD-3-Clause
-- `change::blocks_there` meets its contract: a range that ends in the region has all its blocks there.
use Prim.Native.Nat.{ℕ, ◌+◌, ◌-◌, ◌*◌, ◌/◌, min, ◌≤◌, ◌<◌}
use mathlib.Core.Path.{◌≡◌}
use native.Mathlib.Nat.{add-mul, div-mul-le_self, le-div_iff_mul-le}
use native.Mathlib.Omega.{arith}
use Rattle.units.specs.Numbers.{bytes_of, blocks_in}
use Rattle.units.proofs.Laws.{within}
use Rattle.change.proofs.blocks_there.Goals as goal

all_there : (b region offset count : ℕ) → 0 < b → offset + bytes_of b count ≤ region → count ≡ min count (blocks_in b region - blocks_in b offset)
all_there b region offset count h ends =
    let bytes : (offset / b + count) * b ≤ region = rw (add-mul (offset / b) count b) (omega (arith, div-mul-le_self offset b)) in
    let blocks : offset / b + count ≤ region / b = (le-div_iff_mul-le h).1 bytes in
    omega arith

pub returns-then-sum_within : goal.returns-then-sum_within
returns-then-sum_within c =
    let a = c.args in
    let ends = within _ c.sum_within.ensures c.if-sum_within.true in
    all_there a.block_size a.region a.offset.0 a.nb_blocks c.requires (rw (← c.bytes_of-size.ensures) ends)
