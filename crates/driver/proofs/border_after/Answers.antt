-- SPDX-License-Identifier: Apache-2.0 AND BSD-3-Clause
-- `border_after` meets its contract.
use Prim.Native.Nat.{◌+◌, ◌*◌, ◌/◌, ◌≤◌}
use native.Mathlib.Omega.{arith}
use Rattle.units.specs.Numbers.{blocks_in, map_region}
use Rattle.driver.proofs.Laws.{border, per_some}
use borrow.Author.Rules.{rules}
use Rattle.driver.proofs.border_after.Goals as goal

pub nonzero_div-result : goal.nonzero_div-result
nonzero_div-result c = let p = per_some c.args.block_size c.requires.0 c.requires.1 in omega arith

pub overflow_add-result : goal.overflow_add-result
overflow_add-result c =
    let a = c.args in
    let b = border a.first (blocks_in a.block_size map_region) (per_some a.block_size c.requires.0 c.requires.1) in
    search (rules, b.quotient)

pub overflow_mul-result : goal.overflow_mul-result
overflow_mul-result c =
    let a = c.args in
    let b = border a.first (blocks_in a.block_size map_region) (per_some a.block_size c.requires.0 c.requires.1) in
    let m = (border map_region a.block_size c.requires.0).quotient in
    let n : (a.first / blocks_in a.block_size map_region + 1) * blocks_in a.block_size map_region ≤ a.first + blocks_in a.block_size map_region = omega (arith, b.near, b.next) in
    search (rules, n, m)
