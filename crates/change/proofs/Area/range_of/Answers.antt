-- SPDX-License-Identifier: Apache-2.0 AND BSD-3-Clause
-- `Area::range_of` meets its contract: each `return` is one part of test (b).
use Prim.Native.Nat.{◌+◌}
use Rattle.std.specs.Prelude.{◌≡◌, ◌≢◌}
use native.Mathlib.Omega.{arith}
use borrow.Author.Tests.{lt-ltb, le-ltb, eq-eqb, ne_eqb}
use Rattle.units.specs.Numbers.{top, bytes_of}
use Rattle.units.proofs.Tests.{flag}
use Rattle.change.specs.Change.{range_of}
use Rattle.change.proofs.Ends.{sum_within_lem, sum_past}
use Rattle.change.proofs.Area.range_of.Goals as goal

pub returns-then-not-aligned : goal.returns-then-not-aligned
unfolding range_of
returns-then-not-aligned c = simp (flag _ _ _ c.is_multiple-aligned.ensures c.if-not-aligned.true)

pub returns-then-no_blocks : goal.returns-then-no_blocks
unfolding range_of
returns-then-no_blocks c =
    let none : c.args.asked.nb_blocks ≡ 0 = omega arith in
    simp (flag _ _ _ c.is_multiple-aligned.ensures c.if-not-aligned.false, eq-eqb _ _ none)

pub returns-then-not-sum_within : goal.returns-then-not-sum_within
unfolding range_of
returns-then-not-sum_within c =
    let a = c.args in
    let e = c.bytes_of-size.ensures in
    let some : a.asked.nb_blocks ≢ 0 = omega arith in
    let p = sum_past (a.asked.addr.0 + c.bytes_of-size.result) top _ c.sum_within.ensures c.if-not-sum_within.true-raw in
    simp
    (flag _ _ _ c.is_multiple-aligned.ensures c.if-not-aligned.false, ne_eqb _ _ some, lt-ltb top (a.asked.addr.0 + bytes_of a.self.block_size a.asked.nb_blocks) (omega arith))

pub returns : goal.returns
unfolding range_of
returns c =
    let a = c.args in
    let e = c.bytes_of-size.ensures in
    let some : a.asked.nb_blocks ≢ 0 = omega arith in
    let p = sum_within_lem (a.asked.addr.0 + c.bytes_of-size.result) top _ c.sum_within.ensures c.if-not-sum_within.false-raw in
    simp
    (flag _ _ _ c.is_multiple-aligned.ensures c.if-not-aligned.false, ne_eqb _ _ some, le-ltb top (a.asked.addr.0 + bytes_of a.self.block_size a.asked.nb_blocks) (omega arith), ← e)
    c.inside_of.ensures
