-- SPDX-License-Identifier: Apache-2.0 AND BSD-3-Clause
-- `change::host_of` meets its contract: each `return` is one part of test (d).
use Prim.Native.Nat.{◌+◌, ◌%◌}
use native.Mathlib.Omega.{arith}
use borrow.Author.Tests.{lt-ltb, le-ltb, not-true, not-false}
use Rattle.units.specs.Numbers.{map_region}
use Rattle.change.specs.Change.{host_of}
use Rattle.change.proofs.Ends.{sum_within_lem, sum_past}
use Rattle.change.proofs.host_of.Goals as goal

pub returns-then-not-several : goal.returns-then-not-several
unfolding host_of
returns-then-not-several c =
    let a = c.args in
    simp (not-true a.several c.if-not-several.true-raw, ← c.mapping_of.ensures) c.host_in.ensures

pub returns-then-not-sum_within : goal.returns-then-not-sum_within
unfolding host_of
returns-then-not-sum_within c =
    let a = c.args in
    let e = c.in_map_region-within.ensures in
    let p = sum_past (c.in_map_region-within.result.0 + a.size) map_region _ c.sum_within.ensures c.if-not-sum_within.true-raw in
    simp
    (not-false a.several c.if-not-several.false-raw, lt-ltb map_region (a.offset.0 % map_region + a.size) (omega arith))

pub returns : goal.returns
unfolding host_of
returns c =
    let a = c.args in
    let e = c.in_map_region-within.ensures in
    let p = sum_within_lem (c.in_map_region-within.result.0 + a.size) map_region _ c.sum_within.ensures c.if-not-sum_within.false-raw in
    simp
    (not-false a.several c.if-not-several.false-raw, le-ltb map_region (a.offset.0 % map_region + a.size) (omega arith), ← e, ← c.map_region.ensures, ← c.mapping_of-2.ensures)
    c.host_in-2.ensures
