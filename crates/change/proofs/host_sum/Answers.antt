-- SPDX-License-Identifier: Apache-2.0 AND BSD-3-Clause
-- `change::host_sum` meets its contract: a sum that passes 2^64 - 1 before the size is added passes it after.
use Prim.Native.Nat.{◌+◌}
use native.Mathlib.Omega.{arith}
use borrow.Author.Tests.{lt-ltb, le-ltb}
use Rattle.units.specs.Numbers.{top}
use Rattle.change.specs.Change.{host_sum}
use Rattle.change.proofs.Ends.{sum_within_lem, sum_past}
use Rattle.change.proofs.host_sum.Goals as goal

pub returns-then-not-sum_within : goal.returns-then-not-sum_within
unfolding host_sum
returns-then-not-sum_within c =
    let a = c.args in
    let p = sum_past (a.host.0 + a.offset.0) top _ c.sum_within.ensures c.if-not-sum_within.true-raw in
    simp (lt-ltb top (a.host.0 + a.offset.0 + a.size) (omega arith))

pub overflow_add-at : goal.overflow_add-at
overflow_add-at c =
    let a = c.args in
    let p = sum_within_lem (a.host.0 + a.offset.0) top _ c.sum_within.ensures c.if-not-sum_within.false-raw in
    omega arith

pub returns-then-not-sum_within-2 : goal.returns-then-not-sum_within-2
unfolding host_sum
returns-then-not-sum_within-2 c =
    let a = c.args in
    let p = sum_past (a.host.0 + a.offset.0 + a.size) top _ c.sum_within-2.ensures c.if-not-sum_within-2.true-raw in
    simp (lt-ltb top (a.host.0 + a.offset.0 + a.size) p)

pub returns : goal.returns
unfolding host_sum
returns c =
    let a = c.args in
    let p = sum_within_lem (a.host.0 + a.offset.0 + a.size) top _ c.sum_within-2.ensures c.if-not-sum_within-2.false-raw in
    simp (le-ltb top (a.host.0 + a.offset.0 + a.size) p)
