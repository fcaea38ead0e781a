-- SPDX-License-Identifier: Apache-2.0 AND BSD-3-Clause
-- `bitmap::count_set` meets its contract. The loop's invariant: what is counted so far and the set blocks of what is left are those of the range.
-- The measure is what is left.
use native.Mathlib.Nat.{zero-add, add-zero}
use native.Mathlib.Omega.{arith}
use Rattle.bitmap.specs.Blocks.{ones}
use Rattle.bitmap.proofs.Turns.{start, range_out, range_turn}
use Rattle.bitmap.proofs.count_set.Goals as goal
use Rattle.bitmap.proofs.count_set.Goals.{else-bit, then-bit}

pub loop-j-init : goal.loop-j-init
loop-j-init c = (omega arith, omega arith, rw (start c.args.first, zero-add))

pub returns-then-left-eq0 : goal.returns-then-left-eq0
unfolding ones
returns-then-left-eq0 c = rw (c.if-left-eq0.true, add-zero) at c.loop-j.invariant.2

pub loop-j-preserved : goal.loop-j-preserved
unfolding ones
loop-j-preserved c =
    let a = c.args in
    let o = c.loop-j in
    let h = rw (range_turn a.bitmap.now o.j o.k o.left c.bit.result c.loop-j-test.true o.invariant.0 c.if-left-eq0.false c.bit.ensures) at o.invariant.2 in
    elim c.if-bit.branch [ then-bit w ↦ (omega arith, omega arith, (let g = rw w.if-bit.true at h in omega arith)) | else-bit w ↦ (omega arith, omega arith, (let g = rw w.if-bit.false at h in omega arith)) ]

pub returns : goal.returns
unfolding ones
returns c =
    let o = c.loop-j in
    rw (range_out c.args.bitmap.now o.j o.k o.left c.loop-j-test.false, add-zero) at o.invariant.2
