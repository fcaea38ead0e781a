-- SPDX-License-Identifier: Apache-2.0 AND BSD-3-Clause
-- `bitmap::all_in_state` meets its contract: the answers for the three parts are the answer. No loop.
use Prim.Native.Nat.{◌+◌, ◌-◌, ◌*◌, ◌/◌, ◌%◌, min}
use mathlib.Core.Path.{◌≡◌}
use mathlib.Core.Bool.{◌&&◌}
use native.Mathlib.Omega.{arith}
use lib.ListN.{length, drop}
use Rattle.bitmap.specs.Blocks.{blocks, every, all_are}
use Rattle.bitmap.proofs.Laws.{blocks-length, blocks-take, blocks-drop, range_end}
use Rattle.bitmap.proofs.Turns.{place, start, all_here, all_then}
use Rattle.bitmap.proofs.all_in_state.Goals as goal
use Rattle.bitmap.proofs.all_in_state.Goals.{After-are-2, After-bytes_are}

pub returns-then-bitmap-j : goal.returns-then-bitmap-j
unfolding every
returns-then-bitmap-j c =
    let a = c.args in
    rw (range_end (blocks a.bitmap.now) a.first a.count (omega (arith, blocks-length a.bitmap.now)))

pub returns-then-count-k : goal.returns-then-count-k
returns-then-count-k c =
    let a = c.args in
    rw (start a.first) at (all_here a.bitmap.now a.plugged (a.first / 8) (a.first % 8) a.count c.are.result (omega arith) (omega arith) c.are.ensures)

-- past the blocks up to the first whole byte, the answer is that for them and that for the rest
headed : (c : After-are-2) →
    let a = c.args in
    let p = c.parts_of-p.result in
    all_are (blocks a.bitmap.now) a.first a.count a.plugged ≡ (c.are-2.result && all_are (blocks a.bitmap.now) (8 * p.from) (a.count - p.head) a.plugged)
headed c =
    let a = c.args in
    let p = c.parts_of-p in
    let h = rw (start a.first) at (all_here a.bitmap.now a.plugged (a.first / 8) (a.first % 8) p.result.head c.are-2.result (omega arith) (omega (arith, p.ensures)) c.are-2.ensures) in
    rw (h, ← p.ensures.head_value.0) (all_then a.bitmap.now a.plugged a.first p.result.head a.count (omega (arith, p.ensures)))

pub returns-then-not-are : goal.returns-then-not-are
returns-then-not-are c = rw (headed (goal.at.returns-then-not-are c).After-are-2, c.if-not-are.true)

-- past the whole bytes, the answer is that for them and that for the rest
passed : (c : After-bytes_are) →
    let a = c.args in
    let p = c.parts_of-p.result in
    let n = min p.to (length a.bitmap.now) - p.from in
    all_are (blocks a.bitmap.now) a.first a.count a.plugged ≡ (c.are-2.result && all_are (blocks a.bitmap.now) (8 * p.from) (a.count - p.head) a.plugged) →
    all_are (blocks a.bitmap.now) a.first a.count a.plugged ≡ (c.bytes_are.result && all_are (blocks a.bitmap.now) (8 * (p.from + n)) (a.count - p.head - 8 * n) a.plugged)
passed c h =
    let a = c.args in
    let p = c.parts_of-p in
    let n = min p.result.to (length a.bitmap.now) - p.result.from in
    let b = rw (c.min-end.ensures, blocks-take n (drop p.result.from a.bitmap.now), blocks-drop p.result.from a.bitmap.now) at c.bytes_are.ensures in
    let e : 8 * p.result.from + 8 * n ≡ 8 * (p.result.from + n) = omega arith in
    rw (h, c.if-not-are.false, b, ← e)
    (all_then a.bitmap.now a.plugged (8 * p.result.from) (8 * n) (a.count - p.result.head) (omega (arith, p.ensures)))

pub returns-then-not-bytes_are : goal.returns-then-not-bytes_are
returns-then-not-bytes_are c = rw (passed (goal.at.returns-then-not-bytes_are c).After-bytes_are (headed (goal.at.returns-then-not-bytes_are c).After-are-2), c.if-not-bytes_are.true)

pub returns-then-bitmap-to : goal.returns-then-bitmap-to
unfolding every
returns-then-bitmap-to c =
    let a = c.args in
    let p = c.parts_of-p in
    let n = min p.result.to (length a.bitmap.now) - p.result.from in
    rw (passed (goal.at.returns-then-bitmap-to c).After-bytes_are (headed (goal.at.returns-then-bitmap-to c).After-are-2), c.if-not-bytes_are.false, range_end (blocks a.bitmap.now) (8 * (p.result.from + n)) (a.count - p.result.head - 8 * n) (omega (arith, p.ensures, blocks-length a.bitmap.now)))

pub returns : goal.returns
returns c =
    let a = c.args in
    let p = c.parts_of-p in
    let n = min p.result.to (length a.bitmap.now) - p.result.from in
    let q : 8 * (p.result.from + n) ≡ place p.result.to 0 = omega (arith, p.ensures) in
    let r : a.count - p.result.head - 8 * n ≡ p.result.tail = omega (arith, p.ensures) in
    rw (passed (goal.at.returns c).After-bytes_are (headed (goal.at.returns c).After-are-2), c.if-not-bytes_are.false, q, r)
    (all_here a.bitmap.now a.plugged p.result.to 0 p.result.tail c.are-3.result (omega arith) (omega (arith, p.ensures)) c.are-3.ensures)
