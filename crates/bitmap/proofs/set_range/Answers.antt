-- SPDX-License-Identifier: Apache-2.0 AND BSD-3-Clause
-- `bitmap::set_range` meets its contract: the three parts are filled, one after the other. No loop.
use Prim.Native.Nat.{◌+◌, ◌-◌, ◌*◌, ◌/◌, ◌%◌, min}
use mathlib.Core.Path.{◌≡◌}
use native.Mathlib.Omega.{arith}
use lib.ListN.{length, set, length-set}
use borrow.Author.Rules.{rules}
use Rattle.bitmap.specs.Blocks.{Filled}
use Rattle.bitmap.proofs.Turns.{place, start, filled_out, filled_put, filled_then}
use Rattle.bitmap.proofs.set_range.Goals as goal
use Rattle.bitmap.proofs.set_range.Goals.{After-put-2, After-put-3, After-put_bytes}

pub returns-then-bitmap-j : goal.returns-then-bitmap-j
returns-then-bitmap-j c =
    let a = c.args in
    filled_out a.bitmap.now a.first a.count a.plugged (omega arith)

pub returns-then-count-k : goal.returns-then-count-k
returns-then-count-k c =
    let a = c.args in
    rw (start a.first) at (filled_put a.bitmap.now (a.first / 8) (a.first % 8) a.count c.put.result a.plugged c.put.ensures (omega arith) (omega arith) (omega (arith, c.slice_known-then-count-k-1.given (a.first / 8))) (search rules))

-- the blocks up to the first whole byte
headed : (c : After-put-2) →
    let a = c.args in
    Filled a.bitmap.now (set a.bitmap.now (a.first / 8) c.put-2.result) a.first c.parts_of-p.result.head a.plugged
headed c =
    let a = c.args in
    let p = c.parts_of-p in
    rw (start a.first) at (filled_put a.bitmap.now (a.first / 8) (a.first % 8) p.result.head c.put-2.result a.plugged c.put-2.ensures (omega arith) (omega (arith, p.ensures)) (omega (arith, c.slice_known-2-1.given (a.first / 8))) (search rules))

pub put_bytes-requires : goal.put_bytes-requires
put_bytes-requires c =
    let a = c.args in
    omega (arith, c.parts_of-p.ensures, length-set a.bitmap.now (a.first / 8) c.put-2.result)

-- .. and whole bytes
passed : (c : After-put_bytes) →
    let a = c.args in
    let p = c.parts_of-p.result in
    Filled a.bitmap.now c.put_bytes.new.bitmap a.first (p.head + 8 * (min p.to (length a.bitmap.now) - p.from)) a.plugged
passed c =
    let h = headed c.before.before.before in
    let p = c.parts_of-p in
    filled_then h (rw (c.min-end.ensures, h.outside.same_length, ← p.ensures.head_value.0) at c.put_bytes.ensures)

pub shape_of-bitmap-then-bitmap-to : goal.shape_of-bitmap-then-bitmap-to
shape_of-bitmap-then-bitmap-to c = (passed (goal.at.shape_of-bitmap-then-bitmap-to c).After-put_bytes).outside.same_length

pub returns-then-bitmap-to : goal.returns-then-bitmap-to
returns-then-bitmap-to c =
    let a = c.args in
    let p = c.parts_of-p in
    let n = p.result.head + 8 * (min p.result.to (length a.bitmap.now) - p.result.from) in
    let t = passed (goal.at.returns-then-bitmap-to c).After-put_bytes in
    let w = t.outside.same_length in
    let q : n + (a.count - n) ≡ a.count = omega (arith, p.ensures) in
    rw q at (filled_then t (filled_out c.put_bytes.new.bitmap (a.first + n) (a.count - n) a.plugged (omega (arith, p.ensures))))

-- .. and the blocks of the last byte
filled : (c : After-put-3) →
    let a = c.args in
    let p = c.parts_of-p.result in
    Filled a.bitmap.now (set c.put_bytes.new.bitmap p.to c.put-3.result) a.first a.count a.plugged
filled c =
    let a = c.args in
    let p = c.parts_of-p in
    let n = p.result.head + 8 * (min p.result.to (length a.bitmap.now) - p.result.from) in
    let m = c.put_bytes in
    let t = passed c.before.before.before.before.before in
    let w = t.outside.same_length in
    let q : place p.result.to 0 ≡ a.first + n = omega (arith, p.ensures) in
    let r : n + p.result.tail ≡ a.count = omega (arith, p.ensures) in
    let l = filled_put m.new.bitmap p.result.to 0 p.result.tail c.put-3.result a.plugged c.put-3.ensures (omega arith) (omega (arith, p.ensures)) (omega (arith, c.slice_known-4-1.given p.result.to)) (search rules) in
    rw r at (filled_then t (rw q at l))

pub shape_of-bitmap : goal.shape_of-bitmap
shape_of-bitmap c = (filled (goal.at.shape_of-bitmap c).After-put-3).outside.same_length

pub returns : goal.returns
returns c = filled (goal.at.returns c).After-put-3
