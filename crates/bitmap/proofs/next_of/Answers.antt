-- SPDX-License-Identifier: Apache-2.0 AND BSD-3-Clause
-- `bitmap::next_of` meets its contract. The loop's invariant: `at` is the block at bit k of byte j, and the search from there gives the answer.
-- The measure is the number of blocks up to `end`.
use Prim.Native.Nat.{ℕ, ◌-◌, ◌+◌, ◌≤◌}
use mathlib.Core.Path.{◌≡◌, sym, ◌∙◌}
use mathlib.Core.Bool.{Bool, not, ◌&&◌}
use mathlib.Core.List.{List, ◌∷◌}
use native.Mathlib.Numerals.{add-one}
use native.Mathlib.Omega.{arith}
use lib.Dec.{eqb}
use lib.ListN.{get_or}
use borrow.Author.Tests.{eqb-true, leb-true}
use Rattle.units.proofs.Tests.{and_left, and_right}
use Rattle.bitmap.specs.Blocks.{blocks, range, first_from, next_in_state}
use Rattle.bitmap.specs.Whole.{whole}
use Rattle.bitmap.proofs.Turns.{next, start, range_out, range_turn, first_hit, first_miss, byte_passed}
use Rattle.bitmap.proofs.next_of.Goals as goal
use Rattle.bitmap.proofs.next_of.Goals.{After-bit, Then-k-bitmap}

pub loop-j-init : goal.loop-j-init
loop-j-init c = (omega arith, rw (start c.args.from))

pub returns-then-end-at : goal.returns-then-end-at
unfolding first_from
returns-then-end-at c =
    let o = c.loop-j in
    let z : c.args.end - o.at ≡ 0 = omega arith in
    rw z at o.invariant.1

-- a byte to pass, from its first bit on, with eight blocks to go
pub record Passed (bitmap : List ℕ) (j k left : ℕ) (v : Bool) : Type 0 where
  pub first : k ≡ 0
  pub none : get_or bitmap j 0 ≡ whole (not v)
  pub eight : 8 ≤ left

skips : (c : Then-k-bitmap) →
    let a = c.args in
    let o = c.loop-j in
    Passed a.bitmap.now o.j o.k (a.end - o.at) a.v
skips c =
    let a = c.args in
    let o = c.loop-j in
    let starts = eqb o.k 0 in
    let passed = c.whole_byte-passed in
    let empty = eqb (get_or a.bitmap.now o.j 0) passed.result in
    let both = and_left (starts && empty) _ c.if-k-bitmap.true in
    record {
      first = eqb-true o.k 0 (and_left starts empty both);
      none = eqb-true (get_or a.bitmap.now o.j 0) passed.result (and_right starts empty both) ∙ passed.ensures;
      eight = leb-true 8 (a.end - o.at) (and_right (starts && empty) _ c.if-k-bitmap.true);
    }

pub overflow_add-at : goal.overflow_add-at
overflow_add-at c = let z = skips (goal.at.overflow_add-at c).Then-k-bitmap in omega arith

pub loop-j-smaller-then-k-bitmap : goal.loop-j-smaller-then-k-bitmap
loop-j-smaller-then-k-bitmap c = let z = skips (goal.at.loop-j-smaller-then-k-bitmap c).Then-k-bitmap in omega arith

pub loop-j-preserved-then-k-bitmap : goal.loop-j-preserved-then-k-bitmap
loop-j-preserved-then-k-bitmap c =
    let a = c.args in
    let o = c.loop-j in
    let z = skips (goal.at.loop-j-preserved-then-k-bitmap c).Then-k-bitmap in
    let e : a.end - (o.at + 8) ≡ a.end - o.at - 8 = omega arith in
    (omega arith, rw (z.first, e) (sym (byte_passed a.v a.bitmap.now o.j (a.end - o.at) o.at c.loop-j-test.true z.none z.eight) ∙ rw z.first at o.invariant.1))

-- past the read of a bit, what is left begins with it
turned : (c : After-bit) →
    let a = c.args in
    let o = c.loop-j in
    first_from a.v o.at (c.bit.result ∷ range (blocks a.bitmap.now) (next o.j o.k) (a.end - o.at - 1)) ≡ next_in_state a.v (blocks a.bitmap.now) a.from a.end
turned c =
    let a = c.args in
    let o = c.loop-j in
    rw (range_turn a.bitmap.now o.j o.k (a.end - o.at) c.bit.result c.loop-j-test.true o.invariant.0 (omega arith) c.bit.ensures) at o.invariant.1

pub returns-then-bit-v : goal.returns-then-bit-v
returns-then-bit-v c =
    let a = c.args in
    let o = c.loop-j in
    sym (first_hit a.v c.bit.result o.at _ c.if-bit-v.true) ∙ turned (goal.at.returns-then-bit-v c).After-bit

pub loop-j-preserved : goal.loop-j-preserved
loop-j-preserved c =
    let a = c.args in
    let o = c.loop-j in
    let e : a.end - (o.at + 1) ≡ a.end - o.at - 1 = omega arith in
    (omega arith, rw (e, add-one o.at) (sym (first_miss a.v c.bit.result o.at _ c.if-bit-v.false) ∙ turned (goal.at.loop-j-preserved c).After-bit))

pub returns : goal.returns
unfolding first_from
returns c =
    let o = c.loop-j in
    let a = c.args in
    rw (range_out a.bitmap.now o.j o.k (a.end - o.at) c.loop-j-test.false) at o.invariant.1
