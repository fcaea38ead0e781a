-- SPDX-License-Identifier: Apache-2.0 AND BSD-3-Clause
-- `bitmap::bytes_are` meets its contract. The invariant of both loops: the answer for the bytes from byte j on is the answer.
-- The measure is the number of bytes that are left.
use Prim.Native.Nat.{◌+◌}
use mathlib.Core.Path.{◌≡◌, refl}
use mathlib.Core.Bool.{◌&&◌}
use native.Mathlib.Omega.{arith}
use lib.Dec.{eqb}
use lib.ListN.{drop, get_or, drop_of_length-le}
use borrow.Author.Tests.{eq-eqb, ne_eqb}
use Rattle.bitmap.specs.Blocks.{blocks, every}
use Rattle.bitmap.proofs.Words.{bytes_turn, byte_turn}
use Rattle.bitmap.proofs.bytes_are.Goals as goal
use Rattle.bitmap.proofs.bytes_are.Goals.{After-read_u64, After-shared_slice_known-in-loop-j-2-1, else-bytes-ge8, then-bytes-ge8+else-loop-j-test}
use Rattle.bitmap.proofs.bytes_are.Invariants.{Left}

pub loop-j-init : goal.loop-j-init
unfolding Left
loop-j-init c = (omega arith, refl)

-- past a read of eight bytes, the answer is that for them and that for the rest
eight : (c : After-read_u64) →
    let a = c.args in
    (eqb c.read_u64.result c.whole_word-word.result && every a.v (blocks (drop (c.loop-j.j + 8) a.bytes.now))) ≡ every a.v (blocks a.bytes.now)
unfolding Left
eight c =
    let a = c.args in
    let o = c.loop-j in
    rw (c.read_u64.ensures, c.whole_word-word.ensures)
    (rw (bytes_turn a.v a.bytes.now (λ i. omega (arith, c.shared_slice_known-1.given i)) o.j 8 (omega arith)) at o.invariant.1)

pub returns-then-read_u64-word : goal.returns-then-read_u64-word
returns-then-read_u64-word c = rw (ne_eqb c.read_u64.result c.whole_word-word.result c.if-read_u64-word.true) at (eight (goal.at.returns-then-read_u64-word c).After-read_u64)

pub loop-j-preserved : goal.loop-j-preserved
unfolding Left
loop-j-preserved c =
    (omega arith, rw (eq-eqb c.read_u64.result c.whole_word-word.result c.if-read_u64-word.false) at (eight (goal.at.loop-j-preserved c).After-read_u64))

pub loop-j-2-init : goal.loop-j-2-init
unfolding Left
loop-j-2-init c =
    let a = c.args in
    elim c.if-bytes-ge8.branch [
      | then-bytes-ge8+else-loop-j-test w ↦ rw w.j-is w.loop-j.invariant
      | else-bytes-ge8 w ↦ rw w.j-is (omega arith, refl)
    ]

-- past the read of one
one : (c : After-shared_slice_known-in-loop-j-2-1) →
    let a = c.args in
    let j = c.loop-j-2.j in
    (eqb (get_or a.bytes.now j 0) c.whole_byte-byte.result && every a.v (blocks (drop (j + 1) a.bytes.now))) ≡ every a.v (blocks a.bytes.now)
unfolding Left
one c =
    let a = c.args in
    let o = c.loop-j-2 in
    rw c.whole_byte-byte.ensures
    (rw (byte_turn a.v a.bytes.now (λ i. omega (arith, c.shared_slice_known-in-loop-j-2-1.given i)) o.j (omega arith)) at o.invariant.1)

pub returns-then-bytes-j : goal.returns-then-bytes-j
returns-then-bytes-j c =
    let a = c.args in
    rw (ne_eqb (get_or a.bytes.now c.loop-j-2.j 0) c.whole_byte-byte.result c.if-bytes-j.true) at (one (goal.at.returns-then-bytes-j c).After-shared_slice_known-in-loop-j-2-1)

pub loop-j-2-preserved : goal.loop-j-2-preserved
unfolding Left
loop-j-2-preserved c =
    let a = c.args in
    (omega arith, rw (eq-eqb (get_or a.bytes.now c.loop-j-2.j 0) c.whole_byte-byte.result c.if-bytes-j.false) at (one (goal.at.loop-j-2-preserved c).After-shared_slice_known-in-loop-j-2-1))

pub returns : goal.returns
unfolding Left blocks every
returns c =
    let a = c.args in
    rw (drop_of_length-le a.bytes.now {i = c.loop-j-2.j} (omega arith)) at c.loop-j-2.invariant.1
