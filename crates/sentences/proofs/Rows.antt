-- SPDX-License-Identifier: Apache-2.0 AND BSD-3-Clause
-- The laws of the map's rows: a row grows by one block at its end.
use Prim.Native.Nat.{ℕ, zero, suc, ◌+◌, ◌<◌, min}
use mathlib.Core.Path.{◌≡◌, refl, ap, ◌∙◌}
use mathlib.Core.Bool.{Bool, true, false, not, beq, ◌&&◌}
use mathlib.Core.List.{List, [], ◌∷◌, ◌++◌}
use native.Mathlib.Numerals.{add-one}
use native.Mathlib.Omega.{arith}
use borrow.Author.Tests.{not-true, not-false, eqb-true, eqb-false}
use lib.Dec.{eqb}
use Rattle.units.proofs.Tests.{by_test}
use lib.ListN.{length}
use lib.Seq.{length-sets}
use Rattle.bitmap.specs.Blocks.{block_at}
use Rattle.text.specs.Putting.{Put}
use Rattle.sentences.specs.Summary.{mark, row_text, same_row}

-- nothing is put
pub put_none : (out : List ℕ) (at r : ℕ) → r ≡ min at (length out + 1) → Put out at [] out r
put_none out at r e = record { held = refl; next = omega arith }

-- what is put into keeps its length
pub put_long : {b : List ℕ} {at : ℕ} {text b1 : List ℕ} {r : ℕ} → Put b at text b1 r → length b1 ≡ length b
put_long {b} {at} {text} p = ap length p.held ∙ length-sets b at text

pub row_more : (bs : List Bool) (first i : ℕ) → row_text bs first (i + 1) ≡ row_text bs first i ++ mark (block_at bs (first + i)) ∷ []
unfolding row_text
row_more bs first i = rw (add-one)

pub row_end : (bs : List Bool) (first i n : ℕ) → i ≡ n → row_text bs first i ≡ row_text bs first n
row_end bs first i n e = rw e

-- rows of no blocks are the same; those that are the same so far stay so by a block that is alike
pub same_none : (bs : List Bool) (a b : ℕ) → same_row bs a b 0 ≡ true
unfolding same_row
same_none bs a b = refl

pub same_more : (bs : List Bool) (a b i : ℕ) {x y : Bool} → same_row bs a b i ≡ true → x ≡ block_at bs (a + i) → y ≡ block_at bs (b + i)
    → not (beq x y) ≡ false → same_row bs a b (i + 1) ≡ true
unfolding same_row
same_more bs a b i {x} {y} h e f t = rw (add-one, ← e, ← f, not-false (beq x y) t) h

-- and a block that differs decides
never : (x : Bool) → (x && false) ≡ false
never true = refl
never false = refl

pub same_not : (bs : List Bool) (a b i count : ℕ) {x y : Bool} → i < count → x ≡ block_at bs (a + i) → y ≡ block_at bs (b + i)
    → not (beq x y) ≡ true → same_row bs a b count ≡ false
unfolding same_row
same_not bs a b i zero h e f t = absurd (omega arith)
same_not bs a b i (suc count) {x} {y} h e f t =
    by_test (eqb i count) (λ q. rw (← eqb-true i count q, ← e, ← f, not-true (beq x y) t))
    (λ q.
    let k = eqb-false i count q in
    rw (same_not bs a b i count (omega arith) e f t) (never (beq (block_at bs (a + count)) (block_at bs (b + count)))))
