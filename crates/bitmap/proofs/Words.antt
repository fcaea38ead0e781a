-- SPDX-License-Identifier: Apache-2.0 AND BSD-3-Clause
-- Bytes read as one number: it tells whether their blocks are all in one state.
use Prim.Native.Nat.{ℕ, zero, suc, ◌+◌, ◌*◌, ◌≤◌, ◌<◌}
use mathlib.Core.Path.{◌≡◌, refl, sym, ap, ◌∙◌}
use mathlib.Core.Bool.{Bool, ◌&&◌}
use mathlib.Core.List.{List, [], ◌∷◌}
use native.Mathlib.Omega.{arith}
use lib.Dec.{eqb}
use lib.ListN.{length, take, drop, get_or, take-append-drop}
use lib.Seq.{drop-drop, drop-cons}
use borrow.Author.Tests.{eqb-true, eq-eqb}
use Rattle.units.proofs.Tests.{and_left, and_right}
use Rattle.little_endian.specs.Bytes.{value, part}
use Rattle.bitmap.specs.Blocks.{low_bits, blocks, every}
use Rattle.bitmap.specs.Whole.{whole, wholes}
use Rattle.bitmap.proofs.Laws.{blocks-take, blocks-drop, every_append}
use Rattle.bitmap.proofs.Bits.{whole_below, whole-fill}
use Rattle.bitmap.proofs.Bytes.{same_truth, unchanged}

-- a byte
byte_is : (x : ℕ) (v : Bool) → x < 256 → every v (low_bits 8 x) ≡ eqb x (whole v)
unfolding low_bits
byte_is x v h = sym (unchanged x (whole v) 0 8 v h (whole_below v) (whole-fill x v))

-- two numbers are the same where their lowest bytes and what is above them are
both : (a b x y : ℕ) → a < 256 → b < 256 → (eqb a b && eqb x y) ≡ eqb (a + 256 * x) (b + 256 * y)
both a b x y p q =
    same_truth (eqb a b && eqb x y) (eqb (a + 256 * x) (b + 256 * y))
    (λ t.
    let e = eqb-true a b (and_left (eqb a b) (eqb x y) t) in
    let f = eqb-true x y (and_right (eqb a b) (eqb x y) t) in
    eq-eqb (a + 256 * x) (b + 256 * y) (omega arith))
    (λ t.
    let e = eqb-true (a + 256 * x) (b + 256 * y) t in
    rw (eq-eqb a b (omega arith), eq-eqb x y (omega arith)))

-- n bytes
pub bytes_are : (v : Bool) (xs : List ℕ) → ((i : ℕ) → get_or xs i 0 < 256) → (at n : ℕ) → at + n ≤ length xs
    → every v (blocks (part xs at n)) ≡ eqb (value (part xs at n)) (wholes n v)
unfolding every blocks value part wholes
bytes_are v [] b at zero h = refl
bytes_are v [] b at (suc n) h = absurd (omega arith)
bytes_are v (x ∷ xs) b zero zero h = refl
bytes_are v (x ∷ xs) b zero (suc n) h =
    rw (every_append v (low_bits 8 x) (blocks (take n xs)), byte_is x v (b 0), bytes_are v xs (λ i. b (suc i)) 0 n (omega arith))
    (both x (whole v) (value (take n xs)) (wholes n v) (b 0) (whole_below v))
bytes_are v (x ∷ xs) b (suc at) n h = bytes_are v xs (λ i. b (suc i)) at n (omega arith)

-- n bytes, and the rest
pub bytes_turn : (v : Bool) (xs : List ℕ) → ((i : ℕ) → get_or xs i 0 < 256) → (j n : ℕ) → j + n ≤ length xs
    → every v (blocks (drop j xs)) ≡ (eqb (value (part xs j n)) (wholes n v) && every v (blocks (drop (j + n) xs)))
unfolding part
bytes_turn v xs b j n h =
    let ys = drop j xs in
    let s : every v (blocks ys) ≡ (every v (blocks (take n ys)) && every v (blocks (drop n ys))) =
    rw (blocks-take n ys, blocks-drop n ys) (ap (every v) (sym (take-append-drop (8 * n) (blocks ys))) ∙ every_append v (take (8 * n) (blocks ys)) (drop (8 * n) (blocks ys))) in
    let p = bytes_are v xs b j n h in
    s ∙ rw (drop-drop n j xs, ← p)

-- one byte, and the rest
pub byte_turn : (v : Bool) (xs : List ℕ) → ((i : ℕ) → get_or xs i 0 < 256) → (j : ℕ) → j < length xs
    → every v (blocks (drop j xs)) ≡ (eqb (get_or xs j 0) (whole v) && every v (blocks (drop (j + 1) xs)))
unfolding value part wholes
byte_turn v xs b j h =
    let e : value (part xs j 1) ≡ get_or xs j 0 = rw (drop-cons xs j 0 h) (omega arith) in
    let w : wholes 1 v ≡ whole v = omega arith in
    rw (e, w) at (bytes_turn v xs b j 1 (omega arith))
