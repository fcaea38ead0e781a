-- SPDX-License-Identifier: Apache-2.0 AND BSD-3-Clause
-- The blocks of a list of bytes against the bytes: reading one, filling a part of one, and that the blocks tell the bytes.
use Prim.Native.Nat.{ℕ, zero, suc, ◌+◌, ◌-◌, ◌*◌, ◌/◌, ◌%◌, ◌^◌, ◌≤◌, ◌<◌}
use mathlib.Core.Path.{◌≡◌, refl, ap, ◌∙◌, sym}
use mathlib.Core.Bool.{Bool, true, false}
use mathlib.Core.List.{List, [], ◌∷◌}
use native.Mathlib.Nat.{zero-add, pow-succ'}
use native.Mathlib.Omega.{arith}
use lib.Bits.{bit_and, bit_or, and_zero_l, and_le_l, or_lt, or_add_and}
use lib.Dec.{eqb}
use lib.ListN.{take, drop, length, length-drop, get_or, set, get_or-append}
use lib.Seq.{get_or-append-add, take_at, drop_at, take-append-le, drop-append-le, drop-append-add}
use borrow.Author.Tests.{eqb-true, eq-eqb}
use Rattle.bitmap.specs.Blocks.{low_bits, blocks, block_at, range, all_are, fill, Filled}
use Rattle.bitmap.specs.Whole.{whole}
use Rattle.bitmap.proofs.Laws.{low_length, blocks-length, fill_left, fill_right, fill_same, all_filled}
use Rattle.bitmap.proofs.Bits.{run, run_below, or_run, and_split, and_run, all_ones}

pub blocks_at : (xs : List ℕ) (j k : ℕ) → j < length xs → k < 8 → block_at (blocks xs) (8 * j + k) ≡ block_at (low_bits 8 (get_or xs j 0)) k
unfolding blocks
blocks_at [] j k h l = absurd (omega arith)
blocks_at (x ∷ xs) zero k h l = rw zero-add (get_or-append (low_bits 8 x) (blocks xs) false k (omega (arith, low_length 8 x)))
blocks_at (x ∷ xs) (suc j) k h l =
    let e : 8 * suc j + k ≡ length (low_bits 8 x) + (8 * j + k) = omega (arith, low_length 8 x) in
    rw (e, get_or-append-add (low_bits 8 x) (blocks xs) (8 * j + k) false) (blocks_at xs j k (omega arith) l)

-- a byte that is filled in part is a bitmap that is filled
pub blocks_put : (xs : List ℕ) (j k n y : ℕ) (v : Bool) → j < length xs → k + n ≤ 8 → low_bits 8 y ≡ fill (low_bits 8 (get_or xs j 0)) k n v → blocks (set xs j y) ≡ fill (blocks xs) (8 * j + k) n v
unfolding blocks
blocks_put [] j k n y v h l e = absurd (omega arith)
blocks_put (x ∷ xs) zero k n y v h l e =
    rw (zero-add, e) (sym (fill_left (low_bits 8 x) (blocks xs) k n v (omega (arith, low_length 8 x))))
blocks_put (x ∷ xs) (suc j) k n y v h l e =
    let p : 8 * suc j + k ≡ length (low_bits 8 x) + (8 * j + k) = omega (arith, low_length 8 x) in
    rw (p, fill_right (low_bits 8 x) (blocks xs) (8 * j + k) n v, blocks_put xs j k n y v (omega arith) l e)

-- a range within a byte
pub blocks-range : (xs : List ℕ) (j k n : ℕ) → j < length xs → k + n ≤ 8 → range (blocks xs) (8 * j + k) n ≡ range (low_bits 8 (get_or xs j 0)) k n
unfolding blocks
blocks-range [] j k n h l = absurd (omega arith)
blocks-range (x ∷ xs) zero k n h l =
    let w = low_length 8 x in
    rw (zero-add, drop-append-le k (low_bits 8 x) (blocks xs) (omega arith))
    (take-append-le n (drop k (low_bits 8 x)) (blocks xs) (rw (length-drop k (low_bits 8 x)) (omega arith)))
blocks-range (x ∷ xs) (suc j) k n h l =
    let e : 8 * suc j + k ≡ length (low_bits 8 x) + (8 * j + k) = omega (arith, low_length 8 x) in
    rw (e, drop-append-add (low_bits 8 x) (blocks xs) (8 * j + k)) (blocks-range xs j k n (omega arith) l)

-- ---- the blocks tell the bytes
same_bit : (a b : ℕ) → a < 2 → b < 2 → eqb a 1 ≡ eqb b 1 → a ≡ b
same_bit zero zero l m e = refl
same_bit zero (suc zero) l m e = let z : ◌≡◌ {A = ℕ} 0 1 = cc in z
same_bit (suc zero) zero l m e = let z : ◌≡◌ {A = ℕ} 1 0 = cc in z
same_bit (suc zero) (suc zero) l m e = refl
same_bit zero (suc (suc b)) l m e = absurd (omega arith)
same_bit (suc zero) (suc (suc b)) l m e = absurd (omega arith)
same_bit (suc (suc a)) b l m e = absurd (omega arith)

pub same_number : (n x y : ℕ) → x < 2 ^ n → y < 2 ^ n → low_bits n x ≡ low_bits n y → x ≡ y
unfolding low_bits
same_number zero x y p q e = omega arith
same_number (suc n) x y p q e =
    let w = pow-succ' 2 n in
    let h : low_bits n (x / 2) ≡ low_bits n (y / 2) = cc in
    let b : eqb (x % 2) 1 ≡ eqb (y % 2) 1 = cc in
    let r = same_bit (x % 2) (y % 2) (omega arith) (omega arith) b in
    omega (arith, same_number n (x / 2) (y / 2) (omega arith) (omega arith) h)

pub blocks_tell : (xs ys : List ℕ) → ((i : ℕ) → get_or xs i 0 < 256) → ((i : ℕ) → get_or ys i 0 < 256) → blocks xs ≡ blocks ys → xs ≡ ys
unfolding blocks
blocks_tell [] [] p q e = refl
blocks_tell [] (y ∷ ys) p q e = absurd (omega (arith, ap length e, blocks-length [], blocks-length (y ∷ ys)))
blocks_tell (x ∷ xs) [] p q e = absurd (omega (arith, ap length e, blocks-length [], blocks-length (x ∷ xs)))
blocks_tell (x ∷ xs) (y ∷ ys) p q e =
    let h : low_bits 8 x ≡ low_bits 8 y = sym (take_at (low_bits 8 x) (blocks xs) 8 (low_length 8 x)) ∙ ap (take 8) e ∙ take_at (low_bits 8 y) (blocks ys) 8 (low_length 8 y) in
    let t : blocks xs ≡ blocks ys = sym (drop_at (low_bits 8 x) (blocks xs) 8 (low_length 8 x)) ∙ ap (drop 8) e ∙ drop_at (low_bits 8 y) (blocks ys) 8 (low_length 8 y) in
    let n = same_number 8 x y (p 0) (q 0) h in
    let r = blocks_tell xs ys (λ i. p (suc i)) (λ i. q (suc i)) t in
    cc

-- so a promise of `Filled` leaves one outcome only
pub filled_once : (entry xs ys : List ℕ) (first count : ℕ) (v : Bool) → ((i : ℕ) → get_or xs i 0 < 256) → ((i : ℕ) → get_or ys i 0 < 256) → Filled entry xs first count v → Filled entry ys first count v → xs ≡ ys
filled_once entry xs ys first count v p q f g = blocks_tell xs ys p q (f.as_blocks ∙ sym g.as_blocks)

-- ---- a byte that a filling does not change has those blocks in that state
pub same_truth : (a b : Bool) → (a ≡ true → b ≡ true) → (b ≡ true → a ≡ true) → a ≡ b
same_truth true true f g = refl
same_truth true false f g = sym (f refl)
same_truth false true f g = g refl
same_truth false false f g = refl

pub unchanged : (x y k n : ℕ) (v : Bool) → x < 256 → y < 256 → low_bits 8 y ≡ fill (low_bits 8 x) k n v → eqb x y ≡ all_are (low_bits 8 x) k n v
unchanged x y k n v p q e =
    same_truth (eqb x y) (all_are (low_bits 8 x) k n v)
    (λ t.
    let f : fill (low_bits 8 x) k n v ≡ low_bits 8 x = sym e ∙ ap (low_bits 8) (sym (eqb-true x y t)) in
    rw f at (all_filled (low_bits 8 x) k n v))
    (λ t. eq-eqb x y (sym (same_number 8 y x q p (e ∙ fill_same (low_bits 8 x) k n v t))))

same_test : (a b c d : ℕ) → (a ≡ b → c ≡ d) → (c ≡ d → a ≡ b) → eqb a b ≡ eqb c d
same_test a b c d f g = same_truth (eqb a b) (eqb c d) (λ t. eq-eqb c d (f (eqb-true a b t))) (λ t. eq-eqb a b (g (eqb-true c d t)))

pub are_run : (k n x : ℕ) (v : Bool) → k + n ≤ 8 → x < 256 → eqb (bit_and x (run k n)) (bit_and (whole v) (run k n)) ≡ all_are (low_bits 8 x) k n v
unfolding whole
are_run k n x true h p =
    let m = run k n in
    let s = or_add_and x m in
    let q = run_below k n 8 h in
    rw (all_ones k n x h)
    (same_test (bit_and x m) m x (bit_or x m) (λ e. omega arith) (λ e. omega arith)
    ∙ unchanged x (bit_or x m) k n true p (or_lt 8 x m p q) (or_run 8 k n x))
are_run k n x false h p =
    let m = run k n in
    let q = run_below k n 8 h in
    let s = and_split 8 x m p q in
    let z = and_zero_l m in
    rw z
    (same_test (bit_and x m) 0 x (bit_and x (255 - m)) (λ e. omega arith) (λ e. omega arith)
    ∙ unchanged x (bit_and x (255 - m)) k n false p (omega (arith, and_le_l x (255 - m))) (and_run 8 k n x h))
