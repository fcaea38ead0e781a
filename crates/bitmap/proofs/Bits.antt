-- SPDX-License-Identifier: Apache-2.0 AND BSD-3-Clause
-- The bits of one number: how many there are, each of them, and what a mask leaves of them.
use Prim.Native.Nat.{ℕ, zero, suc, ◌+◌, ◌-◌, ◌*◌, ◌/◌, ◌%◌, ◌^◌, ◌≤◌, ◌<◌, min, max}
use mathlib.Core.Path.{◌≡◌, refl, sym, ◌∙◌}
use mathlib.Core.Bool.{Bool, true, false}
use mathlib.Core.List.{◌∷◌}
use native.Mathlib.Nat.{pow-succ', div-div-eq-div-mul}
use native.Mathlib.Omega.{arith}
use lib.Bits.{bit_and, bit_or, and_step, or_step, and_zero_l, or_zero_r, and_comm, and_le_l, and_mask}
use lib.Dec.{eqb}
use lib.Pow.{shl_exact, pow_pos, pow_mono, ones_lt, high_ones}
use Rattle.bitmap.specs.Blocks.{low_bits, block_at, fill}
use Rattle.bitmap.specs.Whole.{whole}
use Rattle.bitmap.proofs.Laws.{fill_none, fill_over}

-- the code's 1 << n, and its mask
pub one_shl : (n : ℕ) → n ≤ 8 → 1 * 2 ^ n % 2 ^ 64 ≡ 2 ^ n
one_shl n h = shl_exact {a = 1} 1 n 64 (omega arith) (omega arith) ∙ omega arith

pub ones_shl : (k n : ℕ) → k + n ≤ 8 → (1 * 2 ^ n % 2 ^ 64 - 1) * 2 ^ k % 2 ^ 64 ≡ 2 ^ (n + k) - 2 ^ k
ones_shl k n h = rw (one_shl n (omega arith)) (shl_exact n k 64 (ones_lt n) (omega arith) ∙ sym (high_ones n k))

-- bit k, by halving k times
pub low_at : (n k x : ℕ) → k < n → block_at (low_bits n x) k ≡ eqb (x / 2 ^ k % 2) 1
unfolding low_bits
low_at zero k x h = absurd (omega arith)
low_at (suc n) zero x h = let e : x ≡ x / 1 = omega arith in rw (← e)
low_at (suc n) (suc k) x h = rw (pow-succ' 2 k, ← div-div-eq-div-mul x 2 (2 ^ k)) (low_at n k (x / 2) (omega arith))

-- ---- a number by its half and its lowest bit
halved : (x h b : ℕ) → x ≡ h * 2 + b → b < 2 → (x / 2 ≡ h) × (x % 2 ≡ b)
halved x h b e l = (omega arith, omega arith)

low_from : (n x h b : ℕ) → (x / 2 ≡ h) × (x % 2 ≡ b) → low_bits (suc n) x ≡ eqb b 1 ∷ low_bits n h
unfolding low_bits
low_from n x h b e = rw (e.0, e.1)

-- x | m and x & m, by the half h and the lowest bit b of m
low_or : (n x m h b : ℕ) → b < 2 → (m / 2 ≡ h) × (m % 2 ≡ b) → low_bits (suc n) (bit_or x m) ≡ eqb (max (x % 2) b) 1 ∷ low_bits n (bit_or (x / 2) h)
low_or n x m h b l e =
    low_from n (bit_or x m) (bit_or (x / 2) h) (max (x % 2) b) (halved (bit_or x m) (bit_or (x / 2) h) (max (x % 2) b) (rw (e.0, e.1) at (or_step x m)) (omega arith))

low_and : (n x m h b : ℕ) → (m / 2 ≡ h) × (m % 2 ≡ b) → low_bits (suc n) (bit_and x m) ≡ eqb (min (x % 2) b) 1 ∷ low_bits n (bit_and (x / 2) h)
low_and n x m h b e =
    low_from n (bit_and x m) (bit_and (x / 2) h) (min (x % 2) b) (halved (bit_and x m) (bit_and (x / 2) h) (min (x % 2) b) (rw (e.0, e.1) at (and_step x m)) (omega arith))

-- twice r, and one more; and each taken from p - 1, where p is twice q
twice : (r : ℕ) → (r * 2 / 2 ≡ r) × (r * 2 % 2 ≡ 0)
twice r = (omega arith, omega arith)

twice_and_one : (r : ℕ) → ((r * 2 + 1) / 2 ≡ r) × ((r * 2 + 1) % 2 ≡ 1)
twice_and_one r = (omega arith, omega arith)

not_twice : (p q r : ℕ) → p ≡ 2 * q → r < q → ((p - 1 - r * 2) / 2 ≡ q - 1 - r) × ((p - 1 - r * 2) % 2 ≡ 1)
not_twice p q r e l = (omega arith, omega arith)

not_twice_and_one : (p q r : ℕ) → p ≡ 2 * q → r < q → ((p - 1 - (r * 2 + 1)) / 2 ≡ q - 1 - r) × ((p - 1 - (r * 2 + 1)) % 2 ≡ 0)
not_twice_and_one p q r e l = (omega arith, omega arith)

-- ---- the mask of the n bits from bit k on
unfoldable pub run : ℕ → ℕ → ℕ
run zero zero = 0
run zero (suc n) = run zero n * 2 + 1
run (suc k) n = run k n * 2

run_sum : (k n m : ℕ) → m ≡ k + n → run k n + 2 ^ k ≡ 2 ^ m
unfolding run
run_sum zero zero zero e = refl
run_sum zero zero (suc m) e = absurd (omega arith)
run_sum zero (suc n) zero e = absurd (omega arith)
run_sum zero (suc n) (suc m) e = omega (arith, pow-succ' 2 m, run_sum zero n m (omega arith))
run_sum (suc k) n zero e = absurd (omega arith)
run_sum (suc k) n (suc m) e = omega (arith, pow-succ' 2 k, pow-succ' 2 m, run_sum k n m (omega arith))

pub run_below : (k n w : ℕ) → k + n ≤ w → run k n < 2 ^ w
run_below k n w h = omega (arith, run_sum k n (k + n) refl, pow_pos k, pow_mono h)

pub run_is : (k n : ℕ) → 2 ^ (n + k) - 2 ^ k ≡ run k n
run_is k n = omega (arith, run_sum k n (n + k) (omega arith))

-- x | run sets them
pub or_run : (w k n x : ℕ) → low_bits w (bit_or x (run k n)) ≡ fill (low_bits w x) k n true
unfolding low_bits fill run
or_run zero k n x = refl
or_run (suc w) zero zero x = rw (or_zero_r x)
or_run (suc w) zero (suc n) x =
    let r = run zero n in
    low_or w x (r * 2 + 1) r 1 (omega arith) (twice_and_one r) ∙ (let b : max (x % 2) 1 ≡ 1 = omega arith in rw (b, or_run w zero n (x / 2)))
or_run (suc w) (suc k) n x =
    let r = run k n in
    low_or w x (r * 2) r 0 (omega arith) (twice r) ∙ (let b : max (x % 2) 0 ≡ x % 2 = omega arith in rw (b, or_run w k n (x / 2)))

-- x & !run, in w bits, clears them
pub and_run : (w k n x : ℕ) → k + n ≤ w → low_bits w (bit_and x (2 ^ w - 1 - run k n)) ≡ fill (low_bits w x) k n false
unfolding low_bits fill run
and_run zero k n x h = refl
and_run (suc w) zero zero x h =
    low_and w x (2 ^ suc w - 1 - 0) (2 ^ w - 1 - 0) 1 (not_twice (2 ^ suc w) (2 ^ w) 0 (pow-succ' 2 w) (pow_pos w))
    ∙ (let b : min (x % 2) 1 ≡ x % 2 = omega arith in rw (b, and_run w zero zero (x / 2) (omega arith), fill_none (low_bits w (x / 2)) 0 false))
and_run (suc w) zero (suc n) x h =
    let r = run zero n in
    let l = run_below zero n w (omega arith) in
    low_and w x (2 ^ suc w - 1 - (r * 2 + 1)) (2 ^ w - 1 - r) 0 (not_twice_and_one (2 ^ suc w) (2 ^ w) r (pow-succ' 2 w) l)
    ∙ (let b : min (x % 2) 0 ≡ 0 = omega arith in rw (b, and_run w zero n (x / 2) (omega arith)))
and_run (suc w) (suc k) n x h =
    let r = run k n in
    let l = run_below k n w (omega arith) in
    low_and w x (2 ^ suc w - 1 - r * 2) (2 ^ w - 1 - r) 1 (not_twice (2 ^ suc w) (2 ^ w) r (pow-succ' 2 w) l)
    ∙ (let b : min (x % 2) 1 ≡ x % 2 = omega arith in rw (b, and_run w k n (x / 2) (omega arith)))

-- what a mask takes and what it leaves
both_bits : (a b : ℕ) → a < 2 → b < 2 → min a (1 - b) + min a b ≡ a
both_bits a b p q = omega arith

both_halves : (a b p q x : ℕ) → a + b ≡ x / 2 → p + q ≡ x % 2 → (a * 2 + p) + (b * 2 + q) ≡ x
both_halves a b p q x e f = omega arith

pub and_split : (w x m : ℕ) → x < 2 ^ w → m < 2 ^ w → bit_and x (2 ^ w - 1 - m) + bit_and x m ≡ x
and_split zero x m p q = omega (arith, and_le_l x (2 ^ 0 - 1 - m), and_le_l x m)
and_split (suc w) x m p q =
    let o = pow-succ' 2 w in
    let d : (2 ^ suc w - 1 - m) / 2 ≡ 2 ^ w - 1 - m / 2 = omega arith in
    let e : (2 ^ suc w - 1 - m) % 2 ≡ 1 - m % 2 = omega arith in
    let t = rw (d, e) at (and_step x (2 ^ suc w - 1 - m)) in
    rw (t, and_step x m)
    (both_halves (bit_and (x / 2) (2 ^ w - 1 - m / 2)) (bit_and (x / 2) (m / 2)) (min (x % 2) (1 - m % 2)) (min (x % 2) (m % 2)) x
    (and_split w (x / 2) (m / 2) (omega arith) (omega arith))
    (both_bits (x % 2) (m % 2) (omega arith) (omega arith)))

-- the byte of eight blocks in one state
pub whole_below : (v : Bool) → whole v < 256
unfolding whole
whole_below true = omega arith
whole_below false = omega arith

pub whole-fill : (x : ℕ) (v : Bool) → low_bits 8 (whole v) ≡ fill (low_bits 8 x) 0 8 v
unfolding low_bits fill whole
whole-fill x true = refl
whole-fill x false = refl

-- ---- the code's put and test of the n bits from bit k on
module _ (k n x : ℕ) (h : k + n ≤ 8) where
  pub all_ones : bit_and 255 (run k n) ≡ run k n
  all_ones =
      let q = run_below k n 8 h in
      and_comm 255 (run k n) ∙ and_mask (run k n) 8 ∙ omega arith

  pub put_run : (v : Bool) → low_bits 8 (bit_or (bit_and x (255 - run k n)) (bit_and (whole v) (run k n))) ≡ fill (low_bits 8 x) k n v
  unfolding whole
  put_run true =
      rw all_ones (or_run 8 k n (bit_and x (255 - run k n)) ∙ rw (and_run 8 k n x h) (fill_over (low_bits 8 x) k n false true))
  put_run false = rw (and_zero_l (run k n), or_zero_r (bit_and x (255 - run k n))) (and_run 8 k n x h)
