-- SPDX-License-Identifier: Apache-2.0 AND BSD-3-Clause
-- What a step of reading does to the text that is left.
use Rattle.std.specs.Prelude.{None}
use Prim.Native.Nat.{ℕ, ◌+◌, ◌-◌, ◌*◌, ◌≤◌, ◌<◌}
use mathlib.Core.Path.{◌≡◌, refl}
use mathlib.Core.Bool.{Bool, true, cond}
use mathlib.Core.List.{List, [], ◌∷◌}
use native.Mathlib.Omega.{arith}
use borrow.Author.Tests.{le-leb, lt-leb, lt-ltb, le-ltb, leb-true, ltb-true, ltb-false}
use lib.Dec.{leb, ltb}
use lib.ListN.{length, drop, get_or, length-drop, drop_of_length-le}
use lib.Seq.{drop-cons, drop-drop}
use Rattle.units.proofs.Tests.{by_test, and_left, and_right}
use Rattle.text.specs.Decimal.{largest}
use Rattle.text.specs.Reading.{got, nothing, is_digit, digit_of, more, read_number, bounded, read_to, answer_in, number_at}

-- ---- one byte

pub is_digit_lem : (x : ℕ) → 48 ≤ x → x ≤ 57 → is_digit x ≡ true
unfolding is_digit
is_digit_lem x l h = rw (le-leb 48 x l, le-leb x 57 h)

pub digit_least : (x : ℕ) → is_digit x ≡ true → 48 ≤ x
unfolding is_digit
digit_least x e = leb-true 48 x (and_left (leb 48 x) (leb x 57) e)

pub digit_most : (x : ℕ) → is_digit x ≡ true → x ≤ 57
unfolding is_digit
digit_most x e = leb-true x 57 (and_right (leb 48 x) (leb x 57) e)

-- ---- the digit at a position, from the byte there

pub digit_out : (s : List ℕ) (at : ℕ) → length s ≤ at → 10 ≡ digit_of (drop at s)
unfolding digit_of
digit_out s at h = rw (drop_of_length-le s h)

pub digit_in : (s : List ℕ) (at x : ℕ) (b : Bool) → at < length s → x ≡ get_or s at 0 → is_digit x ≡ b → cond b (x - 48) 10 ≡ digit_of (drop at s)
unfolding digit_of
digit_in s at x b h e d = rw (drop-cons s at 0, ← e, d)

pub digit_inside : (s : List ℕ) (at d : ℕ) → d ≡ digit_of (drop at s) → d ≤ 9 → at < length s
digit_inside s at d e h =
    by_test (ltb at (length s)) (ltb-true at (length s))
    (λ q. let f = digit_out s at (ltb-false at (length s) q) in absurd (omega arith))

-- ---- a digit goes on, and anything else ends the number

pub more_turn : (v : ℕ) (l : List ℕ) → digit_of l ≤ 9 → more v l ≡ more (v * 10 + digit_of l) (drop 1 l)
unfolding more digit_of
more_turn v [] h = absurd (omega arith)
more_turn v (x ∷ xs) h = by_test (is_digit x) (λ e. rw e) (λ e. let h' = rw e at h in absurd (omega arith))

pub more_stop : (v : ℕ) (l : List ℕ) → 9 < digit_of l → more v l ≡ got v l
unfolding more digit_of
more_stop v [] h = refl
more_stop v (x ∷ xs) h =
    by_test (is_digit x) (λ e. let h' = rw e at h in absurd (omega (arith, digit_most x e))) (λ e. rw e)

-- a number that is too large stays too large
more_over : (v : ℕ) (l : List ℕ) → largest < v → bounded (more v l) ≡ nothing
unfolding more bounded
more_over v [] h = rw (lt-leb v largest h)
more_over v (x ∷ xs) h =
    by_test (is_digit x) (λ e. rw e (more_over (v * 10 + (x - 48)) xs (omega arith))) (λ e. rw (e, lt-leb v largest h))

-- ---- what is left at a position of s tells the position, so that one answer says it

pub read_once : (s : List ℕ) (v n : ℕ) → n ≤ length s → read_to v n ≡ answer_in s (got v (drop n s))
read_once s v n h = let e : length s - length (drop n s) ≡ n = simp length-drop (omega arith) in rw e

-- ---- `digits` at position i of s, with v read so far: the end of s, or the digit d there

pub read_end : (s : List ℕ) (i v : ℕ) → length s ≤ i → v ≤ largest → read_to v (length s) ≡ answer_in s (bounded (more v (drop i s)))
unfolding more bounded
read_end s i v h f = let e : length s - 0 ≡ length s = omega arith in rw (drop_of_length-le s h, le-leb v largest f, e)

module _ (s : List ℕ) (i v d : ℕ) (e : d ≡ digit_of (drop i s)) where
  pub read_stop : i ≤ length s → 9 < d → v ≤ largest → read_to v i ≡ answer_in s (bounded (more v (drop i s)))
  unfolding bounded
  read_stop l h f = rw (more_stop v (drop i s) (omega arith), le-leb v largest f) (read_once s v i l)

  pub read_turn : d ≤ 9 → more v (drop i s) ≡ more (v * 10 + d) (drop (i + 1) s)
  read_turn h = rw (more_turn v (drop i s) (omega arith), ← e, drop-drop 1 i s)

  pub read_over : d ≤ 9 → largest < v * 10 + d → None ≡ answer_in s (bounded (more v (drop i s)))
  read_over h f = rw (read_turn h, more_over (v * 10 + d) (drop (i + 1) s) f)

-- ---- `read_number`: the first digit d of a number at a position
module _ (s : List ℕ) (at d : ℕ) (e : d ≡ digit_of (drop at s)) where
  pub no_number : 9 < d → None ≡ number_at s at
  unfolding bounded read_number
  no_number h = rw (← e, lt-ltb 9 d h)

  pub from_digit : d ≤ 9 → 0 < d → answer_in s (bounded (more d (drop (at + 1) s))) ≡ number_at s at
  unfolding read_number
  from_digit h p = rw (← e, le-ltb 9 d h, lt-ltb 0 d p, drop-drop 1 at s)

  module _ (n : ℕ) (f : n ≡ digit_of (drop (at + 1) s)) (z : d ≤ 0) where
    pub more_zeros : n ≤ 9 → None ≡ number_at s at
    unfolding read_number bounded
    more_zeros h = rw (← e, le-ltb 9 d (omega arith), le-ltb 0 d z, drop-drop 1 at s, ← f, le-leb n 9 h)

    pub zero_alone : 9 < n → read_to 0 (at + 1) ≡ number_at s at
    unfolding read_number bounded
    zero_alone h =
        let inside = digit_inside s at d e (omega arith) in
        rw (← e, le-ltb 9 d (omega arith), le-ltb 0 d z, drop-drop 1 at s, ← f, lt-leb n 9 h) (read_once s 0 (at + 1) (omega arith))
