-- SPDX-License-Identifier: Apache-2.0 AND BSD-3-Clause
-- Reading a number undoes writing it: a word that was written is read, and what was read was written so.
use Rattle.std.specs.Prelude.{Option, Some, None}
use Prim.Native.Nat.{ℕ, zero, suc, ◌+◌, ◌-◌, ◌*◌, ◌/◌, ◌%◌, ◌^◌, ◌≤◌, ◌<◌}
use native.Mathlib.Nat.{div-lt_iff_lt-mul, pow-suc}
use mathlib.Core.Path.{◌≡◌, refl, sym, ap, ◌∙◌}
use mathlib.Core.Bool.{true, false}
use mathlib.Core.List.{List, [], ◌∷◌, ◌++◌, append_assoc}
use native.Mathlib.Omega.{arith}
use borrow.Author.Tests.{le-leb, lt-leb, lt-ltb, le-ltb, leb-true, ltb-true, ltb-false}
use lib.Dec.{leb, ltb}
use lib.ListN.{length, drop, length-append, length-drop}
use lib.Seq.{drop-append_seam, drop-drop}
use Rattle.units.proofs.Tests.{by_test}
use Rattle.text.specs.declared.Number.{Number}
use Rattle.text.specs.Decimal.{largest, spell, decimal}
use Rattle.text.specs.Reading.{Got, got, nothing, is_digit, digit_of, more, read_number, bounded, word_of, read_to, answer_in, number_at}
use Rattle.text.proofs.Turns.{is_digit_lem, digit_most, digit_least, more_turn, more_stop}

-- ---- the text of a number

-- fuel by the number of digits is as good
spell_digits : (j k n : ℕ) → n ≤ j → n < 10 ^ suc k → spell j n ≡ spell k n
unfolding spell
spell_digits zero zero n p q = refl
spell_digits zero (suc k) n p q = let e : n ≡ 0 = omega arith in rw e
spell_digits (suc j) zero n p q = rw (lt-ltb n 10 q)
spell_digits (suc j) (suc k) n p q =
    by_test (ltb n 10) (λ e. rw e)
    (λ e.
    let l = ltb-false n 10 e in
    let m : n < 10 ^ suc k * 10 = rw pow-suc at q in
    let d : n / 10 < 10 ^ suc k = (div-lt_iff_lt-mul (omega arith)).1 m in
    rw (e, spell_digits j k (n / 10) (omega arith) d))

-- the text of a number of at most 20 digits, by computation
pub decimal-20 : (n : ℕ) → n < 10 ^ 20 → decimal n ≡ spell 19 n
unfolding decimal
decimal-20 n h = spell_digits n 19 n (omega arith) h

spell-length : (k n : ℕ) → length (spell k n) ≤ suc k
unfolding spell
spell-length zero n = omega arith
spell-length (suc k) n =
    by_test (ltb n 10) (λ e. rw e (omega arith))
    (λ e. let l = length-append (spell k (n / 10)) ((48 + n % 10) ∷ []) in let i = spell-length k (n / 10) in rw e (omega arith))

-- a word has at most 20 digits
pub word_length : (n : ℕ) → n ≤ largest → length (decimal n) ≤ 20
word_length n h = rw (decimal-20 n (omega arith)) (spell-length 19 n)

-- fuel past the number itself is as good
spell_same : (j k n : ℕ) → n ≤ j → n ≤ k → spell j n ≡ spell k n
unfolding spell
spell_same zero zero n p q = refl
spell_same zero (suc k) n p q = let e : n ≡ 0 = omega arith in rw e
spell_same (suc j) zero n p q = let e : n ≡ 0 = omega arith in rw e
spell_same (suc j) (suc k) n p q =
    by_test (ltb n 10) (λ e. rw e)
    (λ e. let l = ltb-false n 10 e in rw (e, spell_same j k (n / 10) (omega arith) (omega arith)))

pub decimal_one : (n : ℕ) → n < 10 → decimal n ≡ (48 + n) ∷ []
unfolding decimal spell
decimal_one zero h = refl
decimal_one (suc n) h = rw (lt-ltb (suc n) 10 h)

pub decimal_more : (n : ℕ) → 10 ≤ n → decimal n ≡ decimal (n / 10) ++ (48 + n % 10) ∷ []
unfolding decimal spell
decimal_more zero h = absurd (omega arith)
decimal_more (suc n) h = rw (le-ltb (suc n) 10 h, spell_same n (suc n / 10) (suc n / 10) (omega arith) (omega arith))

decimal_next : (w d : ℕ) → 0 < w → d < 10 → decimal (w * 10 + d) ≡ decimal w ++ (48 + d) ∷ []
decimal_next w d p h =
    let q : (w * 10 + d) / 10 ≡ w = omega arith in
    let r : (w * 10 + d) % 10 ≡ d = omega arith in
    rw (decimal_more (w * 10 + d) (omega arith), q, r)

-- the text of a number starts with a digit
pub decimal_starts : (k n : ℕ) (l : List ℕ) → n ≤ k → (d : ℕ) × (ds : List ℕ) × (decimal n ++ l ≡ d ∷ ds) × (is_digit d ≡ true)
decimal_starts zero n l h = (48 + n, l, rw (decimal_one n (omega arith)), is_digit_lem (48 + n) (omega arith) (omega arith))
decimal_starts (suc k) n l h =
    by_test (ltb n 10)
    (λ e. let f = ltb-true n 10 e in (48 + n, l, rw (decimal_one n f), is_digit_lem (48 + n) (omega arith) (omega arith)))
    (λ e.
    let f = ltb-false n 10 e in
    let i = decimal_starts k (n / 10) ((48 + n % 10) ∷ l) (omega arith) in
    (i.0, i.1, rw (decimal_more n f, append_assoc) i.2, i.3))

-- ---- a number that was written is read

digit_byte : (d : ℕ) (l : List ℕ) → d < 10 → digit_of ((48 + d) ∷ l) ≡ d
unfolding digit_of
digit_byte d l h = rw (is_digit_lem (48 + d) (omega arith) (omega arith)) (omega arith)

number_byte : (v : ℕ) (l : List ℕ) → 0 < v → v < 10 → read_number ((48 + v) ∷ l) ≡ more v l
unfolding read_number
number_byte v l p h = rw (digit_byte v l h, le-ltb 9 v (omega arith), lt-ltb 0 v p)

written_more : (k v : ℕ) (l : List ℕ) → v ≤ k → 0 < v → read_number (decimal v ++ l) ≡ more v l
written_more zero v l f p = absurd (omega arith)
written_more (suc k) v l f p =
    by_test (ltb v 10)
    (λ e. rw (decimal_one v (ltb-true v 10 e)) (number_byte v l p (ltb-true v 10 e)))
    (λ e.
    let t = ltb-false v 10 e in
    let b = digit_byte (v % 10) l (omega arith) in
    let s : v / 10 * 10 + v % 10 ≡ v = omega arith in
    rw (decimal_more v t, append_assoc)
    (written_more k (v / 10) ((48 + v % 10) ∷ l) (omega arith) (omega arith)
    ∙ rw (more_turn (v / 10) ((48 + v % 10) ∷ l) (omega arith), b, s)))

zero_written : (l : List ℕ) → 9 < digit_of l → read_number (48 ∷ l) ≡ got 0 l
unfolding read_number
zero_written l h = rw (digit_byte 0 l (omega arith), lt-leb (digit_of l) 9 h)

number_written : (v : ℕ) (rest : List ℕ) → 9 < digit_of rest → read_number (decimal v ++ rest) ≡ got v rest
number_written v rest h =
    by_test (ltb 0 v)
    (λ e. written_more v v rest (omega arith) (ltb-true 0 v e) ∙ more_stop v rest h)
    (λ e. let z : v ≡ 0 = omega (arith, ltb-false 0 v e) in rw (z, decimal_one 0 (omega arith)) (zero_written rest h))

pub word_written : (v : ℕ) (rest : List ℕ) → v ≤ largest → 9 < digit_of rest → word_of (decimal v ++ rest) ≡ got v rest
unfolding bounded
word_written v rest f h = rw (number_written v rest h, le-leb v largest f)

-- where no digit stands, there is no number
pub word_none : (x : ℕ) (l : List ℕ) → is_digit x ≡ false → word_of (x ∷ l) ≡ nothing
unfolding read_number digit_of bounded
word_none x l e = rw e

-- ---- a number that was read was written

digit_cons : (l : List ℕ) → digit_of l ≤ 9 → l ≡ (48 + digit_of l) ∷ drop 1 l
unfolding digit_of
digit_cons [] h = absurd (omega arith)
digit_cons (x ∷ xs) h =
    by_test (is_digit x)
    (λ e. let b : 48 + (x - 48) ≡ x = omega (arith, digit_least x e) in rw (e, b))
    (λ e. let h' = rw e at h in absurd (omega arith))

more_read : (w : ℕ) (l : List ℕ) (v : ℕ) (rest : List ℕ) → 0 < w → more w l ≡ got v rest → decimal w ++ l ≡ decimal v ++ rest
unfolding more
more_read w [] v rest p h = cc
more_read w (x ∷ xs) v rest p h =
    by_test (is_digit x)
    (λ e.
    let b : 48 + (x - 48) ≡ x = omega (arith, digit_least x e) in
    let n = decimal_next w (x - 48) p (omega (arith, digit_most x e)) in
    let i = more_read (w * 10 + (x - 48)) xs v rest (omega arith) (rw e at h) in
    rw (n, append_assoc, b) at i)
    (λ e. let h' = rw e at h in cc)

never : {v : ℕ} {rest : List ℕ} → nothing ≡ got v rest → ⊥
never h = let z : ◌≡◌ {A = ℕ} 0 1 = cc in omega arith

number_read : (l : List ℕ) (v : ℕ) (rest : List ℕ) → read_number l ≡ got v rest → l ≡ decimal v ++ rest
unfolding read_number
number_read l v rest h =
    by_test (ltb 9 (digit_of l)) (λ e. absurd (never (rw e at h)))
    (λ e.
    let f = ltb-false 9 (digit_of l) e in
    by_test (ltb 0 (digit_of l))
    (λ p.
    let m = more_read (digit_of l) (drop 1 l) v rest (ltb-true 0 (digit_of l) p) (rw (e, p) at h) in
    digit_cons l f ∙ rw (decimal_one (digit_of l) (omega arith)) at m)
    (λ p.
    let z : digit_of l ≡ 0 = omega (arith, ltb-false 0 (digit_of l) p) in
    by_test (leb (digit_of (drop 1 l)) 9) (λ q. absurd (never (rw (e, p, q) at h)))
    (λ q.
    let g : got 0 (drop 1 l) ≡ got v rest = rw (e, p, q) at h in
    let a : decimal 0 ++ drop 1 l ≡ 48 ∷ drop 1 l = rw (decimal_one 0 (omega arith)) in
    let b : decimal 0 ++ drop 1 l ≡ decimal v ++ rest = cc in
    rw z at (digit_cons l f) ∙ sym a ∙ b)))

bounded-got : (g : Got) (v : ℕ) (rest : List ℕ) → bounded g ≡ got v rest → (g ≡ got v rest) × (v ≤ largest)
unfolding bounded
bounded-got nothing v rest h = absurd (never h)
bounded-got (got w r) v rest h =
    by_test (leb w largest)
    (λ e. let f : got w r ≡ got v rest = rw e at h in let q : w ≡ v = cc in (f, omega (arith, leb-true w largest e)))
    (λ e. absurd (never (rw e at h)))

pub word_read : (l : List ℕ) (v : ℕ) (rest : List ℕ) → word_of l ≡ got v rest → (l ≡ decimal v ++ rest) × (v ≤ largest)
word_read l v rest h = let b = bounded-got (read_number l) v rest h in (number_read l v rest b.0, b.1)

-- ---- the answer at a position of s says what was got there

-- the rest after a word stands where that much of s is left
rest_at : (s : List ℕ) (at v : ℕ) (rest : List ℕ) → word_of (drop at s) ≡ got v rest → rest ≡ drop (length s - length rest) s
rest_at s at v rest h =
    let r = (word_read (drop at s) v rest h).0 in
    let l = simp (length-append, length-drop) at (ap length r) in
    let some-digit = simp length-append at (ap length (decimal_starts v v rest (omega arith)).2) in
    let e : at + length (decimal v) ≡ length s - length rest = omega arith in
    sym (drop-append_seam (decimal v) rest) ∙ rw (← r, drop-drop, e)

value_of : Option Number → ℕ
value_of (Some n) = n.value
value_of None = 0

next_of : Option Number → ℕ
next_of (Some n) = n.next
next_of None = 0

pub read_to_same : (v n w m : ℕ) → read_to v n ≡ read_to w m → (v ≡ w) × (n ≡ m)
unfolding value_of next_of
read_to_same v n w m h = (ap value_of h, ap next_of h)

module _ (s : List ℕ) (at : ℕ) where
  pub read_none : number_at s at ≡ None → word_of (drop at s) ≡ nothing
  read_none = go (word_of (drop at s))
    where
      go : (g : Got) → answer_in s g ≡ None → g ≡ nothing
      go nothing h = refl
      go (got v rest) h = let z : ◌≡◌ {A = ℕ} 0 1 = cc in absurd (omega arith)

  pub read_rest : (v n : ℕ) → number_at s at ≡ read_to v n → word_of (drop at s) ≡ got v (drop n s)
  read_rest v n = go (word_of (drop at s)) refl
    where
      go : (g : Got) → word_of (drop at s) ≡ g → answer_in s g ≡ read_to v n → g ≡ got v (drop n s)
      go nothing e h = let z : ◌≡◌ {A = ℕ} 0 1 = cc in absurd (omega arith)
      go (got w rest) e h =
          let same = read_to_same w (length s - length rest) v n h in
          let r = rest_at s at w rest e in
          cc
