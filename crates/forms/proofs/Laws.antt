-- SPDX-License-Identifier: Apache-2.0 AND BSD-3-Clause
-- A form that was filled at the start of a text is found there with what it was filled with, and what was found there was a filled form.
use Rattle.std.specs.Prelude.{Option, Some, None}
use Prim.Native.Nat.{ℕ, zero, suc, min, ◌+◌, ◌-◌, ◌*◌, ◌≤◌, ◌<◌}
use mathlib.Core.Path.{◌≡◌, refl, sym, ap, ◌∙◌}
use mathlib.Core.Bool.{Bool, true, cond, not, ◌&&◌}
use mathlib.Core.List.{List, [], ◌∷◌, ◌++◌, append_assoc, append-nil}
use native.Mathlib.Omega.{arith}
use borrow.Author.Tests.{not-true, eq-eqb, eqb-true, le-leb, leb-true, leb-false, ltb-true, ltb-false}
use lib.Dec.{eqb, leb, ltb}
use lib.ListN.{length, take, drop, get_or, length-append, length-drop, drop_of_length-le, get_or-append, get_or-eq_default}
use lib.Seq.{sets, sets-eq, drop-cons, drop-drop, drop-append_seam, get_or-append_seam, get_or-append-add, get_or-drop, take-length}
use Rattle.units.proofs.Tests.{by_test, and_left, and_right}
use Rattle.text.specs.Decimal.{largest, decimal}
use Rattle.text.specs.Reading.{Got, got, nothing, is_digit, digit_of, word_of}
use Rattle.text.proofs.Laws.{word_written, word_read, word_length}
use Rattle.forms.specs.Forms.{is_hole, holes, filled_from}
use Rattle.forms.specs.Scanning.{Scan, found, lost, numbers, push, hole_then, byte_then, scan_of, is_whole, place_in, Scanned, ScannedAt}

-- each is a word
abbrev pub Words : List ℕ → Type 0
Words [] = Prim.Unit {0}
Words (v ∷ vs) = (v ≤ largest) × Words vs

pub word : (vs : List ℕ) (i : ℕ) → Words vs → get_or vs i 0 ≤ largest
word [] i h = omega arith
word (v ∷ vs) zero h = h.0
word (v ∷ vs) (suc i) h = word vs i h.1

-- n numbers of a list, from the k-th on
abbrev pub taken : ℕ → ℕ → List ℕ → List ℕ
taken k zero vs = []
taken k (suc n) vs = get_or vs k 0 ∷ taken (suc k) n vs

pub taken_all : (a n : ℕ) (vs : List ℕ) → a + n ≤ length vs → take n (drop a vs) ≡ taken a n vs
taken_all a zero vs h = refl
taken_all a (suc n) vs h =
    rw (drop-cons vs a 0 (omega arith)) (ap (λ (l : List ℕ). get_or vs a 0 ∷ l) (taken_all (suc a) n vs (omega arith)))

-- ---- the length of a filled form: a hole of one byte becomes at most 20

pub filled_length : (k : ℕ) (form vs : List ℕ) → Words (taken k (holes form) vs) → length (filled_from k form vs) ≤ length form + 19 * holes form
unfolding filled_from holes
filled_length k [] vs w = omega arith
filled_length k (t ∷ ts) vs w =
    by_test (is_hole t)
    (λ e.
    let u : Words (get_or vs k 0 ∷ taken (suc k) (holes ts) vs) = rw e at w in
    let i = filled_length (suc k) ts vs u.1 in
    let d = word_length (get_or vs k 0) u.0 in
    rw e (simp length-append (omega arith)))
    (λ e. let i = filled_length k ts vs (rw e at w) in rw e (omega arith))

-- ---- what was filled is found

-- after a hole stands neither a digit nor a hole
abbrev pub opens : List ℕ → Bool
opens [] = true
opens (x ∷ xs) = not (is_digit x) && not (is_hole x)

abbrev pub apart : List ℕ → Bool
apart [] = true
apart (t ∷ ts) = cond (is_hole t) (opens ts && apart ts) (apart ts)

pub opened : (k : ℕ) (ts vs rest : List ℕ) → 9 < digit_of rest → opens ts ≡ true → 9 < digit_of (filled_from k ts vs ++ rest)
unfolding digit_of filled_from
opened k [] vs rest d h = d
opened k (x ∷ xs) vs rest d h =
    let a = not-true (is_digit x) (and_left (not (is_digit x)) (not (is_hole x)) h) in
    let b = not-true (is_hole x) (and_right (not (is_digit x)) (not (is_hole x)) h) in
    rw (b, a) (omega arith)

pub scan_written : (k : ℕ) (form vs rest : List ℕ) → 9 < digit_of rest → apart form ≡ true → Words (taken k (holes form) vs)
    → scan_of form (filled_from k form vs ++ rest) ≡ found (taken k (holes form) vs) rest
unfolding scan_of filled_from holes hole_then byte_then push
scan_written k [] vs rest d a w = refl
scan_written k (t ∷ ts) vs rest d a w =
    by_test (is_hole t)
    (λ e.
    let b : opens ts && apart ts ≡ true = rw e at a in
    let u : Words (get_or vs k 0 ∷ taken (suc k) (holes ts) vs) = rw e at w in
    let n = word_written (get_or vs k 0) (filled_from (suc k) ts vs ++ rest) u.0 (opened (suc k) ts vs rest d (and_left (opens ts) (apart ts) b)) in
    rw (e, append_assoc (decimal (get_or vs k 0)) (filled_from (suc k) ts vs) rest, n, scan_written (suc k) ts vs rest d (and_right (opens ts) (apart ts) b) u.1))
    (λ e. rw (e, eq-eqb t t refl) (scan_written k ts vs rest d (rw e at a) (rw e at w)))

-- ---- what was found was filled

pub missing : {vs us rest : List ℕ} → lost vs ≡ found us rest → ⊥
missing h = let z : ◌≡◌ {A = ℕ} 0 1 = cc in omega arith

push_is : (v : ℕ) (scan : Scan) (us rest : List ℕ) → push v scan ≡ found us rest → (vs : List ℕ) × (scan ≡ found vs rest) × (us ≡ v ∷ vs)
unfolding push
push_is v (found vs l) us rest h = (vs, cc, cc)
push_is v (lost vs) us rest h = absurd (missing h)

hole_is : (g : Got) (f : List ℕ → Scan) (us rest : List ℕ) → hole_then g f ≡ found us rest
    → (v : ℕ) × (l : List ℕ) × (vs : List ℕ) × (g ≡ got v l) × (f l ≡ found vs rest) × (us ≡ v ∷ vs)
unfolding hole_then
hole_is nothing f us rest h = absurd (missing h)
hole_is (got v l) f us rest h = let p = push_is v (f l) us rest h in (v, l, p.0, refl, p.1, p.2)

byte_is : (t : ℕ) (s : List ℕ) (f : List ℕ → Scan) (us rest : List ℕ) → byte_then t s f ≡ found us rest → (l : List ℕ) × (t ∷ l ≡ s) × (f l ≡ found us rest)
unfolding byte_then
byte_is t [] f us rest h = absurd (missing h)
byte_is t (x ∷ xs) f us rest h =
    by_test (eqb x t) (λ e. (xs, ap (λ (y : ℕ). y ∷ xs) (sym (eqb-true x t e)), rw e at h)) (λ e. absurd (missing (rw e at h)))

-- the numbers us are words, as many as there are holes; the text is the filled form, and then `rest`. xs stands before the numbers
pub record Filled (form s us rest : List ℕ) : Type 0 where
  pub words : Words us
  pub count : length us ≡ holes form
  pub text : (xs : List ℕ) → filled_from (length xs) form (xs ++ us) ++ rest ≡ s

pub scan_filled : (form s us rest : List ℕ) → scan_of form s ≡ found us rest → Filled form s us rest
unfolding scan_of filled_from holes
scan_filled [] s us rest h =
    let e : [] ≡ us = cc in
    let f : s ≡ rest = cc in
    record { words = rw (← e) tt; count = rw (← e); text = λ xs. sym f }
scan_filled (t ∷ ts) s us rest h =
    by_test (is_hole t)
    (λ e.
    let q = hole_is (word_of s) (scan_of ts) us rest (rw e at h) in
    let v = q.0 in
    let vs = q.2 in
    let n = word_read s v q.1 q.3 in
    let i = scan_filled ts q.1 vs rest q.4 in
    let m : length us ≡ suc (length vs) = ap length q.5 in
    record {
      words = rw q.5 (n.1, i.words);
      count = rw e (m ∙ ap suc i.count);
      text =
          λ xs.
          let l : length (xs ++ (v ∷ [])) ≡ suc (length xs) = length-append xs (v ∷ []) ∙ omega arith in
          let f = rw (l, append_assoc xs (v ∷ []) vs) at (i.text (xs ++ (v ∷ []))) in
          rw (e, q.5, get_or-append_seam xs v vs 0) (append_assoc (decimal v) (filled_from (suc (length xs)) ts (xs ++ v ∷ vs)) rest ∙ rw f (sym n.0));
    })
    (λ e.
    let q = byte_is t s (scan_of ts) us rest (rw e at h) in
    let i = scan_filled ts q.0 us rest q.2 in
    record {
      words = i.words;
      count = rw e i.count;
      text = λ xs. rw e (ap (λ (r : List ℕ). t ∷ r) (i.text xs) ∙ q.1);
    })

-- there are no more numbers than holes
all_taken : (form s us rest : List ℕ) → Filled form s us rest → us ≡ taken 0 (holes form) us
all_taken form s us rest f = rw (← f.count) (sym (take-length us) ∙ taken_all 0 (length us) us (omega arith))

pub scan_read : (form s us rest : List ℕ) → scan_of form s ≡ found us rest → Words us × (filled_from 0 form (taken 0 (holes form) us) ++ rest ≡ s)
scan_read form s us rest h =
    let f = scan_filled form s us rest h in
    (f.words, ap (λ (l : List ℕ). filled_from 0 form l ++ rest) (sym (all_taken form s us rest f)) ∙ f.text [])

-- ---- the same of a text that is a filled form

taken-length : (k n : ℕ) (vs : List ℕ) → length (taken k n vs) ≡ n
taken-length k zero vs = refl
taken-length k (suc n) vs = ap suc (taken-length (suc k) n vs)

pub whole_written : (room : ℕ) (form vs : List ℕ) → apart form ≡ true → holes form ≤ room → Words (taken 0 (holes form) vs)
    → (is_whole room (scan_of form (filled_from 0 form vs)) ≡ true) × (numbers (scan_of form (filled_from 0 form vs)) ≡ taken 0 (holes form) vs)
unfolding digit_of
whole_written room form vs a h w =
    let e = rw append-nil at (scan_written 0 form vs [] (omega arith) a w) in
    let l = taken-length 0 (holes form) vs in
    (rw (e, le-leb (length (taken 0 (holes form) vs)) room (omega arith)), rw e)

pub whole_read : (room : ℕ) (form s : List ℕ) → is_whole room (scan_of form s) ≡ true
    → Words (numbers (scan_of form s)) × (filled_from 0 form (taken 0 (holes form) (numbers (scan_of form s))) ≡ s)
whole_read room form s e = go (scan_of form s) refl e
  where
    go : (w : Scan) → scan_of form s ≡ w → is_whole room w ≡ true → Words (numbers w) × (filled_from 0 form (taken 0 (holes form) (numbers w)) ≡ s)
    go (found us []) q t = rw append-nil at (scan_read form s us [] q)
    go (found us (x ∷ xs)) q t = let z : ◌≡◌ {A = ℕ} 0 1 = cc in absurd (omega arith)
    go (lost us) q t = let z : ◌≡◌ {A = ℕ} 0 1 = cc in absurd (omega arith)

-- ---- what a caller of `scan` finds in its values

-- numbers that were stored first in a list: each where it stood, and what was 0 past them is 0
pub stored_at : (before us : List ℕ) (i : ℕ) → length us ≤ length before → get_or before i 0 ≡ 0 → get_or (sets before 0 us) i 0 ≡ get_or us i 0
stored_at before us i h z =
    let e : sets before 0 us ≡ us ++ drop (0 + length us) before = sets-eq us before 0 (omega arith) in
    by_test (ltb i (length us)) (λ l. rw e (get_or-append us (drop (0 + length us) before) 0 i (ltb-true i (length us) l)))
    (λ l.
    let f = ltb-false i (length us) l in
    let k : i ≡ length us + (i - length us) = omega arith in
    let m : 0 + length us + (i - length us) ≡ i = omega arith in
    let a : get_or (us ++ drop (0 + length us) before) (length us + (i - length us)) 0 ≡ get_or before i 0 =
    get_or-append-add us (drop (0 + length us) before) (i - length us) 0
    ∙ get_or-drop (0 + length us) before (i - length us) 0
    ∙ ap (λ (n : ℕ). get_or before n 0) m in
    ap (λ (l : List ℕ). get_or l i 0) e
    ∙ ap (λ (n : ℕ). get_or (us ++ drop (0 + length us) before) n 0) k
    ∙ a
    ∙ z
    ∙ sym (get_or-eq_default us 0 f))

pub scan_stored : {before after : List ℕ} {scan : Scan} {r : Bool} → Scanned before scan r after → r ≡ true
    → (i : ℕ) → get_or before i 0 ≡ 0 → get_or after i 0 ≡ get_or (numbers scan) i 0
scan_stored {before} {after} {scan} o e i z =
    ap (λ (l : List ℕ). get_or l i 0) o.values ∙ stored_at before (numbers scan) i (room scan (sym o.answer ∙ e)) z
  where
    room : (w : Scan) → is_whole (length before) w ≡ true → length (numbers w) ≤ length before
    room (found us []) t = leb-true (length us) (length before) t
    room (found us (x ∷ xs)) t = let n : ◌≡◌ {A = ℕ} 0 1 = cc in absurd (omega arith)
    room (lost us) t = let n : ◌≡◌ {A = ℕ} 0 1 = cc in absurd (omega arith)

-- ---- what a caller of `scan_at` finds in its values

-- no position past the end is needed
pub drop_min : (n : ℕ) (s : List ℕ) → drop (min n (length s)) s ≡ drop n s
drop_min n s =
    by_test (leb n (length s))
    (λ t. let h = leb-true n (length s) t in let e : min n (length s) ≡ n = omega arith in rw e)
    (λ t.
    let h = leb-false n (length s) t in
    let e : min n (length s) ≡ length s = omega arith in
    rw e (drop_of_length-le s {i = length s} (omega arith) ∙ sym (drop_of_length-le s {i = n} (omega arith))))

-- the end of a text stands where that much of it is left
rest_at : (s : List ℕ) (at : ℕ) (xs rest : List ℕ) → xs ++ rest ≡ drop at s → rest ≡ drop (length s - length rest) s
rest_at s at xs rest h =
    let l = simp (length-append, length-drop) at (ap length h) in
    let e : min (at + length xs) (length s) ≡ length s - length rest = omega arith in
    sym (drop-append_seam xs rest) ∙ rw (h, drop-drop, ← drop_min (at + length xs) s, e)

pub nowhere : {n : ℕ} → None ≡ Some n → ⊥
nowhere e = let z : ◌≡◌ {A = ℕ} 0 1 = cc in omega arith

-- the numbers us were found, the text goes on at n, and each number stands in its place of the values
pub record FoundAt (form s : List ℕ) (at : ℕ) (before after : List ℕ) (n : ℕ) : Type 0 where
  pub us : List ℕ
  pub is : scan_of form (drop at s) ≡ found (taken 0 (holes form) us) (drop n s)
  pub inside : n ≤ length s
  pub stored : (i : ℕ) → get_or before i 0 ≡ 0 → get_or after i 0 ≡ get_or us i 0

module _ (form s : List ℕ) (at : ℕ) {before after : List ℕ} {r : Option ℕ} (o : ScannedAt before s (scan_of form (drop at s)) r after) where
  pub scan_at_found : (n : ℕ) → r ≡ Some n → FoundAt form s at before after n
  scan_at_found n e = go (scan_of form (drop at s)) refl (sym e ∙ o.answer) o.values
    where
      go : (w : Scan) → scan_of form (drop at s) ≡ w → Some n ≡ place_in (length before) s w → after ≡ sets before 0 (numbers w) → FoundAt form s at before after n
      go (lost us) q p v = absurd (nowhere (sym p))
      go (found us rest) q p v =
          by_test (leb (length us) (length before))
          (λ l.
          let a : Some n ≡ Some (length s - length rest) = rw l at p in
          let m : n ≡ length s - length rest = cc in
          let f = scan_filled form (drop at s) us rest q in
          let x : rest ≡ drop n s = rest_at s at (filled_from 0 form us) rest (f.text []) ∙ ap (λ (i : ℕ). drop i s) (sym m) in
          record {
            us = us;
            is = q ∙ ap (λ (vs : List ℕ). found vs rest) (all_taken form (drop at s) us rest f) ∙ ap (found (taken 0 (holes form) us)) x;
            inside = omega arith;
            stored = λ i z. ap (λ (l : List ℕ). get_or l i 0) v ∙ stored_at before us i (leb-true (length us) (length before) l) z;
          })
          (λ l. absurd (nowhere (sym (rw l at p))))

  pub scan_at_nowhere : r ≡ None → holes form ≤ length before → (us rest : List ℕ) → scan_of form (drop at s) ≡ found us rest → ⊥
  scan_at_nowhere e h us rest q =
      let f = (scan_filled form (drop at s) us rest q).count in
      let p : None ≡ place_in (length before) s (found us rest) = sym e ∙ o.answer ∙ ap (place_in (length before) s) q in
      nowhere (rw (le-leb (length us) (length before) (omega arith)) at p)
