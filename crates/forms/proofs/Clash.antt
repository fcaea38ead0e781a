-- SPDX-License-Identifier: Apache-2.0 AND BSD-3-Clause
-- Two forms that clash: the text of one does not start with the other.
use Prim.Native.Nat.{ℕ, suc}
use mathlib.Core.Path.{◌≡◌, refl}
use mathlib.Core.Bool.{Bool, true, false, cond, not, ◌&&◌}
use mathlib.Core.List.{List, [], ◌∷◌, append-nil}
use native.Mathlib.Omega.{arith}
use borrow.Author.Tests.{not-true, ne_eqb}
use lib.Dec.{eqb}
use lib.ListN.{get_or}
use Rattle.units.proofs.Tests.{by_test, and_left, and_right}
use Rattle.text.specs.Reading.{got, nothing, is_digit, digit_of}
use Rattle.text.proofs.Laws.{decimal_starts, word_written, word_none}
use Rattle.forms.specs.Forms.{is_hole, holes, filled_from}
use Rattle.forms.specs.Scanning.{Scan, lost, push, hole_then, byte_then, scan_of}
use Rattle.forms.proofs.Laws.{Words, taken, opens, apart, opened}

-- the forms part at two bytes, or at a hole and a byte that is no digit, after parts that are the same
abbrev pub meet : Bool → Bool → ℕ → ℕ → Bool → Bool
meet true true t u rest = rest
meet true false t u rest = not (is_digit u)
meet false true t u rest = not (is_digit t)
meet false false t u rest = cond (eqb u t) rest true

abbrev pub clash : List ℕ → List ℕ → Bool
clash [] us = false
clash (t ∷ ts) [] = not (is_hole t)
clash (t ∷ ts) (u ∷ us) = meet (is_hole t) (is_hole u) t u (clash ts us)

-- the text does not start with the form
abbrev pub IsLost : (scan : Scan) → Type 0
IsLost scan = (us : List ℕ) × (scan ≡ lost us)

hole_lost : (v : ℕ) (rest : List ℕ) (f : List ℕ → Scan) → IsLost (f rest) → IsLost (hole_then (got v rest) f)
unfolding hole_then push
hole_lost v rest f h = (v ∷ h.0, rw h.1)

hole_nothing : (f : List ℕ → Scan) → IsLost (hole_then nothing f)
unfolding hole_then
hole_nothing f = ([], refl)

byte_nil : (t : ℕ) (f : List ℕ → Scan) → IsLost (byte_then t [] f)
unfolding byte_then
byte_nil t f = ([], refl)

byte_is : (t u : ℕ) (l : List ℕ) (f : List ℕ → Scan) → eqb u t ≡ true → byte_then t (u ∷ l) f ≡ f l
unfolding byte_then
byte_is t u l f e = rw e

byte_other : (t u : ℕ) (l : List ℕ) (f : List ℕ → Scan) → eqb u t ≡ false → IsLost (byte_then t (u ∷ l) f)
unfolding byte_then
byte_other t u l f e = ([], rw e)

-- a digit is not the byte t
digit_other : (d t : ℕ) → is_digit d ≡ true → is_digit t ≡ false → eqb d t ≡ false
digit_other d t y n = ne_eqb d t λ q. let z : ◌≡◌ {A = ℕ} 0 1 = differ q in omega arith
  where
    differ : d ≡ t → ◌≡◌ {A = ℕ} 0 1
    differ q = cc

pub scan_clash : (k : ℕ) (f g vs : List ℕ) → clash f g ≡ true → apart g ≡ true → Words (taken k (holes g) vs) → IsLost (scan_of f (filled_from k g vs))
unfolding scan_of filled_from holes digit_of
scan_clash k [] us vs c a w = let z : ◌≡◌ {A = ℕ} 0 1 = cc in absurd (omega arith)
scan_clash k (t ∷ ts) [] vs c a w = rw (not-true (is_hole t) c) (byte_nil t (scan_of ts))
scan_clash k (t ∷ ts) (u ∷ us) vs c a w =
    by_test (is_hole t)
    (λ p.
    by_test (is_hole u)
    (λ q.
    let b : opens us && apart us ≡ true = rw q at a in
    let x : Words (get_or vs k 0 ∷ taken (suc k) (holes us) vs) = rw q at w in
    let o = rw append-nil at (opened (suc k) us vs [] (omega arith) (and_left (opens us) (apart us) b)) in
    let n = word_written (get_or vs k 0) (filled_from (suc k) us vs) x.0 o in
    rw (p, q, n)
    (hole_lost (get_or vs k 0) (filled_from (suc k) us vs) (scan_of ts)
    (scan_clash (suc k) ts us vs (rw (p, q) at c) (and_right (opens us) (apart us) b) x.1)))
    (λ q. rw (p, q, word_none u (filled_from k us vs) (not-true (is_digit u) (rw (p, q) at c))) (hole_nothing (scan_of ts))))
    (λ p.
    by_test (is_hole u)
    (λ q.
    let i = decimal_starts (get_or vs k 0) (get_or vs k 0) (filled_from (suc k) us vs) (omega arith) in
    rw (p, q, i.2) (byte_other t i.0 i.1 (scan_of ts) (digit_other i.0 t i.3 (not-true (is_digit t) (rw (p, q) at c)))))
    (λ q.
    by_test (eqb u t)
    (λ r. rw (p, q, byte_is t u (filled_from k us vs) (scan_of ts) r) (scan_clash k ts us vs (rw (p, q, r) at c) (rw q at a) (rw q at w)))
    (λ r. rw (p, q) (byte_other t u (filled_from k us vs) (scan_of ts) r))))
