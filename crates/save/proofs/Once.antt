-- SPDX-License-Identifier: Apache-2.0 AND BSD-3-Clause
-- Each promise leaves one outcome; what is written can be read; and 19 in words.
use Rattle.std.specs.Prelude.{Result, Ok, Err}
use Prim.Native.Nat.{ℕ, ◌≤◌, ◌<◌}
use mathlib.Core.Path.{◌≡◌, refl, ap, ◌∙◌, sym}
use mathlib.Core.Bool.{Bool, true}
use mathlib.Core.List.{List, [], ◌∷◌, ◌++◌, append_assoc}
use native.Mathlib.Omega.{arith}
use borrow.Author.Tests.{ltb-true, lt-ltb}
use lib.ListN.{length, drop, get_or, length-drop}
use Rattle.text.specs.Decimal.{largest, decimal}
use Rattle.text.specs.Reading.{is_digit, digit_of}
use Rattle.text.proofs.Laws.{word_written}
use Rattle.forms.specs.Forms.{holes, filled, filled_from}
use Rattle.forms.specs.Scanning.{Scan, found, lost, push, hole_then, byte_then, scan_of}
use Rattle.forms.proofs.Laws.{scan_filled, scan_read}
use Rattle.runs.specs.Runs.{runs_of}
use Rattle.runs.specs.Text.{runs_text}
use Rattle.bitmap.proofs.Bytes.{blocks_tell}
use Rattle.save.specs.declared.Fields.{Fields}
use Rattle.save.specs.declared.State.{State}
use Rattle.refusal.specs.declared.Refusal.{Refusal}
use Rattle.save.specs.Text.{form_line, Says}
use Rattle.save.specs.Writing.{Writes}
use Rattle.save.specs.Reading.{later_form, is_later, Accepts, Checks, HoldsBlocks, Takes, AtMost, no_room, ReadsState}
use Rattle.save.proofs.Text.{one_text}

-- ---- one outcome

pub writes_once : {f : Fields} {bitmap before xs ys : List ℕ} {r q : Result ℕ Refusal} → Writes f bitmap before xs r → Writes f bitmap before ys q → (r ≡ q) × (xs ≡ ys)
writes_once {f} {bitmap} {before} {xs} {ys} {r} {q} a b =
    let e : r ≡ q = a.answer ∙ sym b.answer in
    (e, rw (a.buffer, e, b.buffer))

-- what a text says, with where its runs start
accepts_once : (s : List ℕ) (f g : Fields) (m n : ℕ) → Accepts s f m → Accepts s g n → (f ≡ g) × (m ≡ n)
accepts_once s f g m n a b =
    let o = one_text s f g a.bs b.bs a.says b.says in
    let i = a.inside in
    let j = b.inside in
    let e : drop m s ≡ drop n s = sym a.rest ∙ ap (λ (bs : List Bool). runs_text (runs_of bs)) o.1 ∙ b.rest in
    let l = ap length e in
    let p = length-drop m s in
    let q = length-drop n s in
    (o.0, omega arith)

pub checks_once : (s : List ℕ) (a b : Result State Refusal) → Checks s a → Checks s b → a ≡ b
checks_once s (Ok t) (Ok u) p q = let o = accepts_once s t.fields u.fields t.runs u.runs p q in rw (o.0, o.1)
checks_once s (Ok t) (Err k) p q = absurd (q.no_state t.fields p.bs p.says)
checks_once s (Err k) (Ok u) p q = absurd (p.no_state u.fields q.bs q.says)
checks_once s (Err k) (Err l) p q = ap Err (p.why_is ∙ sym q.why_is)

-- the bytes of a bitmap are below 256, as its type says
pub holds_once : (bs : List Bool) (before xs ys : List ℕ) → ((i : ℕ) → get_or xs i 0 < 256) → ((i : ℕ) → get_or ys i 0 < 256) → HoldsBlocks bs before xs → HoldsBlocks bs before ys → xs ≡ ys
holds_once bs before xs ys p q a b = blocks_tell xs ys p q (a.as_blocks ∙ sym b.as_blocks)

-- a text that is taken says one state; one that is not has one number
pub takes_once : (short : Bool) (Fits : Fields → List Bool → Type 0) (s : List ℕ) (f g : Fields) (bs cs : List Bool)
    → Takes short Fits s f bs → Takes short Fits s g cs → (f ≡ g) × (bs ≡ cs)
takes_once short Fits s f g bs cs a b = one_text s f g bs cs a.says b.says

pub reads_once : (s : List ℕ) (most : ℕ) (before xs ys : List ℕ) (a b : Result Fields Refusal) → ((i : ℕ) → get_or xs i 0 < 256) → ((i : ℕ) → get_or ys i 0 < 256)
    → ReadsState s most before xs a → ReadsState s most before ys b → (a ≡ b) × (xs ≡ ys)
reads_once s most before xs ys (Ok f) (Ok g) p q x y =
    let o = takes_once (no_room before) (AtMost most) s f g x.0 y.0 x.1 y.1 in
    (ap Ok o.0, holds_once x.0 before xs ys p q x.2 (rw o.1 y.2))
reads_once s most before xs ys (Ok f) (Err k) p q x y = absurd (y.0.none f x.0 x.1)
reads_once s most before xs ys (Err k) (Ok g) p q x y = absurd (x.0.none g y.0 y.1)
reads_once s most before xs ys (Err k) (Err l) p q x y =
    (ap Err (x.0.why_is ∙ sym y.0.why_is), x.1 ∙ sym y.1)

-- ---- a state's text is accepted

pub accepted : (s : List ℕ) (f : Fields) (bs : List Bool) → Says s f bs → (r : Result State Refusal) → Checks s r → (n : ℕ) × (r ≡ Ok (record { fields = f; runs = n }))
accepted s f bs h (Ok t) c = let o = one_text s t.fields f c.bs bs c.says h in (t.runs, ap (λ (x : Fields). Ok (record { fields = x; runs = t.runs })) o.0)
accepted s f bs h (Err k) c = absurd (c.no_state f bs h)

-- ---- 19 in words: exactly the texts that begin `form=N` and a newline, N a number of 64 bits above 2

pub later_says : (s : List ℕ) → is_later s ≡ true → (n : ℕ) × (rest : List ℕ) × (2 < n) × (n ≤ largest) × (filled form_line (n ∷ []) ++ rest ≡ s)
unfolding later_form holes
later_says s e = go (scan_of form_line s) refl e
  where
    go : (w : Scan) → scan_of form_line s ≡ w → later_form w ≡ true → (n : ℕ) × (rest : List ℕ) × (2 < n) × (n ≤ largest) × (filled form_line (n ∷ []) ++ rest ≡ s)
    go (found [] rest) p q = let z : ◌≡◌ {A = ℕ} 0 1 = cc in absurd (omega arith)
    go (found (n ∷ []) rest) p q = let r = scan_read form_line s (n ∷ []) rest p in (n, rest, ltb-true 2 n q, r.0.0, r.1)
    go (found (n ∷ m ∷ us) rest) p q = let c = (scan_filled form_line s (n ∷ m ∷ us) rest p).count in absurd (omega arith)
    go (lost us) p q = let z : ◌≡◌ {A = ℕ} 0 1 = cc in absurd (omega arith)

pub says_later : (n : ℕ) (rest : List ℕ) → 2 < n → n ≤ largest → is_later (filled form_line (n ∷ []) ++ rest) ≡ true
unfolding scan_of filled_from hole_then byte_then push later_form is_digit digit_of
says_later n rest h k = rw (append_assoc (decimal n) (10 ∷ []) rest, word_written n (10 ∷ rest) k (omega arith)) (lt-ltb 2 n h)
