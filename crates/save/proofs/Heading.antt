-- SPDX-License-Identifier: Apache-2.0 AND BSD-3-Clause
-- The head of a text, and the whole of it.
use Rattle.std.specs.Prelude.{Option, Some, None, Result, Ok, Err}
use Prim.Native.Nat.{ℕ, ◌≤◌, ◌<◌}
use mathlib.Core.Path.{◌≡◌, refl, ap, ◌∙◌, sym}
use mathlib.Core.Bool.{Bool, false}
use mathlib.Core.List.{List, [], ◌∷◌, ◌++◌, append_assoc}
use native.Mathlib.Omega.{arith}
use borrow.Author.Tests.{lt-ltb, le-ltb}
use lib.Dec.{ltb}
use lib.ListN.{length, drop, get_or}
use Rattle.forms.specs.Forms.{holes, filled}
use Rattle.forms.specs.Scanning.{Scan, found, lost, scan_of, ScannedAt}
use Rattle.forms.proofs.Laws.{scan_read, scan_at_found, scan_at_nowhere}
use Rattle.save.specs.declared.Fields.{Fields}
use Rattle.save.specs.declared.State.{State}
use Rattle.refusal.specs.declared.Refusal.{Refusal}
use Rattle.refusal.specs.declared.Refusal.TheVariants as refusal
use Rattle.runs.specs.Runs.{runs_of}
use Rattle.runs.specs.Text.{runs_text}
use Rattle.save.specs.Text.{form_line, field_lines, fields_of, state_text, Says}
use Rattle.save.specs.Reading.{IsRuns, later_form, is_later, IsFields, Heads, Refuses, IsHead, Checks}
use Rattle.save.proofs.Text.{says_form, fields_written, fields_are, state_words, state_block}

-- ---- `fields_at`

module _ (s : List ℕ) (at : ℕ) {after : List ℕ} {r : Option ℕ} (o : ScannedAt (0 ∷ 0 ∷ 0 ∷ 0 ∷ 0 ∷ []) s (scan_of (field_lines 2) (drop at s)) r after) where
  pub fields_found : (n : ℕ) → r ≡ Some n
      → (scan_of (field_lines 2) (drop at s) ≡ found (get_or after 0 0 ∷ get_or after 1 0 ∷ get_or after 2 0 ∷ get_or after 3 0 ∷ get_or after 4 0 ∷ []) (drop n s)) × (n ≤ length s)
  unfolding holes
  fields_found n e =
      let f = scan_at_found (field_lines 2) s at o n e in
      (rw (f.stored 0 refl, f.stored 1 refl, f.stored 2 refl, f.stored 3 refl, f.stored 4 refl) f.is, f.inside)

  pub fields_nowhere : r ≡ None → (us rest : List ℕ) → scan_of (field_lines 2) (drop at s) ≡ found us rest → ⊥
  unfolding holes
  fields_nowhere e = scan_at_nowhere (field_lines 2) s at o e (omega arith)

-- ---- `head_of`

module _ (s : List ℕ) {after : List ℕ} {r : Option ℕ} (o : ScannedAt (0 ∷ []) s (scan_of form_line s) r after) where
  pub form_found : (n : ℕ) → r ≡ Some n → scan_of form_line s ≡ found (get_or after 0 0 ∷ []) (drop n s)
  unfolding holes
  form_found n e = let f = scan_at_found form_line s 0 o n e in rw (f.stored 0 refl) f.is

  pub form_nowhere : r ≡ None → (us rest : List ℕ) → scan_of form_line s ≡ found us rest → ⊥
  unfolding holes
  form_nowhere e = scan_at_nowhere form_line s 0 o e (omega arith)

no_later : (w : Scan) → ((us rest : List ℕ) → w ≡ found us rest → ⊥) → later_form w ≡ false
unfolding later_form
no_later (found us rest) n = absurd (n us rest refl)
no_later (lost us) n = refl

pub head_none : (s : List ℕ) → ((us rest : List ℕ) → scan_of form_line s ≡ found us rest → ⊥) → Refuses s refusal.NoState
head_none s n =
    let e = no_later (scan_of form_line s) n in
    record { why_is = rw e; no_state = λ f bs h. n _ _ (says_form h) }

module _ (s : List ℕ) (n : ℕ) (rest : List ℕ) (e : scan_of form_line s ≡ found (n ∷ []) rest) where
  later_is : is_later s ≡ ltb 2 n
  unfolding later_form
  later_is = rw e

  form_is : (f : Fields) (bs : List Bool) → Says s f bs → (2 ≡ n) × (filled (field_lines 2) (fields_of f) ++ runs_text (runs_of bs) ≡ rest)
  form_is f bs h =
      let q : found (2 ∷ []) (filled (field_lines 2) (fields_of f) ++ runs_text (runs_of bs)) ≡ found (n ∷ []) rest = sym (says_form h) ∙ e in
      (cc, cc)

  pub head_later : 2 < n → Refuses s refusal.LaterForm
  head_later h =
      let l = later_is in
      record { why_is = rw (l, lt-ltb 2 n h); no_state = λ f bs t. let q = (form_is f bs t).0 in omega arith }

  pub head_other : n ≤ 2 → (n ≡ 2 → ⊥) → Refuses s refusal.NoState
  head_other h d =
      let l = later_is in
      record { why_is = rw (l, le-ltb 2 n h); no_state = λ f bs t. d (sym (form_is f bs t).0) }

-- the text is of form 2, and goes on with `rest`
module _ (s rest : List ℕ) (e : scan_of form_line s ≡ found (2 ∷ []) rest) where
  now_later : is_later s ≡ false
  now_later = later_is s 2 rest e ∙ le-ltb 2 2 (omega arith)

  fields_is : (f : Fields) (bs : List Bool) → Says s f bs → scan_of (field_lines 2) rest ≡ found (fields_of f) (runs_text (runs_of bs))
  fields_is f bs h = ap (scan_of (field_lines 2)) (sym (form_is s 2 rest e f bs h).1) ∙ fields_written 2 f (runs_of bs) (state_words h.state)

  pub head_fields : (r : Result State Refusal) → IsFields s rest r → IsHead s r
  head_fields (Ok t) h = record { rest = rest; form = e; block = h.0; fields = h.1; inside = h.2 }
  head_fields (Err why) h =
      let l = now_later in
      record { why_is = rw l h.0; no_state = λ f bs t. h.1 _ _ (fields_is f bs t) }

pub head_two : (s rest : List ℕ) (n : ℕ) → scan_of form_line s ≡ found (n ∷ []) rest → n ≡ 2 → (r : Result State Refusal) → IsFields s rest r → IsHead s r
head_two s rest n e q r h = head_fields s rest (rw q at e) r h

-- a state's text is of no later form
pub not_later : {s : List ℕ} {f : Fields} {bs : List Bool} → Says s f bs → is_later s ≡ false
not_later {s} h = now_later s _ (says_form h)

-- ---- `check`

module _ (s : List ℕ) (f : Fields) (n : ℕ) (h : Heads s f n) where
  whole_text : (bs : List Bool) → runs_text (runs_of bs) ≡ drop n s → state_text 2 f bs ≡ s
  unfolding state_text holes
  whole_text bs t =
      let a = (scan_read form_line s (2 ∷ []) h.rest h.form).1 in
      let b = (scan_read (field_lines 2) h.rest (fields_of f) (drop n s) h.fields).1 in
      append_assoc (filled form_line (2 ∷ [])) (filled (field_lines 2) (fields_of f)) (runs_text (runs_of bs))
      ∙ ap (λ (l : List ℕ). filled form_line (2 ∷ []) ++ (filled (field_lines 2) (fields_of f) ++ l)) t
      ∙ ap (λ (l : List ℕ). filled form_line (2 ∷ []) ++ l) b
      ∙ a

  same_fields : (g : Fields) (bs : List Bool) → Says s g bs → (g ≡ f) × (runs_text (runs_of bs) ≡ drop n s)
  same_fields g bs t =
      let q : found (fields_of g) (runs_text (runs_of bs)) ≡ found (fields_of f) (drop n s) = sym (fields_is s h.rest h.form g bs t) ∙ h.fields in
      (fields_are g f (state_block t.state ∙ sym h.block) (cc) (cc) (cc) (cc) (cc), cc)

  pub checked_whole : (r : Result State Refusal) → IsRuns f n (drop n s) r → Checks s r
  checked_whole (Ok t) l =
      let d = l.2 in
      rw (l.0, l.1) (record { bs = d.0; says = record { state = d.1; text = whole_text d.0 d.2 }; rest = d.2; inside = h.inside })
  checked_whole (Err why) l =
      let z = now_later s h.rest h.form in
      record {
        why_is = rw z l.0;
        no_state = λ g bs t. let q = same_fields g bs t in l.1 bs (rw q.0 at t.state) q.1;
      }
