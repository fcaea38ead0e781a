-- SPDX-License-Identifier: Apache-2.0 AND BSD-3-Clause
-- One state has one text, and one text one state.
use Prim.Native.Nat.{ℕ, ◌+◌, ◌-◌, ◌*◌, ◌/◌, ◌≤◌, ◌<◌}
use mathlib.Core.Path.{◌≡◌, refl, ap, ◌∙◌, sym}
use mathlib.Core.Bool.{Bool, true, false}
use mathlib.Core.List.{List, [], ◌∷◌, ◌++◌, append_assoc}
use native.Mathlib.Omega.{arith}
use borrow.Author.Tests.{eqb-true}
use lib.ListN.{length}
use Rattle.units.proofs.Tests.{and_left, and_right}
use Rattle.units.specs.Numbers.{bytes_of, blocks_in}
use Rattle.text.specs.Decimal.{largest}
use Rattle.text.specs.Reading.{is_digit, digit_of}
use Rattle.forms.specs.Forms.{holes, filled}
use Rattle.forms.specs.Scanning.{found, scan_of}
use Rattle.forms.proofs.Laws.{Words, opened, scan_written}
use Rattle.record.specs.Shape.{config_shaped_of, of_config}
use Rattle.record.proofs.Laws.{Shaped, shaped_is}
use Rattle.save.specs.declared.Fields.{Fields}
use Rattle.bitmap.specs.Blocks.{ones, all_are}
use Rattle.runs.specs.Runs.{Run, runs_of, spread, RunsApart}
use Rattle.runs.specs.Text.{runs_text}
use Rattle.runs.proofs.Runs.{runs_apart, comes_back}
use Rattle.runs.proofs.Lines.{runs_open, same_runs}
use Rattle.save.specs.Text.{form_line, field_lines, fields_of, state_text, state_config, shape_ok, all_of, used_of, valid_of, IsState, Says}

-- ---- the head

pub fields_open : (form : ℕ) (f : Fields) (rs : List Run) → 9 < digit_of (filled (field_lines form) (fields_of f) ++ runs_text rs)
unfolding is_digit
fields_open form f rs = opened 0 (field_lines form) (fields_of f) (runs_text rs) (runs_open rs) refl

pub form_written : (form : ℕ) (f : Fields) (bs : List Bool) → form ≤ largest → scan_of form_line (state_text form f bs) ≡ found (form ∷ []) (filled (field_lines form) (fields_of f) ++ runs_text (runs_of bs))
unfolding state_text holes is_digit
form_written form f bs h =
    rw (append_assoc (filled form_line (form ∷ [])) (filled (field_lines form) (fields_of f)) (runs_text (runs_of bs)))
    (scan_written 0 form_line (form ∷ []) _ (fields_open form f (runs_of bs)) refl (h, tt))

pub fields_written : (form : ℕ) (f : Fields) (rs : List Run) → Words (fields_of f) → scan_of (field_lines form) (filled (field_lines form) (fields_of f) ++ runs_text rs) ≡ found (fields_of f) (runs_text rs)
unfolding holes is_digit
fields_written form f rs w = scan_written 0 (field_lines form) (fields_of f) (runs_text rs) (runs_open rs) refl w

pub fields_are : (f g : Fields) → f.block ≡ g.block → f.start ≡ g.start → f.region ≡ g.region → f.requested ≡ g.requested → f.usable ≡ g.usable → f.plugged ≡ g.plugged → f ≡ g
fields_are f g o a b c d e =
    ap (λ (x : ℕ). record { block = x; start = f.start; region = f.region; requested = f.requested; usable = f.usable; plugged = f.plugged }) o
    ∙ ap (λ (x : ℕ). record { block = g.block; start = x; region = f.region; requested = f.requested; usable = f.usable; plugged = f.plugged }) a
    ∙ ap (λ (x : ℕ). record { block = g.block; start = g.start; region = x; requested = f.requested; usable = f.usable; plugged = f.plugged }) b
    ∙ ap (λ (x : ℕ). record { block = g.block; start = g.start; region = g.region; requested = x; usable = f.usable; plugged = f.plugged }) c
    ∙ ap (λ (x : ℕ). record { block = g.block; start = g.start; region = g.region; requested = g.requested; usable = x; plugged = f.plugged }) d
    ∙ ap (λ (x : ℕ). record { block = g.block; start = g.start; region = g.region; requested = g.requested; usable = g.usable; plugged = x }) e

-- ---- a state

pub shape_is : (f : Fields) → shape_ok f ≡ true → Shaped (of_config (state_config f))
unfolding config_shaped_of
shape_is f e = shaped_is (of_config (state_config f)) e

-- blocks of 4 MiB
pub in_blocks : (f : Fields) → shape_ok f ≡ true → (size : ℕ) → blocks_in f.block size ≡ size / 4194304
in_blocks f e size = let b = (shape_is f e).block_size in ap (λ (x : ℕ). size / x) b

module _ {f : Fields} {bs : List Bool} (s : IsState f bs) where
  pub valid_shape : shape_ok f ≡ true
  unfolding valid_of
  valid_shape = and_left (shape_ok f) _ s.valid

  pub valid_past : all_are bs (used_of f) (all_of f - used_of f) false ≡ true
  unfolding valid_of
  valid_past = and_left (all_are bs (used_of f) (all_of f - used_of f) false) _ (and_right (shape_ok f) _ s.valid)

  pub valid_plugged : f.plugged ≡ ones bs * f.block
  unfolding valid_of
  valid_plugged =
      eqb-true f.plugged (bytes_of f.block (ones bs))
      (and_right (all_are bs (used_of f) (all_of f - used_of f) false) _ (and_right (shape_ok f) _ s.valid))

  pub state_block : f.block ≡ 4194304
  state_block = (shape_is f valid_shape).block_size

  pub state_words : Words (fields_of f)
  state_words = let h = shape_is f valid_shape in (omega arith, (omega arith, (omega arith, (omega arith, (omega arith, tt)))))

  pub state_few : length bs ≤ 262144
  state_few =
      let h = (shape_is f valid_shape).region_top in
      let a = s.all in
      let b = in_blocks f valid_shape f.region in
      omega arith

  pub state_apart : RunsApart 0 (length bs) (runs_of bs)
  state_apart =
      let z : 0 + length bs ≡ length bs = omega arith in
      rw z at (runs_apart 0 0 bs (omega arith))

-- a state's text is of form 2, and goes on with its fields and its runs
pub says_form : {s : List ℕ} {f : Fields} {bs : List Bool} → Says s f bs → scan_of form_line s ≡ found (2 ∷ []) (filled (field_lines 2) (fields_of f) ++ runs_text (runs_of bs))
says_form {s} {f} {bs} h = ap (scan_of form_line) (sym h.text) ∙ form_written 2 f bs (omega arith)

-- what two states have in common that have one text: all
pub record Same (m n : ℕ) (f g : Fields) (bs cs : List Bool) : Type 0 where
  pub form : m ≡ n
  pub fields : f ≡ g
  pub blocks : bs ≡ cs

pub one_state : (m n : ℕ) (f g : Fields) (bs cs : List Bool) → m ≤ largest → n ≤ largest → IsState f bs → IsState g cs → state_text m f bs ≡ state_text n g cs → Same m n f g bs cs
one_state m n f g bs cs u v s t h =
    let a : found (m ∷ []) (filled (field_lines m) (fields_of f) ++ runs_text (runs_of bs)) ≡ found (n ∷ []) (filled (field_lines n) (fields_of g) ++ runs_text (runs_of cs)) =
    sym (form_written m f bs u) ∙ ap (scan_of form_line) h ∙ form_written n g cs v in
    let i : m ≡ n = cc in
    let j : filled (field_lines m) (fields_of f) ++ runs_text (runs_of bs) ≡ filled (field_lines n) (fields_of g) ++ runs_text (runs_of cs) = cc in
    let k : found (fields_of f) (runs_text (runs_of bs)) ≡ found (fields_of g) (runs_text (runs_of cs)) =
    sym (fields_written m f (runs_of bs) (state_words s)) ∙ ap (scan_of (field_lines m)) j ∙ fields_written n g (runs_of cs) (state_words t) in
    let l : runs_text (runs_of bs) ≡ runs_text (runs_of cs) = cc in
    let e = fields_are f g (state_block s ∙ sym (state_block t)) (cc) (cc) (cc) (cc) (cc) in
    let r = same_runs 0 0 (length bs) (length cs) (runs_of bs) (runs_of cs) (omega (arith, state_few s)) (omega (arith, state_few t)) (state_apart s) (state_apart t) l in
    let o : length bs ≡ length cs = s.all ∙ ap (λ (x : Fields). all_of x) e ∙ sym t.all in
    record {
      form = i;
      fields = e;
      blocks = sym (comes_back bs) ∙ ap (λ (x : ℕ). spread 0 x (runs_of bs)) o ∙ ap (spread 0 (length cs)) r ∙ comes_back cs;
    }

-- one text has one state
pub one_text : (s : List ℕ) (f g : Fields) (bs cs : List Bool) → Says s f bs → Says s g cs → (f ≡ g) × (bs ≡ cs)
one_text s f g bs cs p q =
    let o = one_state 2 2 f g bs cs (omega arith) (omega arith) p.state q.state (p.text ∙ sym q.text) in
    (o.fields, o.blocks)
