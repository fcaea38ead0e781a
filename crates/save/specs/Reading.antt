-- SPDX-License-Identifier: Apache-2.0 AND BSD-3-Clause
-- What checking and reading a text promise.
use Rattle.std.specs.Prelude.{ℕ, ◌*◌, ◌≤◌, ◌≡◌, Bool, false, cond, List, [], ◌∷◌, ◌++◌, ltb, length, drop, Result, Ok, Err}
use Rattle.units.specs.Numbers.{MiB}
use Rattle.bitmap.specs.Blocks.{blocks, Outside}
use Rattle.forms.specs.Scanning.{Scan, found, lost, scan_of}
use Rattle.runs.specs.Runs.{runs_of}
use Rattle.runs.specs.Text.{runs_text}
use Rattle.save.specs.declared.Fields.{Fields}
use Rattle.save.specs.declared.State.{State}
use Rattle.refusal.specs.declared.Refusal.{Refusal}
use Rattle.refusal.specs.declared.Refusal.TheVariants as refusal
use Rattle.save.specs.Text.{form_line, field_lines, fields_of, IsState, Says}

-- ---- 19 before 18

-- R15.5, R1.19: the text begins `form=N` and a newline with N above 2, whatever follows
unfoldable pub later_form : Scan → Bool
later_form (found [] rest) = false
later_form (found (n ∷ us) rest) = ltb 2 n
later_form (lost us) = false

abbrev pub is_later : List ℕ → Bool
is_later s = later_form (scan_of form_line s)

-- R15.5; R1.18 for any other that is refused
abbrev pub refusal_of : List ℕ → Refusal
refusal_of s = cond (is_later s) refusal.LaterForm refusal.NoState

-- s is the text of no state
abbrev pub NoState : List ℕ → Type 0
NoState s = (f : Fields) (bs : List Bool) → Says s f bs → ⊥

pub record Refuses (s : List ℕ) (why : Refusal) : Type 0 where
  pub why_is : why ≡ refusal_of s
  pub no_state : NoState s

-- ---- the parts of a text

-- the text l, which is s from some position on, starts with the lines of the fields, or it does not; form 2 has 4 MiB of block size
abbrev pub IsFields : (s l : List ℕ) → Result State Refusal → Type 0
IsFields s l (Ok t) = (t.fields.block ≡ 4 * MiB) × (scan_of (field_lines 2) l ≡ found (fields_of t.fields) (drop t.runs s)) × (t.runs ≤ length s)
IsFields s l (Err why) = (why ≡ refusal.NoState) × ((us rest : List ℕ) → scan_of (field_lines 2) l ≡ found us rest → ⊥)

-- the text from the fields on, and the fields
pub record Heads (s : List ℕ) (f : Fields) (next : ℕ) : Type 0 where
  pub rest : List ℕ
  pub form : scan_of form_line s ≡ found (2 ∷ []) rest
  pub block : f.block ≡ 4 * MiB
  pub fields : scan_of (field_lines 2) rest ≡ found (fields_of f) (drop next s)
  pub inside : next ≤ length s

abbrev pub IsHead : List ℕ → Result State Refusal → Type 0
IsHead s (Ok t) = Heads s t.fields t.runs
IsHead s (Err why) = Refuses s why

-- l is the text of the runs of a state with the fields f, of which there is no other; or it is not, and refused as 18
abbrev pub IsRuns : Fields → (at : ℕ) → List ℕ → Result State Refusal → Type 0
IsRuns f at l (Ok t) = (t.fields ≡ f) × (t.runs ≡ at) × ((bs : List Bool) × IsState f bs × (runs_text (runs_of bs) ≡ l))
IsRuns f at l (Err why) = (why ≡ refusal.NoState) × ((bs : List Bool) → IsState f bs → runs_text (runs_of bs) ≡ l → ⊥)

-- ---- the whole text

-- s is the text of a state with the fields f, whose runs start at `runs`
pub record Accepts (s : List ℕ) (f : Fields) (runs : ℕ) : Type 0 where
  pub bs : List Bool
  pub says : Says s f bs
  pub rest : runs_text (runs_of bs) ≡ drop runs s
  pub inside : runs ≤ length s

-- R15.4: a text is accepted with the state whose text it is, and refused if there is none
abbrev pub Checks : List ℕ → Result State Refusal → Type 0
Checks s (Ok t) = Accepts s t.fields t.runs
Checks s (Err why) = Refuses s why

-- ---- the text and a bitmap

-- the bitmap's first blocks are bs, and no other block and no byte past them changed
pub record HoldsBlocks (bs : List Bool) (before after : List ℕ) : Type 0 where
  pub as_blocks : blocks after ≡ bs ++ drop (length bs) (blocks before)
  pub outside : Outside before after 0 (length bs)

-- a text is taken where nothing is too short, it is that of a state, and the state fits what it is read for
pub record Takes (short : Bool) (Fits : Fields → List Bool → Type 0) (s : List ℕ) (f : Fields) (bs : List Bool) : Type 0 where
  pub long : short ≡ false
  pub says : Says s f bs
  pub fits : Fits f bs

-- R15.7: or it is refused, with 11, 19 or 18 in this order
pub record NotTaken (short : Bool) (Fits : Fields → List Bool → Type 0) (s : List ℕ) (why : Refusal) : Type 0 where
  pub why_is : why ≡ cond short refusal.TooShort (refusal_of s)
  pub none : (f : Fields) (bs : List Bool) → Takes short Fits s f bs → ⊥

-- a state of at most so many blocks
abbrev pub AtMost : (most : ℕ) → Fields → List Bool → Type 0
AtMost most f bs = length bs ≤ most

-- R15.7: room for the largest bitmap is asked for, so that 11 does not wait for the text
abbrev pub no_room : List ℕ → Bool
no_room bitmap = ltb (length bitmap) 32768

abbrev pub ReadsState : (s : List ℕ) (most : ℕ) (before after : List ℕ) → Result Fields Refusal → Type 0
ReadsState s most before after (Ok f) = (bs : List Bool) × Takes (no_room before) (AtMost most) s f bs × HoldsBlocks bs before after
ReadsState s most before after (Err why) = NotTaken (no_room before) (AtMost most) s why × (after ≡ before)
