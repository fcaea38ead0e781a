-- SPDX-License-Identifier: Apache-2.0 AND BSD-3-Clause
-- What the moves between the forms promise.
use Rattle.std.specs.Prelude.{ℕ, ◌≡◌, Bool, true, false, cond, not, ◌&&◌, List, ◌++◌, leb, eqb, length, drop, Result, Ok, Err}
use Rattle.save.specs.declared.Fields.{Fields}
use Rattle.refusal.specs.declared.Refusal.{Refusal}
use Rattle.refusal.specs.declared.Refusal.TheVariants as refusal
use Rattle.save.specs.Text.{state_text, shape_ok, all_of, valid_of}
use Rattle.save.specs.Writing.{written_on}
use Rattle.save.specs.Reading.{HoldsBlocks, Takes, NotTaken, AtMost, no_room}
use Rattle.old_form.specs.Old.{old_of, is_old, bits_of}

-- ---- old to new

-- R15.8: old bytes of a region of this shape, one for each block and none above 1
unfoldable pub old_ok : Fields → List ℕ → Bool
old_ok f old = shape_ok f && (eqb (length old) (all_of f) && is_old old)

abbrev pub new_text : Fields → List ℕ → List ℕ
new_text f old = state_text 2 f (bits_of old)

-- R15.8: 11 for a short scratch; 18 for what is no state, and where there is no room for its text
unfoldable pub moved_of : Fields → (old scratch : List ℕ) → (room : ℕ) → Result ℕ Refusal
moved_of f old scratch room =
    cond (no_room scratch) (Err refusal.TooShort)
    (cond (old_ok f old && (valid_of f (bits_of old) && leb (length (new_text f old)) room)) (Ok (length (new_text f old))) (Err refusal.NoState))

-- the text stands in the buffer, or the buffer is as it was; R15.11: the scratch holds the blocks of old bytes that are of the form, and is as it was for any other
pub record ToNew (f : Fields) (old scratch scratch' out out' : List ℕ) (r : Result ℕ Refusal) : Type 0 where
  pub answer : r ≡ moved_of f old scratch (length out)
  pub buffer : out' ≡ written_on r (new_text f old) out
  pub packed : (not (no_room scratch) && old_ok f old) ≡ true → HoldsBlocks (bits_of old) scratch scratch'
  pub untouched : (not (no_room scratch) && old_ok f old) ≡ false → scratch' ≡ scratch

-- ---- new to old

-- R15.9: a longer buffer keeps its rest; a shorter one is refused as 18
abbrev pub ToOld : (s scratch scratch' old old' : List ℕ) → Result Fields Refusal → Type 0
ToOld s scratch scratch' old old' (Ok f) =
    (bs : List Bool) × Takes (no_room scratch) (AtMost (length old)) s f bs × HoldsBlocks bs scratch scratch' × (old' ≡ old_of bs ++ drop (length bs) old)
ToOld s scratch scratch' old old' (Err why) = NotTaken (no_room scratch) (AtMost (length old)) s why × (scratch' ≡ scratch) × (old' ≡ old)
