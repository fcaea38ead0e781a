-- SPDX-License-Identifier: Apache-2.0 AND BSD-3-Clause
-- What measuring and writing a text promise.
use Rattle.std.specs.Prelude.{ℕ, ◌+◌, ◌/◌, ◌≡◌, Bool, cond, ◌&&◌, List, ltb, leb, length, take, Result, Ok, Err}
use Rattle.std.proofs.lemmas.List.Edits.{sets}
use Rattle.bitmap.specs.Blocks.{blocks}
use Rattle.save.specs.declared.Fields.{Fields}
use Rattle.refusal.specs.declared.Refusal.{Refusal}
use Rattle.refusal.specs.declared.Refusal.TheVariants as refusal
use Rattle.save.specs.Text.{state_text, valid_of, all_of}

-- the region's blocks in a packed bitmap
abbrev pub blocks_for : Fields → List ℕ → List Bool
blocks_for f bitmap = take (all_of f) (blocks bitmap)

-- R1.11: the bitmap has not a bit for each block
abbrev pub is_short : Fields → List ℕ → Bool
is_short f bitmap = ltb (length bitmap) ((all_of f + 7) / 8)

abbrev pub valid_in : Fields → List ℕ → Bool
valid_in f bitmap = valid_of f (blocks_for f bitmap)

abbrev pub text_in : Fields → List ℕ → List ℕ
text_in f bitmap = state_text 2 f (blocks_for f bitmap)

-- R15.6: 11 for a short bitmap, 18 for what is no state, and else the length of its text
unfoldable pub length_of : Fields → List ℕ → Result ℕ Refusal
length_of f bitmap = cond (is_short f bitmap) (Err refusal.TooShort) (cond (valid_in f bitmap) (Ok (length (text_in f bitmap))) (Err refusal.NoState))

-- .. and 18 too where the text is longer than what is lent for it
unfoldable pub wrote_of : Fields → List ℕ → (room : ℕ) → Result ℕ Refusal
wrote_of f bitmap room =
    cond (is_short f bitmap) (Err refusal.TooShort)
    (cond (valid_in f bitmap && leb (length (text_in f bitmap)) room) (Ok (length (text_in f bitmap))) (Err refusal.NoState))

-- a text that was written stands first in the buffer, and nothing else changed; a refused call changes nothing
abbrev pub written_on : Result ℕ Refusal → (text before : List ℕ) → List ℕ
written_on (Ok n) text before = sets before 0 text
written_on (Err why) text before = before

pub record Writes (f : Fields) (bitmap before after : List ℕ) (r : Result ℕ Refusal) : Type 0 where
  pub answer : r ≡ wrote_of f bitmap (length before)
  pub buffer : after ≡ written_on r (text_in f bitmap) before
