-- SPDX-License-Identifier: Apache-2.0 AND BSD-3-Clause
-- What saving, restoring and the moves leave in the words that they were lent (R19.7).
use Rattle.std.specs.Prelude.{ℕ, ◌≡◌, Bool, true, false, cond, ◌&&◌, List, [], ◌∷◌, leb, length, get_or, Option, Some, None, Result, Ok, Err}
use Rattle.little_endian.specs.Bytes.{put}
use Rattle.record.specs.declared.Device.{Device}
use Rattle.words.specs.Record.{words_of, decoded_of}
use Rattle.save.specs.declared.Fields.{Fields}
use Rattle.refusal.specs.declared.Refusal.{Refusal}
use Rattle.refusal.specs.declared.Refusal.TheVariants as refusal
use Rattle.refusal.specs.Refusal as law
use Rattle.save.specs.Writing.{text_in, written_on}
use Rattle.saving.specs.Saving.{fields_in, saved_length, saved_of}
use Rattle.saving.specs.Restoring.{RestoresText}
use Rattle.old_form.specs.Moves.{ToNew, ToOld}

-- ---- words

-- R19.7: how many words the fields of a state are
abbrev pub fields_length : ℕ
fields_length = 6

abbrev pub fields_from : List ℕ → Fields
fields_from ws =
    record { block = get_or ws 0 0; start = get_or ws 1 0; region = get_or ws 2 0; requested = get_or ws 3 0; usable = get_or ws 4 0; plugged = get_or ws 5 0 }

abbrev pub fields_words : Fields → List ℕ
fields_words f = f.block ∷ f.start ∷ f.region ∷ f.requested ∷ f.usable ∷ f.plugged ∷ []

-- ---- a text's length, or the number of the refusal
abbrev pub wrote_number : Result ℕ Refusal → ℕ
wrote_number (Ok n) = 0
wrote_number (Err why) = law.number why

abbrev pub wrote_words : Result ℕ Refusal → List ℕ → List ℕ
wrote_words (Ok n) words = put words 0 (n ∷ [])
wrote_words (Err why) words = words

pub record WroteTold (w : Result ℕ Refusal) (length length' : List ℕ) (number : ℕ) : Type 0 where
  pub numbered : number ≡ wrote_number w
  pub told : length' ≡ wrote_words w length

-- R19.7: 18 where there is no room for the length; R19.2: 12 for words that are no record
unfoldable pub on_record : Option Device → (Device → Result ℕ Refusal) → Result ℕ Refusal
on_record (Some d) call = call d
on_record None call = Err refusal.NoShape

abbrev pub if_room : (n : ℕ) (words : List ℕ) → Result ℕ Refusal → Result ℕ Refusal
if_room n words w = cond (leb n (length words)) w (Err refusal.NoState)

abbrev pub length_from : (words bitmap length : List ℕ) → Result ℕ Refusal
length_from words bitmap length = if_room 1 length (on_record (decoded_of words) (λ d. saved_length d bitmap))

abbrev pub saved_from : (words bitmap text length : List ℕ) → Result ℕ Refusal
saved_from words bitmap text len = if_room 1 len (on_record (decoded_of words) (λ d. saved_of d bitmap (length text)))

-- the text of the record in the words, where there is one
unfoldable pub text_from : Option Device → (bitmap : List ℕ) → List ℕ
text_from (Some d) bitmap = text_in (fields_in d) bitmap
text_from None bitmap = []

pub record SaveTold (words bitmap text text' length length' : List ℕ) (number : ℕ) : Type 0 where
  pub told : WroteTold (saved_from words bitmap text length) length length' number
  pub buffer : text' ≡ written_on (saved_from words bitmap text length) (text_from (decoded_of words) bitmap) text

-- ---- restoring
abbrev pub restored_number : Result Device Refusal → ℕ
restored_number (Ok d) = 0
restored_number (Err why) = law.number why

abbrev pub restored_words : Result Device Refusal → List ℕ → List ℕ
restored_words (Ok d) words = put words 0 (words_of d)
restored_words (Err why) words = words

-- a restore of the record in the words; the next call goes on from what they hold then
pub record RestoresRecord (d : Device) (text words words' bitmap bitmap' : List ℕ) (number : ℕ) : Type 0 where
  pub answer : Result Device Refusal
  pub restores : RestoresText d text bitmap bitmap' answer
  pub numbered : number ≡ restored_number answer
  pub recorded : words' ≡ restored_words answer words

-- R19.2: 12, the words are no record, and nothing is written
pub record RefusesNoRecord (words words' bitmap bitmap' : List ℕ) (number : ℕ) : Type 0 where
  pub numbered : number ≡ 12
  pub recorded : words' ≡ words
  pub marked : bitmap' ≡ bitmap

unfoldable pub RestoresFrom : Option Device → (text words words' bitmap bitmap' : List ℕ) → ℕ → Type 0
RestoresFrom (Some d) text words words' bitmap bitmap' number = RestoresRecord d text words words' bitmap bitmap' number
RestoresFrom None text words words' bitmap bitmap' number = RefusesNoRecord words words' bitmap bitmap' number

abbrev pub RestoreTold : (text words words' bitmap bitmap' : List ℕ) → ℕ → Type 0
RestoreTold text words words' bitmap bitmap' number = RestoresFrom (decoded_of words) text words words' bitmap bitmap' number

-- ---- the moves
pub record NewTold (f : Fields) (old scratch scratch' text text' length length' : List ℕ) (number : ℕ) : Type 0 where
  pub answer : Result ℕ Refusal
  pub moves : ToNew f old scratch scratch' text text' answer
  pub told : WroteTold answer length length' number

-- R19.7: no room, 18, and nothing is written
pub record NoRoom (scratch scratch' bytes bytes' words words' : List ℕ) (number : ℕ) : Type 0 where
  pub numbered : number ≡ 18
  pub scratch_same : scratch' ≡ scratch
  pub bytes_same : bytes' ≡ bytes
  pub words_same : words' ≡ words

unfoldable pub NewIf : Bool → Fields → (old scratch scratch' text text' length length' : List ℕ) → ℕ → Type 0
NewIf true f old scratch scratch' text text' length length' number = NewTold f old scratch scratch' text text' length length' number
NewIf false f old scratch scratch' text text' length length' number = NoRoom scratch scratch' text text' length length' number

abbrev pub ToNewTold : (fields old scratch scratch' text text' length length' : List ℕ) → ℕ → Type 0
ToNewTold fields old scratch scratch' text text' len len' number =
    NewIf (leb fields_length (length fields) && leb 1 (length len)) (fields_from fields) old scratch scratch' text text' len len' number

abbrev pub got_number : Result Fields Refusal → ℕ
got_number (Ok f) = 0
got_number (Err why) = law.number why

abbrev pub got_words : Result Fields Refusal → List ℕ → List ℕ
got_words (Ok f) words = put words 0 (fields_words f)
got_words (Err why) words = words

pub record OldTold (text scratch scratch' old old' fields fields' : List ℕ) (number : ℕ) : Type 0 where
  pub answer : Result Fields Refusal
  pub moves : ToOld text scratch scratch' old old' answer
  pub numbered : number ≡ got_number answer
  pub told : fields' ≡ got_words answer fields

unfoldable pub OldIf : Bool → (text scratch scratch' old old' fields fields' : List ℕ) → ℕ → Type 0
OldIf true text scratch scratch' old old' fields fields' number = OldTold text scratch scratch' old old' fields fields' number
OldIf false text scratch scratch' old old' fields fields' number = NoRoom scratch scratch' old old' fields fields' number

abbrev pub ToOldTold : (text scratch scratch' old old' fields fields' : List ℕ) → ℕ → Type 0
ToOldTold text scratch scratch' old old' fields fields' number =
    OldIf (leb fields_length (length fields)) text scratch scratch' old old' fields fields' number
