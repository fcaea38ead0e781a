-- SPDX-License-Identifier: Apache-2.0 AND BSD-3-Clause
-- What an exported call leaves in the slices that it was lent: what the device's call ends in, as words.
use Rattle.std.specs.Prelude.{ℕ, ◌≡◌, Bool, cond, List, leb, length, Option, Some, None, Result, Ok, Err}
use Rattle.little_endian.specs.Bytes.{put}
use Rattle.record.specs.declared.Device.{Device}
use Rattle.refusal.specs.declared.Refusal.{Refusal}
use Rattle.making.specs.Made.{made_number}
use Rattle.step.specs.declared.Answer.TheVariants.{Refused as RefusedWith}
use Rattle.step.specs.World.{Outcome, Call}
use Rattle.step.specs.Step.{step}
use Rattle.step.specs.Promise.{Lent, on, left_by, Leaves}
use Rattle.words.specs.Record.{record_length, words_of, decoded_of}
use Rattle.step.specs.Answers.{answer_words, number_of}

-- ---- making
abbrev pub node_of : (given : Bool) (node : ℕ) → Option ℕ
node_of given node = cond given (Some node) None

-- a record is written where one was made
unfoldable pub made_words : List ℕ → Result Device Refusal → List ℕ
made_words ws (Ok d) = put ws 0 (words_of d)
made_words ws (Err refusal) = ws

-- R19.5: 12 where there is no room for a record, and nothing is written
pub record MadeIn (words : List ℕ) (m : Result Device Refusal) (number : ℕ) (words' : List ℕ) : Type 0 where
  pub numbered : number ≡ cond (leb record_length (length words)) (made_number m) 12
  pub recorded : words' ≡ cond (leb record_length (length words)) (made_words words m) words

-- ---- the calls of a device
-- the slices that an export is handed: the record's words, the answer's words, and what its call is lent
pub record Handed : Type 0 where
  pub words : List ℕ
  pub answer : List ℕ
  pub slices : Lent

abbrev pub handed : (words answer : List ℕ) → Lent → Handed
handed words answer slices = record { words = words; answer = answer; slices = slices }

-- the call's outcome: its number, and all that it leaves; the next call goes on from the outcome's record
pub record Told (o : Outcome) (entry exit : Handed) (number : ℕ) : Type 0 where
  pub numbered : number ≡ number_of o.answer
  pub recorded : exit.words ≡ put entry.words 0 (words_of o.world.device)
  pub decodes : decoded_of exit.words ≡ Some o.world.device
  pub told : exit.answer ≡ put entry.answer 0 (answer_words o.answer)
  pub leaves : Leaves (left_by o) entry.slices exit.slices

-- R19.2, R19.8: the words are no record, and only the answer is written
pub record Foreign (entry exit : Handed) (number : ℕ) : Type 0 where
  pub numbered : number ≡ 12
  pub told : exit.answer ≡ put entry.answer 0 (answer_words (RefusedWith 12))
  pub recorded : exit.words ≡ entry.words
  pub untouched : exit.slices ≡ entry.slices

-- a call on what the words mean
unfoldable pub Called : Option Device → (Lent → Call) → (entry exit : Handed) → ℕ → Type 0
Called (Some d) call entry exit number = Told (step (on d entry.slices) (call entry.slices)) entry exit number
Called None call entry exit number = Foreign entry exit number

-- the call, on what was handed in, tells what `step` says
abbrev pub Exported : (Lent → Call) → (entry exit : Handed) → ℕ → Type 0
Exported call entry exit number = Called (decoded_of entry.words) call entry exit number
