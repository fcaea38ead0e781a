-- SPDX-License-Identifier: Apache-2.0 AND BSD-3-Clause
-- The two ways through every export: what the device's call promises, as words, and 12 where there is no record.
use Rattle.std.specs.Prelude.{Option, Some, None, Result, Ok, Err}
use Prim.Native.Nat.{ℕ, ◌≤◌, ◌<◌}
use mathlib.Core.Path.{◌≡◌, refl, sym, ap, ◌∙◌}
use mathlib.Core.List.{List, []}
use native.Mathlib.Omega.{arith}
use lib.ListN.{length}
use borrow.Author.Tests.{le-leb, lt-leb}
use Rattle.units.proofs.Tests.{by_test}
use Rattle.little_endian.specs.Bytes.{put}
use Rattle.little_endian.proofs.Laws.{put_past}
use Rattle.record.specs.declared.Device.{Device}
use Rattle.step.specs.declared.Answered.{Answered}
use Rattle.step.specs.declared.Answer.{Answer}
use Rattle.step.specs.declared.Answer.TheVariants.{Refused}
use Rattle.step.specs.World.{Call, world_of, ReadConfig, WriteConfig}
use Rattle.step.specs.Promise.{Lent, Steps}
use Rattle.step.specs.Step.{step, read_config, write_config}
use Rattle.record.specs.Shape.{shaped_of}
use Rattle.record.specs.Changes.{pending_to, placed_to, plugged_to, usable_to}
use Rattle.refusal.specs.declared.Refusal.{Refusal}
use Rattle.refusal.specs.Refusal.{number}
use Rattle.words.specs.Record.{words_of, decoded_of, after_request, after_answer}
use Rattle.step.specs.Answers.{answer_words, number_of}
use Rattle.words.proofs.Laws.{decoded_encodes, decoded_long, request_encodes, answer_encodes}
use Rattle.making.specs.Made.{made_number}
use Rattle.jambcopper.specs.Exports.{made_words, MadeIn, handed, Called, Exported}

-- what the words mean, as `decode` finds it
module _ (call : Lent → Call) (words answer : List ℕ) {r : Option Device} (e : r ≡ decoded_of words) where
  -- no record: only the answer is written
  pub foreign : r ≡ None → (slices : Lent) → {number : ℕ} {answer' : List ℕ} → number ≡ 12
      → answer' ≡ put answer 0 (answer_words (Refused 12))
      → Exported call (handed words answer slices) (handed words answer' slices) number
  unfolding Called
  foreign f slices n t =
      let is : decoded_of words ≡ None = sym e ∙ f in
      rw is (record { numbered = n; told = t; recorded = refl; untouched = refl })

  -- a record: what the device's call promises, written out as words, is what the export promises
  pub served : {d : Device} {s : Answered} {words' answer' : List ℕ} {before after : Lent} {number : ℕ}
      → r ≡ Some d → Steps d call before after s
      → (words' ≡ put words 0 (words_of s.device)) × (15 ≤ length words → decoded_of words' ≡ Some s.device)
      → (number ≡ number_of s.answer) × (answer' ≡ put answer 0 (answer_words s.answer))
      → Exported call (handed words answer before) (handed words' answer' after) number
  unfolding Called
  served {d} f m w t =
      let is : decoded_of words ≡ Some d = sym e ∙ f in
      rw is
      (record {
        numbered = t.0 ∙ ap number_of m.answered;
        recorded = w.0 ∙ ap (λ (d : Device). put words 0 (words_of d)) m.recorded;
        decodes = w.1 (decoded_long words d is) ∙ ap Some m.recorded;
        told = t.1 ∙ ap (λ a. put answer 0 (answer_words a)) m.answered;
        leaves = m.leaves;
      })

-- a call that may change a part of the record need write only that
in_part : (words words' : List ℕ) (part : Device → List ℕ) (d' o : Device) → d' ≡ o
    → (part o ≡ put words 0 (words_of o)) × (decoded_of (part o) ≡ Some o) → words' ≡ part d'
    → (words' ≡ put words 0 (words_of d')) × (15 ≤ length words → decoded_of words' ≡ Some d')
in_part words words' part d' o same whole w =
    let at-o : words' ≡ part o = w ∙ ap part same in (
      at-o ∙ whole.0 ∙ sym (ap (λ (d : Device). put words 0 (words_of d)) same),
      λ long. ap decoded_of at-o ∙ whole.1 ∙ sym (ap Some same),
    )

-- d is the record that the words mean, o the outcome's, and d' what is written
module _ (words : List ℕ) {r : Option Device} (e : r ≡ decoded_of words) {d : Device} (f : r ≡ Some d) {o d' : Device} (same : d' ≡ o) where
  is : decoded_of words ≡ Some d
  is = sym e ∙ f

  -- a call that leaves the record as it is need not write it
  pub unwritten : o ≡ d → (words ≡ put words 0 (words_of d')) × (15 ≤ length words → decoded_of words ≡ Some d')
  unwritten k =
      let kept : d' ≡ d = same ∙ k in (
        sym (ap (λ (d : Device). put words 0 (words_of d)) kept ∙ decoded_encodes words d is),
        λ long. is ∙ sym (ap Some kept),
      )

  pub request_written : o ≡ pending_to o.pending (plugged_to o.config.plugged_size d) → {words' : List ℕ} → words' ≡ after_request words d'
      → (words' ≡ put words 0 (words_of d')) × (15 ≤ length words → decoded_of words' ≡ Some d')
  request_written k =
      in_part words _ (after_request words) d' _ (same ∙ k)
      (request_encodes words d is o.config.plugged_size o.pending)

  pub answer_written : o ≡ pending_to o.pending (placed_to o.placed (plugged_to o.config.plugged_size (usable_to o.config.usable_region_size d)))
      → {words' : List ℕ} → words' ≡ after_answer words d'
      → (words' ≡ put words 0 (words_of d')) × (15 ≤ length words → decoded_of words' ≡ Some d')
  answer_written k =
      in_part words _ (after_answer words) d' _ (same ∙ k)
      (answer_encodes words d is o.config.usable_region_size o.config.plugged_size o.placed o.pending)

-- where no answer slice is lent, none is written
pub untold : (answer : Answer) → [] ≡ put [] 0 (answer_words answer)
untold answer = sym (put_past [] 0 (answer_words answer) (omega arith))

-- the config's calls leave the record as it is
pub read_keeps : (d : Device) (offset : ℕ) (buffer : List ℕ) → (step (world_of d [] []) (ReadConfig offset buffer)).world.device ≡ d
unfolding step read_config
read_keeps d offset buffer = by_test (shaped_of d) (λ t. simp t) (λ t. simp t)

pub write_keeps : (d : Device) (offset : ℕ) (buffer : List ℕ) → (step (world_of d [] []) (WriteConfig offset buffer)).world.device ≡ d
unfolding step write_config
write_keeps d offset buffer = by_test (shaped_of d) (λ t. simp t) (λ t. simp t)

-- ---- making
pub no_room : {words : List ℕ} {m : Result Device Refusal} {n : ℕ} → length words < 15 → n ≡ 12 → MadeIn words m n words
no_room h e = record { numbered = simp (lt-leb _ _ h) e; recorded = simp (lt-leb _ _ h) }

module _ {words : List ℕ} {m r : Result Device Refusal} (h : 15 ≤ length words) (e : r ≡ m) where
  pub made_refused : {refusal : Refusal} {n : ℕ} → r ≡ Err refusal → n ≡ number refusal → MadeIn words m n words
  unfolding made_number made_words
  made_refused {refusal} f g =
      let is : m ≡ Err refusal = sym e ∙ f in
      rw is (record { numbered = simp (le-leb _ _ h) g; recorded = simp (le-leb _ _ h) })

  pub made_device : {d : Device} {words' : List ℕ} → r ≡ Ok d → words' ≡ put words 0 (words_of d) → MadeIn words m 0 words'
  unfolding made_number made_words
  made_device {d} f w =
      let is : m ≡ Ok d = sym e ∙ f in
      rw is (record { numbered = simp (le-leb _ _ h); recorded = simp (le-leb _ _ h) w })
