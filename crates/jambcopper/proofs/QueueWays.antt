-- SPDX-License-Identifier: Apache-2.0 AND BSD-3-Clause
-- The ways through the exports on a queue: what the queue's call promises, as words, and 12 where there is no record, or no queue.
use Rattle.std.specs.Prelude.{Option, Some, None}
use Prim.Native.Nat.{ℕ, ◌+◌, ◌≤◌, ◌<◌}
use mathlib.Core.Path.{◌≡◌, refl, sym, ap, ◌∙◌}
use mathlib.Core.List.{List, [], append-nil}
use native.Mathlib.Omega.{arith}
use lib.ListN.{length, drop}
use lib.Seq.{drop-length}
use borrow.Author.Tests.{le-leb, lt-leb}
use Rattle.rows.proofs.Words.{whole}
use Rattle.little_endian.specs.Bytes.{put}
use Rattle.little_endian.proofs.Laws.{put_fits}
use Rattle.record.specs.declared.Device.{Device}
use Rattle.rings.specs.declared.Queue.{Queue}
use Rattle.record.specs.declared.HostCall.TheVariants.{Create, Discard}
use Rattle.step.specs.declared.Answer.{Answer}
use Rattle.step.specs.declared.Answer.TheVariants.{Refused, Wants, Sized, Unserved, Served, Done}
use Rattle.step.specs.World.{Outcome, Call}
use Rattle.step.specs.Step.{step}
use Rattle.step.specs.Promise.{Lent, lent, on}
use Rattle.step.specs.Answers.{answer_words}
use Rattle.step.proofs.Served.{Short}
use Rattle.queue.specs.declared.Ending.{Ending}
use Rattle.queue.specs.Queue.{ending_of, queue_by, unmoved, aside, about, Settles, queue_answer_words, queue_number_of}
use Rattle.words.specs.Record.{decoded_of}
use Rattle.words.proofs.Laws.{decoded_encodes}
use Rattle.queue_words.specs.Words.{queue_words, decoded_queue_of, ending_words}
use Rattle.queue_words.proofs.Laws.{decoded_long as queue_long, decoded_encodes as queue-encodes, ending_told_lem}
use Rattle.jambcopper.specs.Exports.{handed, Told, Called, Exported}
use Rattle.jambcopper.specs.Queue.{QueueMadeIn, queue_handed, QueueStep, QueueCalled, QueueExported}

-- ---- an answer's nine words
nine : (a : Answer) → length (answer_words a) ≡ 9
nine (Refused number) = refl
nine (Wants (Create guest size slot)) = refl
nine (Wants (Discard offset size host)) = refl
nine Sized = refl
nine (Unserved reason) = refl
nine (Served reply) = refl
nine Done = refl

-- where there is just room for them, they are all that stands there
put_whole : (xs ys : List ℕ) → length xs ≡ length ys → put xs 0 ys ≡ ys
put_whole xs ys e =
    let none : drop (length ys) xs ≡ [] = rw (← e) (drop-length xs) in
    let sum : 0 + length ys ≡ length ys = omega arith in
    put_fits xs 0 ys (omega arith) ∙ rw (sum, none) (append-nil ys)

-- what the record's words and the queue's mean, as `decode` and `decode_queue` find it
module _ (call : QueueStep) (words queue : List ℕ) {r : Option Device} (e : r ≡ decoded_of words) where
  -- no record: only the answer is written
  pub no_record : r ≡ None → (answer : List ℕ) (l : Lent) → {answer' : List ℕ} {number : ℕ}
      → (number ≡ 12) × (answer' ≡ put answer 0 (answer_words (Refused 12)))
      → QueueExported call (queue_handed queue (handed words answer l)) (queue_handed queue (handed words answer' l)) number
  unfolding QueueCalled
  no_record f answer l t =
      let is : decoded_of words ≡ None = sym e ∙ f in
      rw is (record { others = record { numbered = t.0; told = t.1; recorded = refl; untouched = refl }; queued = refl })

  module _ {d : Device} (f : r ≡ Some d) {x : Option Queue} (h : x ≡ decoded_queue_of queue) where
    is : decoded_of words ≡ Some d
    is = sym e ∙ f

    -- a record and no queue: so too
    pub no_queue : x ≡ None → (answer : List ℕ) (l : Lent) → {answer' : List ℕ} {number : ℕ}
        → (number ≡ 12) × (answer' ≡ put answer 0 (answer_words (Refused 12)))
        → QueueExported call (queue_handed queue (handed words answer l)) (queue_handed queue (handed words answer' l)) number
    unfolding QueueCalled
    no_queue i answer l t =
        let is_none : decoded_queue_of queue ≡ None = sym h ∙ i in
        rw (is, is_none) (record { others = record { numbered = t.0; told = t.1; recorded = refl; untouched = refl }; queued = refl })

    module _ {q : Queue} (i : x ≡ Some q) where
      is_queue_lem : decoded_queue_of queue ≡ Some q
      is_queue_lem = sym h ∙ i

      -- a call that takes no head and changes nothing: only the answer is written
      pub unmoved_told : (answer : List ℕ) (l : Lent) → {t : Option Answer} {answer' : List ℕ} {number : ℕ}
          → call l (on d l) q ≡ unmoved t (on d l) q l.bytes
          → (number ≡ queue_number_of t) × (answer' ≡ put answer 0 (queue_answer_words t))
          → QueueExported call (queue_handed queue (handed words answer l)) (queue_handed queue (handed words answer' l)) number
      unfolding QueueCalled
      unmoved_told answer l same told =
          rw (is, is_queue_lem, same)
          (record {
            numbered = told.0;
            recorded = sym (decoded_encodes words d is);
            decodes = is;
            queued = sym (queue-encodes queue q is_queue_lem);
            queue_decodes = is_queue_lem;
            told = told.1;
            leaves = record { marked = refl; mapped = sym (whole l.table); left = refl };
          })

      -- a call of the device on the same words
      module _ (device : Lent → Call) (told told' words' : List ℕ) (before after : Lent) (number : ℕ)
          (kept : Exported device (handed words told before) (handed words' told' after) number) where
        abbrev outcome : Outcome
        outcome = step (on d before) (device before)

        tells : Told outcome (handed words told before) (handed words' told' after) number
        unfolding Called
        tells = rw is at kept

        -- that is about no head: its answer is the call's
        pub aside-told : call before (on d before) q ≡ aside q outcome
            → QueueExported call (queue_handed queue (handed words told before)) (queue_handed queue (handed words' told' after)) number
        unfolding QueueCalled
        aside-told same =
            rw (is, is_queue_lem, same)
            (record {
              numbered = tells.numbered;
              recorded = tells.recorded;
              decodes = tells.decodes;
              queued = sym (queue-encodes queue q is_queue_lem);
              queue_decodes = is_queue_lem;
              told = tells.told;
              leaves = record { marked = tells.leaves.marked; mapped = tells.leaves.mapped; left = tells.leaves.left };
            })

        -- that is about a head: its ending is read from its nine words, which are passed on
        pub about-told : (answer : List ℕ) → {head base : ℕ} {was out now : Queue} {ending : Ending} {queue' answer' bytes' : List ℕ}
            → length told ≡ 9 → Short outcome.answer → call before (on d before) q ≡ about head base was out outcome
            → ending ≡ ending_words told' → Settles ending head base was out after.bytes now bytes'
            → (queue' ≡ put queue 0 (queue_words now)) × (6 ≤ length queue → decoded_queue_of queue' ≡ Some now) → answer' ≡ put answer 0 told'
            → QueueExported call (queue_handed queue (handed words answer before)) (queue_handed queue' (handed words' answer' (lent after.bitmap after.table bytes'))) number
        unfolding QueueCalled
        about-told answer {was = was} {out = out} {now = now} {ending = ending} room short same ending-is settled written passed =
            let a = outcome.answer in
            let said : told' ≡ answer_words a = tells.told ∙ put_whole told (answer_words a) (room ∙ sym (nine a)) in
            let ends : ending ≡ ending_of a = ending-is ∙ ap ending_words said ∙ ending_told_lem a short in
            let now-is : now ≡ queue_by (ending_of a) was out = rw ends at settled.queued in
            rw (is, is_queue_lem, same)
            (record {
              numbered = tells.numbered;
              recorded = tells.recorded;
              decodes = tells.decodes;
              queued = written.0 ∙ ap (λ (k : Queue). put queue 0 (queue_words k)) now-is;
              queue_decodes = written.1 (queue_long queue q is_queue_lem) ∙ ap Some now-is;
              told = passed ∙ ap (put answer 0) said;
              leaves = record { marked = tells.leaves.marked; mapped = tells.leaves.mapped; left = rw (ends, tells.leaves.left) at settled.left };
            })

-- ---- making
pub no_queue_room : {words : List ℕ} {q : Queue} {n : ℕ} → length words < 6 → n ≡ 12 → QueueMadeIn words q n words
no_queue_room h e = record { numbered = simp (lt-leb _ _ h) e; queued = simp (lt-leb _ _ h) }

pub queue_made : {words words' : List ℕ} {q : Queue} → 6 ≤ length words → words' ≡ put words 0 (queue_words q) → QueueMadeIn words q 0 words'
queue_made h w = record { numbered = simp (le-leb _ _ h); queued = simp (le-leb _ _ h) w }
