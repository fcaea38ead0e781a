-- SPDX-License-Identifier: Apache-2.0 AND BSD-3-Clause
-- What an exported call on a queue leaves in the slices that it was lent: what the queue's call ends in, as words.
use Rattle.record.specs.declared.Device.{Device}
use Rattle.std.specs.Prelude.{ℕ, ◌≡◌, Bool, cond, List, leb, length, Option, Some, None}
use Rattle.little_endian.specs.Bytes.{put}
use Rattle.rings.specs.declared.Queue.{Queue}
use Rattle.queue.specs.Queue.{QueueOutcome, serve_next, host_answers, queue_answer_words, queue_number_of, left_by_queue}
use Rattle.words.specs.Record.{words_of, decoded_of}
use Rattle.queue_words.specs.Words.{queue_length, queue_words, decoded_queue_of}
use Rattle.step.specs.World.{World}
use Rattle.step.specs.Promise.{Lent, on, guest_in, Leaves}
use Rattle.jambcopper.specs.Exports.{Handed, Foreign}

-- ---- making
-- a queue of which nothing is taken yet
abbrev pub new_queue : (descriptors available used : ℕ) → Queue
new_queue descriptors available used =
    record {
      descriptors = record { 0 = descriptors };
      available = record { 0 = available };
      used = record { 0 = used };
      next_available = 0;
      next_used = 0;
      taken = None;
    }

-- R19.5: 12 where there is no room for a queue, and nothing is written
pub record QueueMadeIn (words : List ℕ) (q : Queue) (number : ℕ) (words' : List ℕ) : Type 0 where
  pub numbered : number ≡ cond (leb queue_length (length words)) 0 12
  pub queued : words' ≡ cond (leb queue_length (length words)) (put words 0 (queue_words q)) words

-- ---- the calls on a queue
-- the slices that an export is handed: the queue's words, and those of a device's call
pub record QueueHanded : Type 0 where
  pub queue : List ℕ
  pub others : Handed

abbrev pub queue_handed : (queue : List ℕ) → Handed → QueueHanded
queue_handed queue others = record { queue = queue; others = others }

-- a call on a queue, of what is lent: from a world and a queue to its outcome
abbrev pub QueueStep : Type 0
QueueStep = Lent → World → Queue → QueueOutcome

abbrev pub serve_on : (base : ℕ) → QueueStep
serve_on base l w q = serve_next w q (guest_in l base)

abbrev pub serve_answer_on : (base : ℕ) (ok : Bool) (host : ℕ) → QueueStep
serve_answer_on base ok host l w q = host_answers w q (guest_in l base) ok host

-- the call's outcome: its number, and all that it leaves; the next call goes on from the outcome's record and queue
pub record QueueTold (o : QueueOutcome) (entry exit : QueueHanded) (number : ℕ) : Type 0 where
  pub numbered : number ≡ queue_number_of o.answer
  pub recorded : exit.others.words ≡ put entry.others.words 0 (words_of o.world.device)
  pub decodes : decoded_of exit.others.words ≡ Some o.world.device
  pub queued : exit.queue ≡ put entry.queue 0 (queue_words o.queue)
  pub queue_decodes : decoded_queue_of exit.queue ≡ Some o.queue
  pub told : exit.others.answer ≡ put entry.others.answer 0 (queue_answer_words o.answer)
  pub leaves : Leaves (left_by_queue o) entry.others.slices exit.others.slices

-- R19.2, R19.4, R19.8: the words are no record, or no queue, and only the answer is written
pub record QueueForeign (entry exit : QueueHanded) (number : ℕ) : Type 0 where
  pub others : Foreign entry.others exit.others number
  pub queued : exit.queue ≡ entry.queue

-- a call on what the words mean
unfoldable pub QueueCalled : Option Device → Option Queue → QueueStep → (entry exit : QueueHanded) → ℕ → Type 0
QueueCalled (Some d) (Some q) call entry exit number =
    QueueTold (call entry.others.slices (on d entry.others.slices) q) entry exit number
QueueCalled (Some d) None call entry exit number = QueueForeign entry exit number
QueueCalled None r call entry exit number = QueueForeign entry exit number

-- the call, on what was handed in, tells what the queue's definition says
abbrev pub QueueExported : QueueStep → (entry exit : QueueHanded) → ℕ → Type 0
QueueExported call entry exit number =
    QueueCalled (decoded_of entry.others.words) (decoded_queue_of entry.queue) call entry exit number
