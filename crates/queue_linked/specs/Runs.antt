-- SPDX-License-Identifier: Apache-2.0 AND BSD-3-Clause
-- A run of the exported functions on a device and its queue, as a program that links the library makes it.
use Prim.{Unit}
use Rattle.std.specs.Prelude.{ℕ, ◌≡◌, Bool, true, List, [], ◌∷◌, Some, Ok}
use Rattle.bitmap.specs.Blocks.{blocks}
use Rattle.rows.specs.Rows.{rows_of}
use Rattle.little_endian.specs.Bytes.{put}
use Rattle.record.specs.declared.Device.{Device}
use Rattle.rings.specs.declared.Queue.{Queue}
use Rattle.step.specs.World.{World}
use Rattle.queue.specs.Queue.{queue_answer_words, queue_number_of}
use Rattle.queue_words.specs.Words.{decoded_queue_of}
use Rattle.step.specs.Promise.{Lent, guest_in}
use Rattle.jambcopper.specs.Queue.{new_queue, QueueMadeIn, QueueHanded, QueueExported}
use Rattle.history.specs.History.{begun, Demand3}
use Rattle.linked.specs.Runs.{Function, jambcopper_place as place, jambcopper_set_requested_size as resize, jambcopper_read_config as read, jambcopper_write_config as write, Use, Promised, Held, in_use, Lends, holding, leaves, Making, made_by, first, Means, in_hand}
use Rattle.queue_runs.specs.Runs.{Beside, Placing, Sizing, Reading, Writing, QueueCall, TakeNext, Host, PastIt, queue_step, after_all, opened}

-- ---- one call
-- the functions of a device that go past its queue, and those on the queue
pub data Side : Type 0 where
  jambcopper_place : (start size : ℕ) (slots : List ℕ) → Side
  jambcopper_set_requested_size : (mib : ℕ) → Side
  jambcopper_read_config : (offset : ℕ) → Side
  jambcopper_write_config : (offset : ℕ) → Side

pub data QueueFunction : Type 0 where
  jambcopper_serve : (base : ℕ) → QueueFunction
  jambcopper_serve_answer : (base : ℕ) (ok : Bool) (host : ℕ) → QueueFunction
  Past : (side : Side) → QueueFunction

-- the call with all that a program sees of it; a function that goes past the queue is not lent its words
pub record QueueUse : Type 0 where
  pub function : QueueFunction
  pub before : QueueHanded
  pub after : QueueHanded
  pub number : ℕ

-- as `linked` has a function that goes past the queue
unfoldable pub function_of : Side → Function
function_of (jambcopper_place start size slots) = place start size slots
function_of (jambcopper_set_requested_size mib) = resize mib
function_of (jambcopper_read_config offset) = read offset
function_of (jambcopper_write_config offset) = write offset

abbrev pub use_of : Side → (before after : QueueHanded) (number : ℕ) → Use
use_of side b a n = record { function = function_of side; before = b.others; after = a.others; number = n }

-- the call of the definition
unfoldable pub beside_by : Side → Lent → Beside
beside_by (jambcopper_place start size slots) l = Placing start size slots (blocks l.bitmap) (rows_of l.table)
beside_by (jambcopper_set_requested_size mib) l = Sizing mib
beside_by (jambcopper_read_config offset) l = Reading offset l.bytes
beside_by (jambcopper_write_config offset) l = Writing offset l.bytes

unfoldable pub call_by : QueueFunction → Lent → QueueCall
call_by (jambcopper_serve base) l = TakeNext (guest_in l base)
call_by (jambcopper_serve_answer base ok host) l = Host (guest_in l base) ok host
call_by (Past side) l = PastIt (beside_by side l)

abbrev pub call_of : QueueUse → QueueCall
call_of u = call_by u.function u.before.others.slices

-- what an export on the queue promises: on the record and the queue that the words mean, and on the tables that it is lent, the definition's step
abbrev pub OnQueue : (Lent → QueueCall) → (before after : QueueHanded) (number : ℕ) → Type 0
OnQueue c b a n = QueueExported (λ l w q. queue_step w q (c l)) b a n

-- ---- what a program holds between two calls: what `linked` has, and the queue's words
pub record QueueHeld : Type 0 where
  pub device : Held
  pub queue : List ℕ

-- the call is lent what is held: the record and the queue always, the tables while they are in use
pub record LendsQueue (h : QueueHeld) (b : QueueHanded) : Type 0 where
  pub same_queue : b.queue ≡ h.queue
  pub same_words : b.others.words ≡ h.device.words
  pub same_bitmap : in_use h.device ≡ true → b.others.slices.bitmap ≡ h.device.bitmap
  pub same_table : in_use h.device ≡ true → b.others.slices.table ≡ h.device.table

-- and keeps its promise
unfoldable pub OneBy : QueueFunction → QueueHeld → (before after : QueueHanded) (number : ℕ) → Type 0
OneBy (jambcopper_serve base) h b a n = LendsQueue h b × OnQueue (call_by (jambcopper_serve base)) b a n
OneBy (jambcopper_serve_answer base ok host) h b a n = LendsQueue h b × OnQueue (call_by (jambcopper_serve_answer base ok host)) b a n
OneBy (Past side) h b a n = Lends h.device (use_of side b a n) × Promised (use_of side b a n)

abbrev pub One : QueueHeld → QueueUse → Type 0
One h u = OneBy u.function h u.before u.after u.number

-- what is held then
unfoldable pub leaves_by : QueueFunction → QueueHeld → (before after : QueueHanded) (number : ℕ) → QueueHeld
leaves_by (jambcopper_serve base) h b a n = record { device = holding (in_use h.device) h.device a.others; queue = a.queue }
leaves_by (jambcopper_serve_answer base ok host) h b a n = record { device = holding (in_use h.device) h.device a.others; queue = a.queue }
leaves_by (Past side) h b a n = record { device = leaves h.device (use_of side b a n); queue = h.queue }

abbrev pub leaves_queue : QueueHeld → QueueUse → QueueHeld
leaves_queue h u = leaves_by u.function h u.before u.after u.number

-- ---- a run
unfoldable pub Run : QueueHeld → List QueueUse → Type 0
Run h [] = Unit {0}
Run h (u ∷ us) = One h u × Run (leaves_queue h u) us

unfoldable pub held_after : QueueHeld → List QueueUse → QueueHeld
held_after h [] = h
held_after h (u ∷ us) = held_after (leaves_queue h u) us

unfoldable pub calls_of : List QueueUse → List QueueCall
calls_of [] = []
calls_of (u ∷ us) = call_of u ∷ calls_of us

-- ---- how it begins: the arguments of jambcopper_queue_make, which has returned 0 and left words'
pub record QueueMaking : Type 0 where
  pub words : List ℕ
  pub descriptors : ℕ
  pub available : ℕ
  pub used : ℕ

abbrev pub made_queue : QueueMaking → Queue
made_queue k = new_queue k.descriptors k.available k.used

abbrev pub QueueMakes : QueueMaking → (words' : List ℕ) → Type 0
QueueMakes k words' = QueueMadeIn k.words (made_queue k) 0 words'

abbrev pub begins : (words queue : List ℕ) → QueueHeld
begins words queue = record { device = first words; queue = queue }

-- ---- what is said of a run
-- what is held means where the run on the queue stands
pub record QueueMeans (h : QueueHeld) (w : World) (q : Queue) : Type 0 where
  pub device : Means h.device w
  pub queue : decoded_queue_of h.queue ≡ Some q

-- a call tells what the definition's step on the queue tells, by its number and the answer's words, and leaves its bytes; the config's calls tell a number alone
pub record Tells (w : World) (q : Queue) (u : QueueUse) : Type 0 where
  pub numbered : u.number ≡ queue_number_of (queue_step w q (call_of u)).answer
  pub told : u.after.others.answer ≡ put u.before.others.answer 0 (queue_answer_words (queue_step w q (call_of u)).answer)
  pub left : u.after.others.slices.bytes ≡ (queue_step w q (call_of u)).bytes

-- the theorem: a device and a queue were made, and over any run of the exported functions from then on
pub record QueueLinked (m : Making) (words : List ℕ) (k : QueueMaking) (queue : List ℕ) : Type 0 where
  pub device : Device
  pub is_made : made_by m ≡ Ok device
  -- what is held means where the definition's run of the same calls stands
  pub means : (us : List QueueUse) → Run (begins words queue) us → let s = after_all (opened (begun device) (made_queue k)) (calls_of us) in QueueMeans (held_after (begins words queue) us) s.world s.queue
  -- any further call tells what its next step tells
  pub tells : (us : List QueueUse) → Run (begins words queue) us → (u : QueueUse) → One (held_after (begins words queue) us) u → let s = after_all (opened (begun device) (made_queue k)) (calls_of us) in Tells s.world s.queue u
  -- demand 3 holds of the world that is held, and of the events of the definition's run
  pub demand_3 : (us : List QueueUse) → Run (begins words queue) us → let s = after_all (opened (begun device) (made_queue k)) (calls_of us) in Demand3 (in_hand (held_after (begins words queue) us).device) s.story.events
