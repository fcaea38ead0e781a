-- SPDX-License-Identifier: Apache-2.0 AND BSD-3-Clause
-- The device on its queue (R13): which head a call takes, what becomes of it by the device's answer, and the host's answer while a head is out.
use Rattle.refusal.specs.Refusal.{number}
use Rattle.std.specs.Prelude.{ℕ, ◌≡◌, Bool, true, false, cond, not, List, [], ◌∷◌, length, get_or, Option, Some, None, Ok, Err, Result, ⊤}
use Rattle.units.specs.declared.GuestAddr.{GuestAddr}
use Rattle.record.specs.declared.Device.{Device}
use Rattle.record.specs.Shape.{shaped_of}
use Rattle.record.specs.declared.Pending.{Pending}
use Rattle.record.specs.declared.Pending.TheVariants.{Nothing as Idle, Create, Discard, DiscardOne}
use Rattle.rings.specs.declared.Queue.{Queue}
use Rattle.refusal.specs.declared.Refusal.{Refusal}
use Rattle.refusal.specs.declared.Refusal.TheVariants.{TooShort, NoShape, RingOutside}
use Rattle.rings.specs.Rings.{index_after, rings_inside, next_head, reported}
use Rattle.step.specs.declared.Answer.{Answer}
use Rattle.step.specs.declared.Answer.TheVariants.{Refused, Wants, Sized, Unserved, Served, Done}
use Rattle.step.specs.World.{World, Guest, Request, HostAnswer, Outcome}
use Rattle.step.specs.Answers.{answer_words}
use Rattle.step.specs.Step.{step, ready_refusal, pending_refusal, tables_fit}
use Rattle.step.specs.Promise.{Lent, Meant, on, guest_in, Leaves}
use Rattle.queue.specs.declared.Ending.{Ending}
use Rattle.queue.specs.declared.Ending.TheVariants.{Stays, Out, Used}
use Rattle.queue.specs.declared.Taking.{Taking}
use Rattle.queue.specs.declared.Taking.TheVariants.{Walk, NoHead}
use Rattle.queue.specs.declared.Turn.{Turn}

-- the world, the queue and the guest's bytes afterwards, and what is told: that the ring is empty, or the device's answer
pub record QueueOutcome : Type 0 where
  pub world : World
  pub queue : Queue
  pub answer : Option Answer
  pub bytes : List ℕ

-- ---- the queue's record
-- the queue with these indices and this head out
abbrev pub queue_with : Queue → (available used : ℕ) → Option ℕ → Queue
queue_with q available used taken =
    record { descriptors = q.descriptors; available = q.available; used = q.used; next_available = available; next_used = used; taken = taken }

-- the head is out until its request has ended (R13.8)
abbrev pub took_head : Queue → (head : ℕ) → Queue
took_head q head = queue_with q (index_after q.next_available) q.next_used (Some head)

-- the head that was out is reported used
abbrev pub gave_back : Queue → Queue
gave_back q = queue_with q q.next_available (index_after q.next_used) None

-- a discard is pending
abbrev pub discarding : Pending → Bool
discarding Idle = false
discarding (Create first last) = false
discarding (Discard first count status) = true
discarding (DiscardOne block status) = true

-- R13.11, the queue's own part of 12: a head is out only while a discard is pending
abbrev pub queue_ok : Option ℕ → Pending → Bool
queue_ok None p = true
queue_ok (Some head) p = discarding p

-- ---- what becomes of a head by the device's answer
-- R13.8, R13.9: it is reported when its request has ended, and a refused call takes none
abbrev pub ending_of : Answer → Ending
ending_of (Refused number) = Stays
ending_of (Wants call) = Out
ending_of Sized = Stays
ending_of (Unserved reason) = Used 0
ending_of (Served reply) = Used reply.used
ending_of Done = Stays

-- the queue is the one before the call, or the one with the head out, or the head is given back
unfoldable pub queue_by : Ending → (before out : Queue) → Queue
queue_by Stays before out = before
queue_by Out before out = out
queue_by (Used len) before out = gave_back out

-- R13.8, R13.13: the element and the index, behind the bytes that the device left
unfoldable pub bytes_by : Ending → (out : Queue) (head base : ℕ) → List ℕ → List ℕ
bytes_by Stays out head base mem = mem
bytes_by Out out head base mem = mem
bytes_by (Used len) out head base mem = reported mem base out.used.0 out.next_used head len

-- ---- the endings
-- a refused call, and one that finds no head there, change nothing
abbrev pub unmoved : Option Answer → World → Queue → List ℕ → QueueOutcome
unmoved t w q bytes = record { world = w; queue = q; answer = t; bytes = bytes }

-- a call of the device that is about no head
abbrev pub aside : Queue → Outcome → QueueOutcome
aside q o = record { world = o.world; queue = q; answer = Some o.answer; bytes = o.bytes }

-- a call of the device that is about a head
abbrev pub about : (head base : ℕ) (before out : Queue) → Outcome → QueueOutcome
about head base before out o =
    record {
      world = o.world;
      queue = queue_by (ending_of o.answer) before out;
      answer = Some o.answer;
      bytes = bytes_by (ending_of o.answer) out head base o.bytes;
    }

-- ---- taking the next head
-- R13.4: 12, the queue's part of it first, 7, 5 and 11
unfoldable pub taking_refusal : Device → Option ℕ → (blocks rows : ℕ) → Result ⊤ Refusal
taking_refusal d taken blocks rows = cond (not (queue_ok taken d.pending)) (Err NoShape) (ready_refusal d blocks rows)

-- then 14, 15, none or a head
unfoldable pub next_unless : Result ⊤ Refusal → Result (Option ℕ) Refusal → Result (Option ℕ) Refusal
next_unless (Ok admitted) next = next
next_unless (Err refusal) next = Err refusal

abbrev pub next_of : World → Queue → Guest → Result (Option ℕ) Refusal
next_of w q g =
    next_unless (taking_refusal w.device q.taken (length w.blocks) (length w.rows)) (next_head g.mem g.base q)

-- what is told where no head is taken
unfoldable pub none_told : Result (Option ℕ) Refusal → Option Answer
none_told (Ok (Some head)) = None
none_told (Ok None) = None
none_told (Err refusal) = Some (Refused (number refusal))

-- R13.4, R13.7
unfoldable pub takes : Result (Option ℕ) Refusal → World → Queue → Guest → QueueOutcome
takes (Ok (Some head)) w q g = about head g.base q (took_head q head) (step w (Request g q.descriptors.0 head))
takes (Ok None) w q g = unmoved None w q g.mem
takes (Err refusal) w q g = unmoved (Some (Refused (number refusal))) w q g.mem

abbrev pub serve_next : World → Queue → Guest → QueueOutcome
serve_next w q g = takes (next_of w q g) w q g

-- the same, as code finds it: the head that stands next is looked for first, and where there is one the device's own call gives its refusals (`by_taking`)
unfoldable pub standing : Result (Option ℕ) Refusal → Result ⊤ Refusal → Taking
standing (Ok (Some head)) admitted = Walk head
standing (Ok None) admitted = NoHead (none_told (next_unless admitted (Ok None)))
standing (Err refusal) admitted = NoHead (none_told (next_unless admitted (Err refusal)))

unfoldable pub taking_of : Device → Queue → (blocks rows : ℕ) → (mem : List ℕ) (base : ℕ) → Taking
taking_of d q blocks rows mem base =
    cond (not (queue_ok q.taken d.pending)) (NoHead (Some (Refused (number NoShape))))
    (standing (next_head mem base q) (ready_refusal d blocks rows))

unfoldable pub walks : Taking → World → Queue → Guest → QueueOutcome
walks (Walk head) w q g = about head g.base q (took_head q head) (step w (Request g q.descriptors.0 head))
walks (NoHead t) w q g = unmoved t w q g.mem

-- ---- the host's answer
-- the first refusal that is given, or none
abbrev pub first_given : Result ⊤ Refusal → Result ⊤ Refusal → Result ⊤ Refusal
first_given (Ok admitted) next = next
first_given (Err refusal) next = Err refusal

-- a head that is out can be reported where both rings lie inside (R13.5); with none out no ring is tested
unfoldable pub can_report : Option ℕ → (len base : ℕ) → Queue → Bool
can_report None len base q = true
can_report (Some head) len base q = rings_inside len base q

-- R13.10: while a head is out 12, 8, 11 and then 14; where none is out they are the device's own
unfoldable pub out_refusal : Option ℕ → Device → Queue → (blocks rows : ℕ) → Guest → Result ⊤ Refusal
out_refusal None d q blocks rows g = Ok tt
out_refusal (Some head) d q blocks rows g =
    first_given (pending_refusal d blocks rows) (cond (not (rings_inside (length g.mem) g.base q)) (Err RingOutside) (Ok tt))

-- before them the queue's part of 12
unfoldable pub answer_refusal : Device → Queue → (blocks rows : ℕ) → Guest → Result ⊤ Refusal
answer_refusal d q blocks rows g = cond (not (queue_ok q.taken d.pending)) (Err NoShape) (out_refusal q.taken d q blocks rows g)

-- the device's answer is about the head that is out, if one is
unfoldable pub answers : Option ℕ → Queue → (base : ℕ) → Outcome → QueueOutcome
answers None q base o = aside q o
answers (Some head) q base o = about head base q q o

-- the outcome, unless the call is refused
unfoldable pub unless_refused : Result ⊤ Refusal → World → Queue → List ℕ → QueueOutcome → QueueOutcome
unless_refused (Ok admitted) w q bytes o = o
unless_refused (Err refusal) w q bytes o = unmoved (Some (Refused (number refusal))) w q bytes

abbrev pub host_answers : World → Queue → Guest → (ok : Bool) (host : ℕ) → QueueOutcome
host_answers w q g ok host =
    unless_refused (answer_refusal w.device q (length w.blocks) (length w.rows) g) w q g.mem
    (answers q.taken q g.base (step w (HostAnswer g ok host)))

-- the same, as code finds it: where the head can be reported, the device's own call gives its refusals; where it cannot, a host call is pending (`by_refusal`)
unfoldable pub outside_refusal : Device → (blocks rows : ℕ) → Refusal
outside_refusal d blocks rows = cond (not (shaped_of d)) NoShape (cond (not (tables_fit d blocks rows)) TooShort RingOutside)

unfoldable pub queue_refusal : Device → Queue → (blocks rows len base : ℕ) → Result ⊤ Refusal
queue_refusal d q blocks rows len base =
    cond (not (queue_ok q.taken d.pending)) (Err NoShape)
    (cond (can_report q.taken len base q) (Ok tt) (Err (outside_refusal d blocks rows)))

-- ---- what code promises
-- the head went where the ending says
pub record Settles (e : Ending) (head base : ℕ) (before out : Queue) (mem : List ℕ) (q : Queue) (mem' : List ℕ) : Type 0 where
  pub queued : q ≡ queue_by e before out
  pub left : mem' ≡ bytes_by e out head base mem

abbrev pub turned : Device → Queue → Option Answer → Turn
turned d q t = record { device = d; queue = q; answer = t }

-- the words of what is told: kind 7 where no head is there, and else the answer's (see crates/step/specs/Answers.antt)
abbrev pub queue_answer_words : Option Answer → List ℕ
queue_answer_words None = 7 ∷ 0 ∷ 0 ∷ 0 ∷ 0 ∷ 0 ∷ 0 ∷ 0 ∷ 0 ∷ []
queue_answer_words (Some a) = answer_words a

-- the number of what is told: 0 unless the call is refused
abbrev pub queue_number_of : Option Answer → ℕ
queue_number_of t = get_or (queue_answer_words t) 1 0

-- what an outcome leaves
abbrev pub left_by_queue : QueueOutcome → Meant
left_by_queue o = record { blocks = o.world.blocks; rows = o.world.rows; bytes = o.bytes }

-- an outcome is given: what is told, with its words, its record, its queue, and what was lent as it leaves it
pub record GivesTurn (o : QueueOutcome) (before after : Lent) (s : Turn) : Type 0 where
  pub answered : s.answer ≡ o.answer
  pub told : queue_answer_words s.answer ≡ queue_answer_words o.answer
  pub recorded : s.device ≡ o.world.device
  pub queued : s.queue ≡ o.queue
  pub leaves : Leaves (left_by_queue o) before after

-- the call on the queue, on what was lent, gives what is said here
abbrev pub TakesTurn : (World → Queue → Guest → QueueOutcome) → Device → Queue → (base : GuestAddr) → (before after : Lent) → Turn → Type 0
TakesTurn call d q base before after s = GivesTurn (call (on d before) q (guest_in before base.0)) before after s
