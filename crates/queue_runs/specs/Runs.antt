-- SPDX-License-Identifier: Apache-2.0 AND BSD-3-Clause
-- A run on the queue: every call, with all that it brings; the calls of the device that it makes; the heads taken and the heads reported, oldest first.
use Rattle.step.specs.declared.Answer.{Answer}
use Prim.{Unit}
use Rattle.std.specs.Prelude.{ℕ, ◌<◌, ◌≡◌, Bool, true, List, [], ◌∷◌, ◌++◌, length, get_or, Option, Some, None, Ok, Err, Result, ⊤}
use Rattle.refusal.specs.declared.Refusal.{Refusal}
use Rattle.rows.specs.declared.MapRow.{MapRow}
use Rattle.rings.specs.declared.Queue.{Queue}
use Rattle.rings.specs.Rings.{next_head}
use Rattle.record.specs.Shape.{is_idle}
use Rattle.step.specs.World.{World, Guest, no_guest, Call, Place, SetRequestedSize, Request, HostAnswer, ReadConfig, WriteConfig}
use Rattle.step.specs.Step.{step}
use Rattle.queue.specs.declared.Ending.{Ending}
use Rattle.queue.specs.declared.Ending.TheVariants.{Stays, Out, Used}
use Rattle.queue.specs.Queue.{QueueOutcome, ending_of, aside, next_of, serve_next, answer_refusal, host_answers}
use Rattle.history.specs.History.{Event, Story, after}
use Rattle.history.specs.Reached.{CanRestore, after_restore, restored, Reached}

-- ---- the calls
-- a call of the device that goes past the queue: no request, and no answer of the host
pub data Beside : Type 0 where
  Placing : (start size : ℕ) (slots : List ℕ) (blocks : List Bool) (rows : List MapRow) → Beside
  Sizing : (mib : ℕ) → Beside
  Reading : (offset : ℕ) (buffer : List ℕ) → Beside
  Writing : (offset : ℕ) (buffer : List ℕ) → Beside

unfoldable pub beside_call : Beside → Call
beside_call (Placing at size slots blocks rows) = Place at size slots blocks rows
beside_call (Sizing mib) = SetRequestedSize mib
beside_call (Reading offset buffer) = ReadConfig offset buffer
beside_call (Writing offset buffer) = WriteConfig offset buffer

-- the guest's bytes come with each call: it may have written anything in between
pub data QueueCall : Type 0 where
  TakeNext : (guest : Guest) → QueueCall
  Host : (guest : Guest) (ok : Bool) (host : ℕ) → QueueCall
  PastIt : (beside : Beside) → QueueCall

unfoldable pub queue_step : World → Queue → QueueCall → QueueOutcome
queue_step w q (TakeNext g) = serve_next w q g
queue_step w q (Host g ok host) = host_answers w q g ok host
queue_step w q (PastIt b) = aside q (step w (beside_call b))

-- the guest memory that a call is lent
unfoldable pub lent_to : QueueCall → Guest
lent_to (TakeNext g) = g
lent_to (Host g ok host) = g
lent_to (PastIt b) = no_guest

-- ---- the calls of the device that a call makes: none where the queue refuses or is empty, and else one
unfoldable pub requests_of : Result (Option ℕ) Refusal → Queue → Guest → List Call
requests_of (Ok (Some head)) q g = Request g q.descriptors.0 head ∷ []
requests_of (Ok None) q g = []
requests_of (Err refusal) q g = []

-- the call, where nothing refuses it
unfoldable pub calls_if : Result ⊤ Refusal → Call → List Call
calls_if (Ok admitted) call = call ∷ []
calls_if (Err refusal) call = []

unfoldable pub device_calls : World → Queue → QueueCall → List Call
device_calls w q (TakeNext g) = requests_of (next_of w q g) q g
device_calls w q (Host g ok host) =
    calls_if (answer_refusal w.device q (length w.blocks) (length w.rows) g) (HostAnswer g ok host)
device_calls w q (PastIt b) = beside_call b ∷ []

-- ---- the heads that a call takes and reports, by what it tells
unfoldable pub ending_told : Option Answer → Ending
ending_told None = Stays
ending_told (Some a) = ending_of a

-- of these heads: those that are taken, and those that are reported used
unfoldable pub taken_by : Ending → List ℕ → List ℕ
taken_by Stays hs = []
taken_by Out hs = hs
taken_by (Used len) hs = hs

unfoldable pub used_by : Ending → List ℕ → List ℕ
used_by Stays hs = []
used_by Out hs = []
used_by (Used len) hs = hs

-- the head that stands next in the available ring, and the head that is out
unfoldable pub head_of : Result (Option ℕ) Refusal → List ℕ
head_of (Ok (Some h)) = h ∷ []
head_of (Ok None) = []
head_of (Err refusal) = []

unfoldable pub out_of : Option ℕ → List ℕ
out_of None = []
out_of (Some h) = h ∷ []

unfoldable pub newly_taken : Queue → QueueCall → Option Answer → List ℕ
newly_taken q (TakeNext g) t = taken_by (ending_told t) (head_of (next_head g.mem g.base q))
newly_taken q (Host g ok host) t = []
newly_taken q (PastIt b) t = []

unfoldable pub newly_reported : Queue → QueueCall → Option Answer → List ℕ
newly_reported q (TakeNext g) t = used_by (ending_told t) (head_of (next_head g.mem g.base q))
newly_reported q (Host g ok host) t = used_by (ending_told t) (out_of q.taken)
newly_reported q (PastIt b) t = []

-- ---- a run: where the device and its queue stand, the device's own run by the calls that were made of it, and the heads so far
pub record QueueStory : Type 0 where
  pub world : World
  pub queue : Queue
  pub story : Story
  pub taken : List ℕ
  pub reports : List ℕ

-- each call works on the record, the tables and the queue that the call before gave back
unfoldable pub next_story : QueueStory → QueueCall → QueueStory
next_story s c =
    let o = queue_step s.world s.queue c in
    record {
      world = o.world;
      queue = o.queue;
      story = after s.story (device_calls s.world s.queue c);
      taken = s.taken ++ newly_taken s.queue c o.answer;
      reports = s.reports ++ newly_reported s.queue c o.answer;
    }

-- the calls, oldest first
unfoldable pub after_all : QueueStory → List QueueCall → QueueStory
after_all s [] = s
after_all s (c ∷ cs) = after_all (next_story s c) cs

-- ---- how it begins
-- R13.1: a queue as it is made: no head is out, and both indices are 0 (Q3)
pub record New (q : Queue) : Type 0 where
  pub none_out : q.taken ≡ None
  pub available_first : q.next_available ≡ 0
  pub used_first : q.next_used ≡ 0

abbrev pub opened : Story → Queue → QueueStory
opened s q = record { world = s.world; queue = q; story = s; taken = []; reports = [] }

-- a restore of the device leaves the queue as it is
abbrev pub restored_on : QueueStory → (requested : ℕ) → (plugs : List Event) → QueueStory
restored_on s requested plugs =
    record {
      world = after_restore s.world requested plugs;
      queue = s.queue;
      story = restored s.world requested plugs;
      taken = s.taken;
      reports = s.reports;
    }

-- ---- every point of every run: a new queue on a device that waits for nothing, newly made or after any run of its own; any calls; and a restore wherever it is allowed
pub data QueueReached : QueueStory → Type 0 where
  on_new_queue : {s : Story} {q : Queue} → Reached s → is_idle s.world.device.pending ≡ true → New q → QueueReached (opened s q)
  on_call : {s : QueueStory} → QueueReached s → (c : QueueCall) → QueueReached (next_story s c)
  on_restore : {s : QueueStory} {requested : ℕ} {plugs : List Event} → QueueReached s → CanRestore s.world requested plugs → QueueReached (restored_on s requested plugs)

-- ---- what is said of runs
-- of every point that a run reaches, and of any call there
abbrev pub InEveryQueueRun : (QueueStory → QueueCall → Type 0) → Type 0
InEveryQueueRun P = (s : QueueStory) → QueueReached s → (c : QueueCall) → P s c

-- of any call from any world and any queue, whatever led to them
abbrev pub FromEveryQueue : (World → Queue → QueueCall → QueueOutcome → Type 0) → Type 0
FromEveryQueue P = (w : World) (q : Queue) (c : QueueCall) → P w q c (queue_step w q c)

-- guest memory is bytes, as its type says
abbrev pub LendsBytes : QueueCall → Type 0
LendsBytes c = (i : ℕ) → get_or (lent_to c).mem i 0 < 256

unfoldable pub AllLendBytes : {s : QueueStory} → QueueReached s → Type 0
AllLendBytes (on_new_queue r idle new) = Unit {0}
AllLendBytes (on_call r c) = AllLendBytes r × LendsBytes c
AllLendBytes (on_restore r l) = AllLendBytes r
