-- SPDX-License-Identifier: Apache-2.0 AND BSD-3-Clause
-- A head is out exactly while its request has not ended: each call keeps it so.
use Rattle.refusal.specs.Refusal.{number}
use Rattle.std.specs.Prelude.{Option, Some, None, Ok, Err, Result}
use Prim.Native.Nat.{ℕ}
use mathlib.Core.Path.{◌≡◌, refl, sym, ◌∙◌}
use mathlib.Core.Bool.{Bool, true, false, cond}
use mathlib.Core.List.{List, []}
use Rattle.refusal.specs.declared.Refusal.{Refusal}
use Rattle.record.specs.declared.Pending.{Pending}
use Rattle.record.specs.declared.Pending.TheVariants.{Nothing as Idle, Create, Discard, DiscardOne}
use Rattle.record.specs.Shape.{is_idle}
use Rattle.rings.specs.declared.Queue.{Queue}
use Rattle.rings.specs.Rings.{next_head}
use Rattle.step.specs.declared.Answer.{Answer}
use Rattle.step.specs.declared.Answer.TheVariants.{Refused}
use Rattle.step.specs.World.{World, Guest, Call, Place, SetRequestedSize, Request, HostAnswer, ReadConfig, WriteConfig, Outcome}
use Rattle.step.specs.Step.{step}
use Rattle.queue.specs.declared.Ending.{Ending}
use Rattle.queue.specs.declared.Ending.TheVariants.{Stays, Out, Used}
use Rattle.queue.specs.Queue.{QueueOutcome, took_head, discarding, ending_of, queue_by, takes, answers}
use Rattle.history.proofs.Shaped.{clash}
use Rattle.queue_runs.specs.Runs.{Beside, Placing, Sizing, Reading, Writing, beside_call, QueueCall, TakeNext, Host, PastIt, queue_step, next_story, on_new_queue, on_call, on_restore, InEveryQueueRun}
use Rattle.queue_runs.proofs.Cases.{next_cases, answer_cases}
use Rattle.history.specs.History.{Event}
use Rattle.history.proofs.Calls.{Endings, each_call}
use Rattle.queue_runs.specs.Heads.{is_out, OutWhileOpen}

-- what `OutWhileOpen` says of where the device and the queue stand
abbrev OutThen : World → Queue → Type 0
OutThen w q = is_out q.taken ≡ discarding w.device.pending

-- ---- whether a discard is pending after a call of the device: by whether one was before, and the answer
unfoldable out_by : Ending → (before : Bool) → Bool
out_by Stays before = before
out_by Out before = true
out_by (Used len) before = false

unfoldable opens_by : Call → (before : Bool) → Answer → Bool
opens_by (Place at size slots blocks rows) before a = before
opens_by (SetRequestedSize mib) before a = before
opens_by (Request g table head) before a = out_by (ending_of a) before
opens_by (HostAnswer g ok host) before a = cond before (out_by (ending_of a) before) false
opens_by (ReadConfig offset buffer) before a = before
opens_by (WriteConfig offset buffer) before a = before

refused_keeps : (c : Call) (before : Bool) (n : ℕ) → before ≡ opens_by c before (Refused n)
unfolding opens_by out_by
refused_keeps (Place at size slots blocks rows) before n = refl
refused_keeps (SetRequestedSize mib) before n = refl
refused_keeps (Request g table head) before n = refl
refused_keeps (HostAnswer g ok host) true n = refl
refused_keeps (HostAnswer g ok host) false n = refl
refused_keeps (ReadConfig offset buffer) before n = refl
refused_keeps (WriteConfig offset buffer) before n = refl

quiet : (p : Pending) → is_idle p ≡ true → discarding p ≡ false
quiet Idle e = refl
quiet (Create first last) e = refl
quiet (Discard first count status) e = clash e refl
quiet (DiscardOne block status) e = clash e refl

module _ (w : World) where
  abbrev Opens : Call → Outcome → List Event → Type 0
  Opens c o es = discarding o.world.device.pending ≡ opens_by c (discarding w.device.pending) o.answer

  opens : Endings w Opens
  unfolding opens_by out_by
  opens =
      let p = w.device.pending in
      record {
        refuses = λ c r _ _. refused_keeps c (discarding p) (number r);
        reads = λ offset buffer bytes. refl;
        writes = λ offset buffer. refl;
        unserves = λ a reason. quiet p a.entry.pending_is_idle;
        responds = λ a resp. quiet p a.entry.pending_is_idle;
        plugs_range = λ a addr count first offset _ _. quiet p a.entry.pending_is_idle;
        asks_range = λ a addr count first offset host _ _ _. refl;
        spoils = λ a addr count first offset _ _. refl;
        ends_at_once = λ a _. refl;
        asks_first = λ a block offset host _ _. refl;
        stops_at_once = λ a. refl;
        maps = λ i last a. rw a.waits;
        create_fails_lem = λ i last a. rw a.waits;
        unplugs_range = λ first count status a. rw a.waits;
        discard_fails = λ first count status a. rw a.waits;
        ends_all_lem = λ j status a _. rw a.waits;
        asks_next = λ j status a block offset host _ _. rw a.waits;
        stops_after = λ j status a. rw a.waits;
        one_fails = λ j status a. rw a.waits;
        resizes = λ a. refl;
        resize_asks = λ a i last size _. sym (quiet p a.entry.pending_is_idle);
        places = λ a. refl;
        place_asks = λ a i last size _. sym (quiet p a.entry.pending_is_idle);
        place_asks_whole = λ a _. sym (quiet p a.entry.pending_is_idle);
      }

  device_opens : (c : Call) → Opens c (step w c) []
  device_opens c = each_call w Opens opens c

  -- ---- each call on the queue
  module _ (q : Queue) where
    -- the head that is out then, by its ending
    taken_out : (head : ℕ) (e : Ending) → is_out (queue_by e q (took_head q head)).taken ≡ out_by e (is_out q.taken)
    unfolding queue_by out_by is_out
    taken_out head Stays = refl
    taken_out head Out = refl
    taken_out head (Used len) = refl

    still_out : (head : ℕ) → q.taken ≡ Some head → (e : Ending) → is_out (queue_by e q q).taken ≡ out_by e true
    unfolding queue_by out_by is_out
    still_out head out Stays = rw out
    still_out head out Out = rw out
    still_out head out (Used len) = refl

    module _ (h : OutThen w q) where
      head_kept : (g : Guest) (x : Result (Option ℕ) Refusal) → OutThen (takes x w q g).world (takes x w q g).queue
      unfolding takes opens_by
      head_kept g (Ok None) = h
      head_kept g (Err refusal) = h
      head_kept g (Ok (Some head)) =
          let c = Request g q.descriptors.0 head in
          rw (taken_out head (ending_of (step w c).answer), h) (sym (device_opens c))

      heard_kept : (g : Guest) (ok : Bool) (host : ℕ) (t : Option ℕ) → q.taken ≡ t → let o = answers t q g.base (step w (HostAnswer g ok host)) in OutThen o.world o.queue
      unfolding answers opens_by is_out
      heard_kept g ok host None e =
          let z : discarding w.device.pending ≡ false = rw e at (sym h) in
          rw e (sym (rw z at (device_opens (HostAnswer g ok host))))
      heard_kept g ok host (Some head) e =
          let c = HostAnswer g ok host in
          let z : discarding w.device.pending ≡ true = rw e at (sym h) in
          rw (still_out head e (ending_of (step w c).answer)) (sym (rw z at (device_opens c)))

      beside_kept : (b : Beside) → discarding (step w (beside_call b)).world.device.pending ≡ discarding w.device.pending
      unfolding beside_call opens_by
      beside_kept (Placing at size slots bs rows) = device_opens (Place at size slots bs rows)
      beside_kept (Sizing mib) = device_opens (SetRequestedSize mib)
      beside_kept (Reading offset buffer) = device_opens (ReadConfig offset buffer)
      beside_kept (Writing offset buffer) = device_opens (WriteConfig offset buffer)

      kept : (c : QueueCall) → OutThen (queue_step w q c).world (queue_step w q c).queue
      unfolding queue_step
      kept (TakeNext g) = next_cases w q g (λ x. OutThen (takes x w q g).world (takes x w q g).queue) (λ r. head_kept g (Err r)) (λ _. head_kept g (next_head g.mem g.base q))
      kept (Host g ok host) =
          answer_cases w q g ok host (λ _ (o : QueueOutcome). OutThen o.world o.queue) (λ _. heard_kept g ok host q.taken refl) (λ r _. h)
      kept (PastIt b) = h ∙ sym (beside_kept b)

-- ---- in every run
pub out_while_open : InEveryQueueRun OutWhileOpen
unfolding is_out next_story
out_while_open s (on_new_queue {s = device} r idle new) c = rw new.none_out (sym (quiet device.world.device.pending idle))
out_while_open s (on_call {s = before} r last) c = kept before.world before.queue (out_while_open before r last) last
out_while_open s (on_restore r l) c = out_while_open _ r c
