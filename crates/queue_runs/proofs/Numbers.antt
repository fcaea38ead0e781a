-- SPDX-License-Identifier: Apache-2.0 AND BSD-3-Clause
-- In a run 12 never appears, and 7 does while a host call is pending.
use Rattle.refusal.proofs.Numbered.{numbers_tell}
use Rattle.refusal.specs.Refusal.{number}
use Rattle.std.specs.Prelude.{Option, Some, None, Ok, Err, Result}
use Prim.Native.Nat.{ℕ, ◌-◌}
use mathlib.Core.Path.{◌≡◌, refl, ap, sym}
use mathlib.Core.Bool.{Bool, true, false}
use mathlib.Core.List.{List}
use lib.Dec.{ltb, eqb}
use lib.ListN.{length}
use Rattle.units.proofs.Tests.{by_test}
use Rattle.refusal.specs.declared.Refusal.{Refusal}
use Rattle.refusal.specs.declared.Refusal.TheVariants.{CallPending, NoShape}
use Rattle.record.specs.declared.Device.{Device}
use Rattle.record.specs.declared.Pending.{Pending}
use Rattle.record.specs.Shape.{shaped_of, is_idle}
use Rattle.rings.specs.declared.Queue.{Queue}
use Rattle.rings.specs.Standard.{available_index}
use Rattle.rings.specs.Rings.{ahead_of, rings_inside, next_head}
use Rattle.step.specs.declared.Answer.TheVariants.{Refused}
use Rattle.step.specs.World.{World, Guest, Call, Request, HostAnswer}
use Rattle.step.specs.Step.{step, ready_refusal, pending_refusal, tables_fit}
use Rattle.queue.specs.Queue.{QueueOutcome, discarding, queue_ok, taking_refusal, next_unless, next_of, takes, out_refusal, answer_refusal, answers}
use Rattle.history.specs.Rules.{Never12 as DeviceNever12}
use Rattle.history.proofs.Good.{reached_good}
use Rattle.history.proofs.Sizes.{never_12 as device-never-12}
use Rattle.queue_runs.specs.Runs.{beside_call, QueueCall, TakeNext, Host, PastIt, queue_step, QueueStory, QueueReached, InEveryQueueRun}
use Rattle.queue_runs.specs.Heads.{is_out, NoneWhilePending, Never12}
use Rattle.queue_runs.proofs.Cases.{impossible, by_admitted, answer_cases}
use Rattle.queue_runs.proofs.Calls.{runs_the_device, lifts_rules}
use Rattle.queue_runs.proofs.Open.{out_while_open}

-- in a run the record has its shape
shaped_in_run : (s : QueueStory) → QueueReached s → shaped_of s.world.device ≡ true
shaped_in_run s r = let h = runs_the_device s r in rw h.same_world at (reached_good s.story h.reached).shaped

-- and a head is out only while a discard is pending
ok_when : (t : Option ℕ) (p : Pending) → is_out t ≡ discarding p → queue_ok t p ≡ true
unfolding is_out
ok_when None p e = refl
ok_when (Some h) p e = sym e

ready_not_12 : (d : Device) (n m : ℕ) → shaped_of d ≡ true → ready_refusal d n m ≡ Err NoShape → ⊥
unfolding ready_refusal tables_fit
ready_not_12 d n m s e =
    by_test (is_idle d.pending)
    (λ t. by_test d.placed
    (λ u. by_test (tables_fit d n m) (λ v. let f = rw (s, t, u, v) at e in impossible cc) (λ v. let f = rw (s, t, u, v) at e in impossible cc))
    (λ u. let f = rw (s, t, u) at e in impossible cc))
    (λ t. let f = rw (s, t) at e in impossible cc)

pending_not_12 : (d : Device) (n m : ℕ) → shaped_of d ≡ true → pending_refusal d n m ≡ Err NoShape → ⊥
unfolding pending_refusal tables_fit
pending_not_12 d n m s e =
    by_test (is_idle d.pending)
    (λ t. let f = rw (s, t) at e in impossible cc)
    (λ t. by_test (tables_fit d n m) (λ v. let f = rw (s, t, v) at e in impossible cc) (λ v. let f = rw (s, t, v) at e in impossible cc))

-- the ring's own numbers are 14 and 15
ring_not_12 : (mem : List ℕ) (base : ℕ) (q : Queue) → next_head mem base q ≡ Err NoShape → ⊥
unfolding next_head
ring_not_12 mem base q e =
    let ahead = ahead_of (available_index mem (q.available.0 - base)) q.next_available in
    by_test (rings_inside (length mem) base q)
    (λ t. by_test (ltb 128 ahead)
    (λ s. let f = rw (t, s) at e in impossible cc)
    (λ s. by_test (eqb ahead 0)
    (λ r. let f = rw (t, s, r) at e in impossible cc)
    (λ r. let f = rw (t, s, r) at e in impossible cc)))
    (λ t. let f = rw t at e in impossible cc)

module _ (w : World) (q : Queue) (shaped : shaped_of w.device ≡ true) (fine : queue_ok q.taken w.device.pending ≡ true) (device : (call : Call) → (step w call).answer ≡ Refused 12 → ⊥) where
  taken_not_12 : (g : Guest) (x : Result (Option ℕ) Refusal) → (x ≡ Err NoShape → ⊥) → (takes x w q g).answer ≡ Some (Refused 12) → ⊥
  unfolding takes
  taken_not_12 g (Ok (Some h)) n e = device (Request g q.descriptors.0 h) cc
  taken_not_12 g (Ok None) n e = impossible cc
  taken_not_12 g (Err m) n e = let same : number m ≡ number NoShape = cc in n (rw (numbers_tell m NoShape same))

  next_not_12 : (g : Guest) → next_of w q g ≡ Err NoShape → ⊥
  unfolding next_unless taking_refusal
  next_not_12 g e =
      by_admitted (ready_refusal w.device (length w.blocks) (length w.rows))
      (λ t. ring_not_12 g.mem g.base q (rw (fine, t) at e))
      (λ r t. let f = rw (fine, t) at e in let same : r ≡ NoShape = cc in ready_not_12 w.device (length w.blocks) (length w.rows) shaped (rw same at t))

  heard_not_12 : (g : Guest) (ok : Bool) (host : ℕ) (t : Option ℕ) → (answers t q g.base (step w (HostAnswer g ok host))).answer ≡ Some (Refused 12) → ⊥
  unfolding answers
  heard_not_12 g ok host None e = device (HostAnswer g ok host) cc
  heard_not_12 g ok host (Some h) e = device (HostAnswer g ok host) cc

  out_not_12 : (t : Option ℕ) (g : Guest) → out_refusal t w.device q (length w.blocks) (length w.rows) g ≡ Err NoShape → ⊥
  unfolding out_refusal
  out_not_12 None g e = impossible cc
  out_not_12 (Some h) g e =
      by_admitted (pending_refusal w.device (length w.blocks) (length w.rows))
      (λ t. by_test (rings_inside (length g.mem) g.base q) (λ s. let f = rw (t, s) at e in impossible cc) (λ s. let f = rw (t, s) at e in impossible cc))
      (λ r t. let f = rw t at e in let same : r ≡ NoShape = cc in pending_not_12 w.device (length w.blocks) (length w.rows) shaped (rw same at t))

  not_12 : (c : QueueCall) → (queue_step w q c).answer ≡ Some (Refused 12) → ⊥
  unfolding queue_step answer_refusal
  not_12 (TakeNext g) = taken_not_12 g (next_of w q g) (next_not_12 g)
  not_12 (Host g ok host) =
      answer_cases w q g ok host (λ _ (o : QueueOutcome). o.answer ≡ Some (Refused 12) → ⊥)
      (λ _. heard_not_12 g ok host q.taken)
      (λ r t e. let same : number r ≡ number NoShape = cc in out_not_12 q.taken g (rw (fine, numbers_tell r NoShape same) at t))
  not_12 (PastIt b) = λ e. device (beside_call b) cc

  -- 7, where the host is asked
  seven : (g : Guest) → is_idle w.device.pending ≡ false → (queue_step w q (TakeNext g)).answer ≡ Some (Refused 7)
  unfolding queue_step takes next_unless taking_refusal ready_refusal
  seven g busy = let is : next_of w q g ≡ Err CallPending = rw (fine, shaped, busy) in rw (ap (λ (x : Result (Option ℕ) Refusal). (takes x w q g).answer) is)

-- ---- in every run
module _ (s : QueueStory) (r : QueueReached s) (c : QueueCall) where
  fine_in_run : queue_ok s.queue.taken s.world.device.pending ≡ true
  fine_in_run = ok_when _ _ (out_while_open s r c)

  device_in_run : (call : Call) → (step s.world call).answer ≡ Refused 12 → ⊥
  device_in_run call = rw (runs_the_device s r).same_world at (lifts_rules DeviceNever12 device-never-12 s r c call)

pub never_12 : InEveryQueueRun Never12
never_12 s r c = not_12 s.world s.queue (shaped_in_run s r) (fine_in_run s r c) (device_in_run s r c) c

pub none_while_pending : InEveryQueueRun NoneWhilePending
none_while_pending s r c = seven s.world s.queue (shaped_in_run s r) (fine_in_run s r c) (device_in_run s r c)
