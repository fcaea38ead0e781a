-- SPDX-License-Identifier: Apache-2.0 AND BSD-3-Clause
-- The ways of a queue's call, case by case, for every law over its runs.
use Rattle.refusal.specs.Refusal.{number}
use Rattle.std.specs.Prelude.{Option, Some, None, Ok, Err, Result, ⊤}
use Prim.Native.Nat.{ℕ}
use mathlib.Core.Path.{◌≡◌, refl}
use mathlib.Core.Bool.{Bool, true}
use mathlib.Core.List.{List, [], ◌∷◌}
use native.Mathlib.Omega.{arith}
use lib.ListN.{length}
use Rattle.units.proofs.Tests.{by_test}
use Rattle.refusal.specs.declared.Refusal.{Refusal}
use Rattle.record.specs.declared.Device.{Device}
use Rattle.record.specs.declared.Pending.{Pending}
use Rattle.record.specs.declared.Pending.TheVariants.{Nothing as Idle, Create, Discard, DiscardOne}
use Rattle.record.specs.Shape.{is_idle}
use Rattle.rings.specs.declared.Queue.{Queue}
use Rattle.rings.specs.Rings.{next_head}
use Rattle.step.specs.declared.Answer.TheVariants.{Refused}
use Rattle.step.specs.World.{World, Guest, Call, HostAnswer}
use Rattle.step.specs.Step.{step, ready_refusal}
use Rattle.step.proofs.Entry.{ready_is}
use Rattle.queue.specs.Queue.{QueueOutcome, queue_ok, unmoved, taking_refusal, next_unless, next_of, answer_refusal, answers, unless_refused, host_answers}
use Rattle.history.proofs.Shaped.{clash}
use Rattle.queue_runs.specs.Runs.{Host, calls_if, device_calls}

-- where 0 would be 1, anything follows
pub impossible : {A : Type 0} → ◌≡◌ {A = ℕ} 0 1 → A
impossible e = absurd (omega arith)

-- a test refuses, or it does not
pub by_admitted : {A : Type 0} (x : Result ⊤ Refusal) → (x ≡ Ok tt → A) → ((r : Refusal) → x ≡ Err r → A) → A
by_admitted (Ok admitted) f g = f refl
by_admitted (Err refusal) f g = g refusal refl

-- a device that is ready waits for nothing, so no head is out
idle_none : (t : Option ℕ) (p : Pending) → queue_ok t p ≡ true → is_idle p ≡ true → t ≡ None
idle_none None p k e = refl
idle_none (Some h) Idle k e = clash k refl
idle_none (Some h) (Create first last) k e = clash k refl
idle_none (Some h) (Discard first count status) k e = clash e refl
idle_none (Some h) (DiscardOne block status) k e = clash e refl

-- ---- what stands before the ring
pub record Ready (d : Device) (t : Option ℕ) : Type 0 where
  pub none_out : t ≡ None
  pub pending_is_idle : is_idle d.pending ≡ true

ready_idle : (d : Device) (n m : ℕ) → ready_refusal d n m ≡ Ok tt → is_idle d.pending ≡ true
ready_idle d n m e = (ready_is d n m e).idle

ready : (d : Device) (t : Option ℕ) (n m : ℕ) → taking_refusal d t n m ≡ Ok tt → Ready d t
unfolding taking_refusal
ready d t n m e =
    by_test (queue_ok t d.pending)
    (λ k. let i = ready_idle d n m (rw k at e) in record { none_out = idle_none t d.pending k i; pending_is_idle = i })
    (λ k. let f = rw k at e in impossible cc)

-- a call that takes no head, and one that takes the head that stands next
module _ (w : World) (q : Queue) (g : Guest) (P : Result (Option ℕ) Refusal → Type 0) where
  pub next_cases : ((r : Refusal) → P (Err r)) → (Ready w.device q.taken → P (next_head g.mem g.base q)) → P (next_of w q g)
  unfolding next_unless
  next_cases none some =
      by_admitted (taking_refusal w.device q.taken (length w.blocks) (length w.rows))
      (λ e. rw e (some (ready w.device q.taken (length w.blocks) (length w.rows) e)))
      (λ r e. rw e (none r))

-- a host's answer: the calls of the device that it makes, and what it leaves, where the queue hears it and where it is refused
module _ (w : World) (q : Queue) (g : Guest) (ok : Bool) (host : ℕ) (P : List Call → QueueOutcome → Type 0) where
  pub answer_cases :
      (answer_refusal w.device q (length w.blocks) (length w.rows) g ≡ Ok tt → P (HostAnswer g ok host ∷ []) (answers q.taken q g.base (step w (HostAnswer g ok host))))
      → ((r : Refusal) → answer_refusal w.device q (length w.blocks) (length w.rows) g ≡ Err r → P [] (unmoved (Some (Refused (number r))) w q g.mem))
      → P (device_calls w q (Host g ok host)) (host_answers w q g ok host)
  unfolding device_calls calls_if unless_refused
  answer_cases heard refuses =
      by_admitted (answer_refusal w.device q (length w.blocks) (length w.rows) g)
      (λ e. rw e (heard e))
      (λ r e. rw e (refuses r e))
