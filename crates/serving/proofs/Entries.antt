-- SPDX-License-Identifier: Apache-2.0 AND BSD-3-Clause
-- What the calls come to: the refusals before them, a request by its chain, and the host's answer to a discard.
use Rattle.change.specs.Why.{why}
use Rattle.std.specs.Prelude.{Ok, Err, Result, ⊤}
use Prim.Native.Nat.{ℕ, ◌+◌, ◌-◌, ◌*◌}
use mathlib.Core.Path.{◌≡◌, refl, ap, ◌∙◌}
use mathlib.Core.Bool.{Bool, true, false}
use mathlib.Core.List.{List}
use lib.ListN.{length}
use Rattle.units.specs.Numbers.{bytes_of}
use Rattle.bitmap.specs.Blocks.{blocks, Filled}
use Rattle.bitmap.proofs.Laws.{blocks-length}
use Rattle.units.specs.declared.GuestAddr.{GuestAddr}
use Rattle.rows.specs.Rows.{rows_of, rows_in}
use Rattle.rows.proofs.Words.{count}
use Rattle.chain.specs.declared.Asked.{Asked}
use Rattle.chain.specs.declared.NoRequest.{NoRequest}
use Rattle.chain.specs.Chain.{parsed}
use Rattle.change.specs.declared.Reason.TheVariants.{FailedDiscard}
use Rattle.refusal.specs.declared.Refusal.{Refusal}
use Rattle.refusal.specs.declared.Refusal.TheVariants.{NothingPending}
use Rattle.record.specs.declared.Device.{Device}
use Rattle.record.specs.declared.Pending.{Pending}
use Rattle.record.specs.declared.Pending.TheVariants.{Nothing, Discard, DiscardOne}
use Rattle.record.specs.Shape.{shaped_of}
use Rattle.record.specs.Changes.{plugged_to, pending_to}
use Rattle.record.proofs.Laws.{block_less_keeps}
use Rattle.step.specs.declared.Answered.{Answered}
use Rattle.step.specs.World.{World, Guest, Request, HostAnswer, world_of}
use Rattle.step.specs.Promise.{lent, Gives}
use Rattle.step.specs.Step.{unserved, host_answer, serve, request, step, unless, ready_refusal, pending_refusal, ack, error, refused as refused_with, unplug_all}
use Rattle.step.proofs.Giving.{Responded, serves, relent}

module _ (d : Device) (bitmap table : List ℕ) (admitted : Result ⊤ Refusal) where
  module _ (admitted_is : admitted ≡ ready_refusal d (8 * length bitmap) (rows_in (length table))) where
    same_ready : ready_refusal d (length (blocks bitmap)) (length (rows_of table)) ≡ admitted
    same_ready = rw (blocks-length bitmap, count table, ← admitted_is)

    module _ (g : Guest) (at head : ℕ) where
      pub request_refused : (refusal : Refusal) → admitted ≡ Err refusal → step (world_of d bitmap table) (Request g at head) ≡ refused_with refusal (world_of d bitmap table) g.mem
      unfolding step unless
      request_refused refusal h = rw (same_ready, h)

      module _ (h : admitted ≡ Ok tt) (p : Result Asked NoRequest) (e : p ≡ parsed g.mem g.base at head) where
        request_ready : step (world_of d bitmap table) (Request g at head) ≡ request p (world_of d bitmap table) g
        unfolding step unless
        request_ready = rw (same_ready, h, ← e)

        pub request_bad : (reason : NoRequest) → p ≡ Err reason → step (world_of d bitmap table) (Request g at head) ≡ unserved reason (world_of d bitmap table) g
        unfolding request
        request_bad reason r = request_ready ∙ rw r

        pub request_got : (asks : Asked) → p ≡ Ok asks → step (world_of d bitmap table) (Request g at head) ≡ serve (world_of d bitmap table) asks.request asks.status.0 g
        unfolding request
        request_got asks q = request_ready ∙ rw q

  module _ (admitted_is : admitted ≡ pending_refusal d (8 * length bitmap) (rows_in (length table))) where
    same_pending : pending_refusal d (length (blocks bitmap)) (length (rows_of table)) ≡ admitted
    same_pending = rw (blocks-length bitmap, count table, ← admitted_is)

    module _ (g : Guest) (ok : Bool) (host : ℕ) where
      pub answer_refused : (refusal : Refusal) → admitted ≡ Err refusal → step (world_of d bitmap table) (HostAnswer g ok host) ≡ refused_with refusal (world_of d bitmap table) g.mem
      unfolding step unless
      answer_refused refusal h = rw (same_pending, h)

      pub answer_ready : admitted ≡ Ok tt → step (world_of d bitmap table) (HostAnswer g ok host) ≡ host_answer d.pending (world_of d bitmap table) g ok host
      unfolding step unless
      answer_ready h = rw (same_pending, h)

-- ---- the host's answer, by its pending case
module _ (w : World) (g : Guest) (ok : Bool) where
  -- the case that is pending
  pub case_is : (p q : Pending) → p ≡ q → (host : ℕ) → host_answer p w g ok host ≡ host_answer q w g ok host
  case_is p q e host = ap (λ (p : Pending). host_answer p w g ok host) e

  -- a discard's answer is the same whatever host address it brings
  pub any_host : (first count : ℕ) (status : GuestAddr) (host : ℕ) → host_answer (Discard first count status) w g ok host ≡ host_answer (Discard first count status) w g ok 0
  unfolding host_answer
  any_host first count status host = refl

  pub any_host_one : (block : ℕ) (status : GuestAddr) (host : ℕ) → host_answer (DiscardOne block status) w g ok host ≡ host_answer (DiscardOne block status) w g ok 0
  unfolding host_answer
  any_host_one block status host = refl

  -- with nothing pending, which the refusals leave out
  pub none_pending : (host : ℕ) → host_answer Nothing w g ok host ≡ refused_with NothingPending w g.mem
  unfolding host_answer
  none_pending host = refl

-- one block less, and nothing pending
pub less_shaped : (d d' d'' : Device) (n : ℕ) → shaped_of d ≡ true → n ≡ d.config.plugged_size - d.config.block_size → d' ≡ plugged_to n d → d'' ≡ pending_to Nothing d' → shaped_of d'' ≡ true
less_shaped d d' d'' n shape less same same' = rw (same', same, less) (block_less_keeps d shape)

module _ (d : Device) (bitmap table : List ℕ) (shape : shaped_of d ≡ true) (g : Guest) (s : Answered) {bytes : List ℕ} (ok : Bool) (status : GuestAddr) where
  pub unplug_fails : (first count : ℕ) → ok ≡ false → Responded g status.0 (error (why FailedDiscard)) (pending_to Nothing d) s bytes → Gives (host_answer (Discard first count status) (world_of d bitmap table) g ok 0) (lent bitmap table g.mem) (lent bitmap table bytes) s
  unfolding host_answer
  unplug_fails first count t p = rw t (serves g status.0 _ bitmap p refl refl)

  pub unplug_done : (first count : ℕ) → ok ≡ true → (bitmap' : List ℕ) → Filled bitmap bitmap' first count false → (d' d'' : Device) → d' ≡ plugged_to (d.config.plugged_size - bytes_of d.config.block_size count) d → d'' ≡ pending_to Nothing d' → Responded g status.0 ack d'' s bytes → Gives (host_answer (Discard first count status) (world_of d bitmap table) g ok 0) (lent bitmap table g.mem) (lent bitmap' table bytes) s
  unfolding host_answer
  unplug_done first count t bitmap' filled d' d'' same same' p =
      rw t (serves g status.0 _ bitmap' (rw (same', same) at p) filled.as_blocks refl)

  pub one_fails : (block : ℕ) → ok ≡ false → Responded g status.0 (error (why FailedDiscard)) (pending_to Nothing d) s bytes → Gives (host_answer (DiscardOne block status) (world_of d bitmap table) g ok 0) (lent bitmap table g.mem) (lent bitmap table bytes) s
  unfolding host_answer
  one_fails block t p = rw t (serves g status.0 _ bitmap p refl refl)

  pub one_done : (block : ℕ) → ok ≡ true → (bitmap' : List ℕ) → Filled bitmap bitmap' block 1 false → (n : ℕ) → n ≡ d.config.plugged_size - d.config.block_size → (d' d'' : Device) → d' ≡ plugged_to n d → d'' ≡ pending_to Nothing d' → Gives (unplug_all (world_of d'' bitmap' table) (block + 1) status.0 g) (lent bitmap' table g.mem) (lent bitmap' table bytes) s → Gives (host_answer (DiscardOne block status) (world_of d bitmap table) g ok 0) (lent bitmap table g.mem) (lent bitmap' table bytes) s
  unfolding host_answer
  one_done block t bitmap' filled n less d' d'' same same' m = rw t (relent refl (rw (same', same, less, filled.as_blocks) at m))
