-- SPDX-License-Identifier: Apache-2.0 AND BSD-3-Clause
-- Every taken head is reported once, in the order taken: each call keeps `InOrder`.
use Rattle.std.specs.Prelude.{Option, Some, None, Ok, Err, Result}
use Prim.Native.Nat.{ℕ, ◌+◌, ◌%◌}
use mathlib.Core.Path.{◌≡◌, refl, ap, ◌∙◌, sym}
use mathlib.Core.List.{List, [], ◌∷◌, ◌++◌, append_assoc, append-nil}
use native.Mathlib.Omega.{arith}
use lib.ListN.{length, length-append}
use Rattle.refusal.specs.declared.Refusal.{Refusal}
use Rattle.rings.specs.declared.Queue.{Queue}
use Rattle.rings.specs.Rings.{index_after, next_head}
use Rattle.step.specs.World.{World, Guest, Request, HostAnswer, Outcome}
use Rattle.step.specs.Step.{step}
use Rattle.queue.specs.declared.Ending.{Ending}
use Rattle.queue.specs.declared.Ending.TheVariants.{Stays, Out, Used}
use Rattle.queue.specs.Queue.{QueueOutcome, took_head, queue_by, ending_of, takes, answers}
use Rattle.queue_runs.specs.Runs.{QueueCall, TakeNext, Host, PastIt, queue_step, ending_told, taken_by, used_by, head_of, out_of, newly_taken, newly_reported, QueueStory, next_story, on_new_queue, on_call, on_restore, InEveryQueueRun}
use Rattle.queue_runs.specs.Heads.{InOrder}
use Rattle.queue_runs.proofs.Cases.{next_cases, answer_cases}

-- a call took and reported these: which head is out before and after it, and the two indices
pub record Moves (t : Option ℕ) (a u : ℕ) (took gave : List ℕ) (t' : Option ℕ) (a' u' : ℕ) : Type 0 where
  pub order : out_of t ++ took ≡ gave ++ out_of t'
  pub available : (n : ℕ) → a ≡ n % 65536 → a' ≡ (n + length took) % 65536
  pub used : (n : ℕ) → u ≡ n % 65536 → u' ≡ (n + length gave) % 65536

abbrev MovesTo : Queue → (took gave : List ℕ) → Queue → Type 0
MovesTo q took gave q' =
    Moves q.taken q.next_available q.next_used took gave q'.taken q'.next_available q'.next_used

same_index : (a n : ℕ) → a ≡ n % 65536 → a ≡ (n + 0) % 65536
same_index a n e = let z : n + 0 ≡ n = omega arith in rw z e

one_more : (a n : ℕ) → a ≡ n % 65536 → index_after a ≡ (n + 1) % 65536
one_more a n e = rw e (omega arith)

-- nothing taken, nothing reported
still : (t : Option ℕ) (a u : ℕ) → Moves t a u [] [] t a u
still t a u = record { order = append-nil (out_of t); available = same_index a; used = same_index u }

-- ---- what a head's ending moves
module _ (q : Queue) (head : ℕ) where
  -- one that is taken, where none is out
  taken_moves : q.taken ≡ None → (e : Ending) → MovesTo q (taken_by e (head ∷ [])) (used_by e (head ∷ [])) (queue_by e q (took_head q head))
  unfolding taken_by used_by queue_by out_of
  taken_moves none Stays = still _ _ _
  taken_moves none Out = record { order = rw none; available = one_more q.next_available; used = same_index q.next_used }
  taken_moves none (Used len) = record { order = rw none; available = one_more q.next_available; used = one_more q.next_used }

  -- one that was out
  out_moves : q.taken ≡ Some head → (e : Ending) → MovesTo q [] (used_by e (head ∷ [])) (queue_by e q q)
  unfolding used_by queue_by out_of
  out_moves out Stays = still _ _ _
  out_moves out Out = still _ _ _
  out_moves out (Used len) = record { order = rw out; available = same_index q.next_available; used = one_more q.next_used }

-- of no head none is taken and none reported
taken_none : (e : Ending) → taken_by e [] ≡ []
unfolding taken_by
taken_none Stays = refl
taken_none Out = refl
taken_none (Used len) = refl

used_none : (e : Ending) → used_by e [] ≡ []
unfolding used_by
used_none Stays = refl
used_none Out = refl
used_none (Used len) = refl

-- ---- each call
module _ (w : World) (q : Queue) where
  -- a head that stands next, by what the call tells of it
  abbrev Takes : Guest → (there x : Result (Option ℕ) Refusal) → Type 0
  Takes g there x =
      let e = ending_told (takes x w q g).answer in MovesTo q (taken_by e (head_of there)) (used_by e (head_of there)) (takes x w q g).queue

  head_moves : (g : Guest) → q.taken ≡ None → (x : Result (Option ℕ) Refusal) → Takes g x x
  unfolding takes ending_told taken_by used_by head_of
  head_moves g none (Ok None) = still _ _ _
  head_moves g none (Err refusal) = still _ _ _
  head_moves g none (Ok (Some h)) = taken_moves q h none (ending_of (step w (Request g q.descriptors.0 h)).answer)

  refused_moves : (g : Guest) (there : Result (Option ℕ) Refusal) (r : Refusal) → Takes g there (Err r)
  unfolding takes ending_told taken_by used_by
  refused_moves g there r = still _ _ _

  -- a host's answer that the device hears
  heard_moves : (t : Option ℕ) → q.taken ≡ t → (base : ℕ) (o : Outcome) → MovesTo q [] (used_by (ending_told (answers t q base o).answer) (out_of t)) (answers t q base o).queue
  unfolding answers ending_told out_of
  heard_moves None e base o = rw (used_none (ending_of o.answer)) (still _ _ _)
  heard_moves (Some h) e base o = out_moves q h e (ending_of o.answer)

  abbrev Moved : QueueCall → QueueOutcome → Type 0
  Moved c o = MovesTo q (newly_taken q c o.answer) (newly_reported q c o.answer) o.queue

  pub moves : (c : QueueCall) → Moved c (queue_step w q c)
  unfolding queue_step newly_taken newly_reported ending_told used_by
  moves (TakeNext g) =
      let there = next_head g.mem g.base q in
      next_cases w q g (Takes g there) (refused_moves g there) (λ r. head_moves g r.none_out there)
  moves (Host g ok host) =
      answer_cases w q g ok host (λ _. Moved (Host g ok host))
      (λ _. heard_moves q.taken refl g.base (step w (HostAnswer g ok host)))
      (λ r _. still _ _ _)
  moves (PastIt b) = still _ _ _

-- ---- in every run
kept : (s : QueueStory) (c next : QueueCall) → InOrder s c → InOrder (next_story s c) next
unfolding next_story
kept s c next h =
    let m = moves s.world s.queue c in
    let o = queue_step s.world s.queue c in
    let took = newly_taken s.queue c o.answer in
    let gave = newly_reported s.queue c o.answer in
    record {
      in_order =
          append_assoc s.reports gave (out_of o.queue.taken)
          ∙ ap (λ (l : List ℕ). s.reports ++ l) (sym m.order)
          ∙ sym (append_assoc s.reports (out_of s.queue.taken) took)
          ∙ ap (λ (l : List ℕ). l ++ took) h.in_order;
      index_available = rw (length-append s.taken took) (m.available (length s.taken) h.index_available);
      index_used = rw (length-append s.reports gave) (m.used (length s.reports) h.index_used);
    }

pub in_order : InEveryQueueRun InOrder
unfolding out_of
in_order s (on_new_queue r idle new) c = record { in_order = rw new.none_out; index_available = rw new.available_first; index_used = rw new.used_first }
in_order s (on_call {s = before} r last) c = kept before last c (in_order before r last)
in_order s (on_restore {s = before} r l) c = let h = in_order before r c in record { in_order = h.in_order; index_available = h.index_available; index_used = h.index_used }
