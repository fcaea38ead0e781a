-- SPDX-License-Identifier: Apache-2.0 AND BSD-3-Clause
-- A run on the queue is a run of the device: each call makes none or one of the device, and has its world and its answer.
use Rattle.std.specs.Prelude.{Option, Some, None, Ok, Err, Result}
use Prim.Native.Nat.{ℕ}
use mathlib.Core.Path.{◌≡◌, refl, ◌∙◌, sym}
use mathlib.Core.List.{List, [], ◌∷◌, ◌++◌}
use Rattle.refusal.specs.declared.Refusal.{Refusal}
use Rattle.rings.specs.declared.Queue.{Queue}
use Rattle.step.specs.World.{World, Guest, Call, HostAnswer}
use Rattle.step.specs.Step.{step}
use Rattle.queue.specs.Queue.{QueueOutcome, takes, next_of, answers}
use Rattle.history.specs.History.{Story, next, after}
use Rattle.history.specs.Reached.{by_restore}
use Rattle.history.proofs.Good.{reached_good}
use Rattle.history.proofs.Demand3.{reached_after}
use Rattle.queue_runs.specs.Runs.{QueueCall, TakeNext, Host, PastIt, queue_step, requests_of, device_calls, QueueStory, next_story, after_all, QueueReached, on_new_queue, on_call, on_restore, FromEveryQueue}
use Rattle.queue_runs.specs.Rules.{AsCalls, NoneOrOne, all_calls, RunsTheDevice, LiftsRules}
use Rattle.queue_runs.proofs.Cases.{answer_cases}

module _ (w : World) where
  taken : (x : Result (Option ℕ) Refusal) (q : Queue) (g : Guest) → AsCalls w (requests_of x q g) (takes x w q g)
  unfolding takes requests_of AsCalls
  taken (Ok (Some h)) q g = record { same_world = refl; same_answer = refl }
  taken (Ok None) q g = refl
  taken (Err refusal) q g = refl

  heard : (c : Call) (t : Option ℕ) (q : Queue) (base : ℕ) → AsCalls w (c ∷ []) (answers t q base (step w c))
  unfolding answers AsCalls
  heard c None q base = record { same_world = refl; same_answer = refl }
  heard c (Some h) q base = record { same_world = refl; same_answer = refl }

pub none_or_one : FromEveryQueue NoneOrOne
unfolding queue_step device_calls AsCalls
none_or_one w q (TakeNext g) = taken w (next_of w q g) q g
none_or_one w q (Host g ok host) =
    answer_cases w q g ok host (AsCalls w) (λ _. heard w (HostAnswer g ok host) q.taken q g.base) (λ r _. refl)
none_or_one w q (PastIt b) = record { same_world = refl; same_answer = refl }

-- ---- over any calls
pub after_both : (s : Story) (cs ds : List Call) → after s (cs ++ ds) ≡ after (after s cs) ds
unfolding after
after_both s [] ds = refl
after_both s (c ∷ cs) ds = after_both (next s c) cs ds

pub same_after : (s : QueueStory) (cs : List QueueCall) → (after_all s cs).story ≡ after s.story (all_calls s cs)
unfolding after_all all_calls after next_story
same_after s [] = refl
same_after s (c ∷ cs) =
    same_after (next_story s c) cs ∙ sym (after_both s.story (device_calls s.world s.queue c) (all_calls (next_story s c) cs))

-- the world that the calls of the device leave is that of the call
leaves_world : (s : Story) (calls : List Call) (o : QueueOutcome) → AsCalls s.world calls o → (after s calls).world ≡ o.world
unfolding after next AsCalls
leaves_world s [] o e = sym e
leaves_world s (call ∷ []) o a = sym a.same_world
leaves_world s (call ∷ more ∷ calls) o a = absurd a

next_world : (s : QueueStory) (c : QueueCall) → s.story.world ≡ s.world → (next_story s c).story.world ≡ (next_story s c).world
unfolding next_story
next_world s c e =
    leaves_world s.story (device_calls s.world s.queue c) (queue_step s.world s.queue c)
    (rw e (none_or_one s.world s.queue c))

pub same_worlds : (s : QueueStory) (cs : List QueueCall) → s.story.world ≡ s.world → (after_all s cs).story.world ≡ (after_all s cs).world
unfolding after_all
same_worlds s [] e = e
same_worlds s (c ∷ cs) e = same_worlds (next_story s c) cs (next_world s c e)

pub runs_the_device : RunsTheDevice
unfolding next_story
runs_the_device s (on_new_queue r idle new) = record { reached = r; same_world = refl }
runs_the_device s (on_call {s = before} r c) =
    let h = runs_the_device before r in
    record {
      reached = reached_after before.story h.reached (device_calls before.world before.queue c);
      same_world = next_world before c h.same_world;
    }
runs_the_device s (on_restore {s = before} {requested} {plugs} r l) =
    let h = runs_the_device before r in
    record { reached = rw h.same_world at (by_restore {requested = requested} {plugs = plugs} h.reached (rw h.same_world l)); same_world = refl }

pub lifts_rules : LiftsRules
lifts_rules P rule s r c call = rule s.story (reached_good s.story (runs_the_device s r).reached) call

-- calls go on from what is reached
pub reached_after_all : (s : QueueStory) → QueueReached s → (cs : List QueueCall) → QueueReached (after_all s cs)
unfolding after_all
reached_after_all s r [] = r
reached_after_all s r (c ∷ cs) = reached_after_all (next_story s c) (on_call r c) cs
