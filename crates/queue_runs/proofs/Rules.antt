-- SPDX-License-Identifier: Apache-2.0 AND BSD-3-Clause
-- Demands 2 and 3 and the rule of the requested size, over every run on the queue: by the one call of the device that a call makes, or by none.
use Rattle.std.specs.Prelude.{Option, Some, None, Ok, Err, Result}
use Prim.Native.Nat.{ℕ, ◌+◌, ◌≤◌, ◌<◌}
use mathlib.Core.Path.{◌≡◌, refl, ap, ◌∙◌, sym}
use mathlib.Core.Bool.{false}
use mathlib.Core.List.{List, [], ◌∷◌}
use native.Mathlib.Omega.{arith}
use Rattle.refusal.specs.declared.Refusal.{Refusal}
use Rattle.rings.specs.declared.Queue.{Queue}
use Rattle.step.specs.World.{World, Guest, Call, Place, SetRequestedSize, Request, HostAnswer, ReadConfig, WriteConfig}
use Rattle.step.specs.Step.{step, usable, plugged, requested, Untouched}
use Rattle.queue.specs.Queue.{QueueOutcome, next_of}
use Rattle.history.specs.History.{events_of, Story, next, after}
use Rattle.history.specs.Reached.{marked, counted, all_could}
use Rattle.history.specs.Rules.{is_size_change, is_place, waits, asked_in, taken_in, Whole, KeepsShape, DiscardIsCounted, AsksWhatIsDue, WholeOrNotAtAll as DeviceWhole}
use Rattle.history.specs.Questions.{OnlyOpenUnplugsDiscard}
use Rattle.history.proofs.Demand3.{demand_3}
use Rattle.history.proofs.KeepsShape.{keeps_shape}
use Rattle.history.proofs.Sizes.{usable_never_shrinks, discard_is_counted, only_size_change_moves_requested, plug_within_requested}
use Rattle.history.proofs.SizeChange.{size_change_touches_nothing}
use Rattle.history.proofs.Whole.{whole_or_not_at_all}
use Rattle.history.proofs.HostCalls.{each_asked_answered, asks_what_is_due}
use Rattle.history.proofs.Questions.{only_open_unplugs_discard}
use Rattle.queue_runs.specs.Runs.{Placing, Sizing, Reading, Writing, beside_call, QueueCall, TakeNext, Host, PastIt, queue_step, requests_of, device_calls, next_story, InEveryQueueRun, FromEveryQueue}
use Rattle.queue_runs.specs.Rules.{AsCalls, all_calls, Demand3OnQueue, is_sizing, is_placing, OnlySizingMovesRequested, PlugWithinRequested, SizingTouchesNothing, UsableNeverShrinks, new_events, WholeOrNotAtAll, EachAskedAnswered, RulesOnQueue}
use Rattle.queue_runs.proofs.Cases.{impossible, answer_cases}
use Rattle.queue_runs.proofs.Calls.{none_or_one, same_after, same_worlds, runs_the_device, lifts_rules}

-- ---- what a call of the device moves, and nothing else does
module _ (R : World → World → Type 0) (same : (w : World) → R w w) (w : World) (o : QueueOutcome) where
  -- of the one call that is made, R is so
  by_calls : (calls : List Call) → ((call : Call) → calls ≡ call ∷ [] → R w (step w call).world) → AsCalls w calls o → R w o.world
  unfolding AsCalls
  by_calls [] one e = rw e (same w)
  by_calls (call ∷ []) one a = rw a.same_world (one call refl)
  by_calls (call ∷ more ∷ calls) one a = absurd a

-- the one call is a size change, or placing, exactly if the queue's call is
module _ (w : World) (q : Queue) where
  taken_is : (x : Result (Option ℕ) Refusal) (g : Guest) (call : Call) → requests_of x q g ≡ call ∷ [] → (is_size_change call ≡ false) × (is_place call ≡ false)
  unfolding requests_of is_size_change is_place
  taken_is (Ok (Some h)) g call e = let is : Request g q.descriptors.0 h ≡ call = cc in (rw (← is), rw (← is))
  taken_is (Ok None) g call e = impossible cc
  taken_is (Err refusal) g call e = impossible cc

  pub kinds : (c : QueueCall) (call : Call) → device_calls w q c ≡ call ∷ [] → (is_size_change call ≡ is_sizing c) × (is_place call ≡ is_placing c)
  unfolding device_calls is_size_change is_place is_sizing is_placing beside_call
  kinds (TakeNext g) call e = taken_is (next_of w q g) g call e
  kinds (Host g ok host) call e =
      answer_cases w q g ok host (λ calls _. calls ≡ call ∷ [] → (is_size_change call ≡ false) × (is_place call ≡ false))
      (λ _ f. let is : HostAnswer g ok host ≡ call = cc in (rw (← is), rw (← is)))
      (λ r _ f. impossible cc)
      e
  kinds (PastIt (Placing at size slots blocks rows)) call e = let is : Place at size slots blocks rows ≡ call = cc in (rw (← is), rw (← is))
  kinds (PastIt (Sizing mib)) call e = let is : SetRequestedSize mib ≡ call = cc in (rw (← is), rw (← is))
  kinds (PastIt (Reading offset buffer)) call e = let is : ReadConfig offset buffer ≡ call = cc in (rw (← is), rw (← is))
  kinds (PastIt (Writing offset buffer)) call e = let is : WriteConfig offset buffer ≡ call = cc in (rw (← is), rw (← is))

  abbrev Leaves : QueueCall → (World → World → Type 0) → Type 0
  Leaves c R = R w (queue_step w q c).world

  moves : (c : QueueCall) (R : World → World → Type 0) → ((v : World) → R v v) → ((call : Call) → device_calls w q c ≡ call ∷ [] → R w (step w call).world) → Leaves c R
  moves c R same one = by_calls R same w (queue_step w q c) (device_calls w q c) one (none_or_one w q c)

only_sizing : FromEveryQueue OnlySizingMovesRequested
only_sizing w q c other =
    moves w q c (λ v u. requested u ≡ requested v) (λ v. refl) (λ call e. only_size_change_moves_requested w call ((kinds w q c call e).0 ∙ other))

within : FromEveryQueue PlugWithinRequested
within w q c =
    moves w q c (λ v u. plugged v < plugged u → plugged u ≤ requested v) (λ v h. absurd (omega arith)) (λ call e. plug_within_requested w call)

never_shrinks : FromEveryQueue UsableNeverShrinks
never_shrinks w q c = moves w q c (λ v u. usable v ≤ usable u) (λ v. omega arith) (λ call e. usable_never_shrinks w call)

touches_nothing : FromEveryQueue SizingTouchesNothing
touches_nothing w q c sizes =
    moves w q c Untouched (λ v. record { same_blocks = refl; same_rows = refl; same_plugged = refl }) (λ call e. size_change_touches_nothing w call ((kinds w q c call e).0 ∙ sizes))

-- ---- in every run
pub demand_3_on_queue : InEveryQueueRun Demand3OnQueue
demand_3_on_queue s r c = let h = runs_the_device s r in rw h.same_world at (demand_3 s.story h.reached)

-- no call, and nothing has changed; or one, by its events
by_events : (st : Story) (w : World) → st.world ≡ w → (o : QueueOutcome) (calls : List Call)
    → ((call : Call) → calls ≡ call ∷ [] → Whole st.world (events_of st.world st.«open» call (step st.world call).answer) (next st call).world)
    → AsCalls w calls o → Whole w (new_events st calls) o.world
unfolding AsCalls new_events next marked counted all_could
by_events st w e o [] one a = rw a (record { blocks_by = refl; size_by = refl; could_all = refl })
by_events st w e o (call ∷ []) one a = rw (a.same_world, ← e) (one call refl)
by_events st w e o (call ∷ more ∷ calls) one a = absurd a

whole_on_queue : InEveryQueueRun WholeOrNotAtAll
unfolding next_story
whole_on_queue s r c other =
    by_events s.story s.world (runs_the_device s r).same_world (queue_step s.world s.queue c) (device_calls s.world s.queue c)
    (λ call e. lifts_rules DeviceWhole whole_or_not_at_all s r c call ((kinds s.world s.queue c call e).1 ∙ other))
    (none_or_one s.world s.queue c)

-- the calls of the device from the world w to the world w'
between : (t : Story) (w w' : World) (calls : List Call) → t.world ≡ w → (after t calls).world ≡ w'
    → waits w.device.pending + asked_in w calls ≡ taken_in w calls + waits w'.device.pending
between t w w' calls at_first at_last = rw (← at_last, ← at_first) (each_asked_answered t calls)

asked_answered : EachAskedAnswered
asked_answered s r cs =
    let calls = all_calls s cs in
    let at_first = (runs_the_device s r).same_world in
    between s.story s.world _ calls at_first (sym (ap (λ (t : Story). t.world) (same_after s cs)) ∙ same_worlds s cs at_first)

pub rules_on_queue : RulesOnQueue
rules_on_queue =
    record {
      none_or_one = none_or_one;
      runs_the_device = runs_the_device;
      lifts_rules = lifts_rules;
      demand_3 = demand_3_on_queue;
      only_sizing_moves_requested = only_sizing;
      plug_within_requested = within;
      sizing_touches_nothing = touches_nothing;
      usable_never_shrinks = never_shrinks;
      whole_or_not_at_all = whole_on_queue;
      each_asked_answered = asked_answered;
      keeps_shape = lifts_rules KeepsShape keeps_shape;
      discard_is_counted = lifts_rules DiscardIsCounted discard_is_counted;
      asks_what_is_due = lifts_rules AsksWhatIsDue asks_what_is_due;
      only_open_unplugs_discard = lifts_rules OnlyOpenUnplugsDiscard only_open_unplugs_discard;
    }
