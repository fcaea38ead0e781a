-- SPDX-License-Identifier: Apache-2.0 AND BSD-3-Clause
-- The rules of `history`, of every call of every run of the exported functions: what holds of the definition's step holds of what a call shows.
use Prim.Native.Nat.{ℕ, ◌+◌}
use mathlib.Core.Path.{◌≡◌, ap, sym, ◌∙◌}
use mathlib.Core.List.{List}
use native.Mathlib.Omega.{arith}
use Rattle.record.specs.declared.Device.{Device}
use Rattle.step.specs.World.{World, Call, Outcome}
use Rattle.step.specs.Step.{step}
use Rattle.history.specs.History.{Story, after, Fresh, begun}
use Rattle.history.specs.Reached.{Reached, from_making}
use Rattle.history.proofs.Good.{reached_good}
use Rattle.history.specs.Rules.{FromEveryGood, FromEveryWorld, asked_in, taken_in, waits, KeepsShape, Never12, UsableNeverShrinks, DiscardIsCounted, OnlySizeChangeMovesRequested, PlugWithinRequested, SizeChangeTouchesNothing, LoweringAsksNothing, WholeOrNotAtAll, PendingStays, AsksWhatIsDue}
use Rattle.history.specs.Questions.{AsksForPending, OnlyUnplugsDiscard, OnlyOpenUnplugsDiscard}
use Rattle.history.specs.Refusals.{RefusedChangesNothing, TenIsCreationFailed}
use Rattle.history.proofs.Demand3.{reached_after}
use Rattle.history.proofs.KeepsShape.{keeps_shape}
use Rattle.history.proofs.Sizes.{never_12, usable_never_shrinks, discard_is_counted, only_size_change_moves_requested, plug_within_requested}
use Rattle.history.proofs.SizeChange.{size_change_touches_nothing, lowering_asks_nothing}
use Rattle.history.proofs.Whole.{whole_or_not_at_all}
use Rattle.history.proofs.HostCalls.{each_asked_answered, pending_stays, asks_what_is_due}
use Rattle.history.proofs.Questions.{asks_for_pending, only_unplugs_discard, only_open_unplugs_discard}
use Rattle.history.proofs.Refusals.{refused_changes_nothing, ten_is_creation_failed}
use Rattle.linked.specs.Runs.{Use, call_of, Held, leaves, held_after, calls_of, Means, UseSteps, first, in_hand}
use Rattle.linked.specs.Rules.{shows, OfEveryCall, story_in_hand, AfterEveryRun, RulesInHand}
use Rattle.linked.proofs.Steps.{in_hand_lem}
use Rattle.linked.proofs.Linked.{is_fresh, follows_making, linked}

-- what a call shows is what the definition's step ends in
shows-step : (h : Held) (u : Use) → UseSteps h u → step (in_hand h) (call_of u) ≡ shows h u
shows-step h u s = let o = step (in_hand h) (call_of u) in ends o.world (in_hand (leaves h u)) o.bytes u.after.slices.bytes (sym s.goes_on) (sym s.left)
  where
    ends : (w v : World) (bytes bytes' : List ℕ) → w ≡ v → bytes ≡ bytes'
        → ◌≡◌ {A = Outcome} (record { world = w; answer = (step (in_hand h) (call_of u)).answer; bytes = bytes }) (record { world = v; answer = (step (in_hand h) (call_of u)).answer; bytes = bytes' })
    ends w v bytes bytes' p q = rw (p, q)

-- so a rule of every world holds of a call that is a step, and a rule of every run wherever one has led
pub rule_of_call : (P : World → Call → Outcome → Type 0) → FromEveryWorld P → (h : Held) (u : Use) → UseSteps h u → P (in_hand h) (call_of u) (shows h u)
rule_of_call P rule h u s = rw (shows-step h u s) at (rule (in_hand h) (call_of u))

pub rule_in_hand : (P : Story → Call → Type 0) → FromEveryGood P → (h : Held) (s : Story) → Means h s.world → Reached s → (c : Call) → P (story_in_hand h s) c
rule_in_hand P rule h s m reached c =
    let same : story_in_hand h s ≡ s = ap (λ (w : World). record { world = w; «open» = s.«open»; events = s.events }) (in_hand_lem h s.world m) in
    rw same (rule s (reached_good s reached) c)

of_every_call : (P : World → Call → Outcome → Type 0) → FromEveryWorld P → OfEveryCall P
of_every_call P rule m words' makes us run u one = rule_of_call P rule (held_after (first words') us) u ((linked m words' makes).follows.steps us run u one)

after_every_run : (P : Story → Call → Type 0) → FromEveryGood P → AfterEveryRun P
after_every_run P rule m words' makes d e us run u =
    rule_in_hand P rule _ (after (begun d) (calls_of us)) ((follows_making m words' makes d e).means us run)
    (reached_after (begun d) (from_making (is_fresh m words' makes d e)) (calls_of us)) (call_of u)

-- a newly made device waits for nothing
asked_from_making : (d : Device) → Fresh d → (cs : List Call) → asked_in (begun d).world cs ≡ taken_in (begun d).world cs + waits (after (begun d) cs).world.device.pending
unfolding waits
asked_from_making d fresh cs =
    let none : waits d.pending ≡ 0 = rw fresh.waits_for_nothing in
    omega (arith, each_asked_answered (begun d) cs)

pub rules_in_hand : RulesInHand
rules_in_hand =
    record {
      only_size_change_moves_requested = of_every_call OnlySizeChangeMovesRequested only_size_change_moves_requested;
      plug_within_requested = of_every_call PlugWithinRequested plug_within_requested;
      size_change_touches_nothing = of_every_call SizeChangeTouchesNothing size_change_touches_nothing;
      lowering_asks_nothing = of_every_call LoweringAsksNothing lowering_asks_nothing;
      only_unplugs_discard = of_every_call OnlyUnplugsDiscard only_unplugs_discard;
      only_open_unplugs_discard = after_every_run OnlyOpenUnplugsDiscard only_open_unplugs_discard;
      whole_or_not_at_all = after_every_run WholeOrNotAtAll whole_or_not_at_all;
      refused_changes_nothing = of_every_call RefusedChangesNothing refused_changes_nothing;
      ten_is_creation_failed = of_every_call TenIsCreationFailed ten_is_creation_failed;
      keeps_shape = after_every_run KeepsShape keeps_shape;
      never_12 = after_every_run Never12 never_12;
      usable_never_shrinks = of_every_call UsableNeverShrinks usable_never_shrinks;
      discard_is_counted = after_every_run DiscardIsCounted discard_is_counted;
      asks_for_pending = of_every_call AsksForPending asks_for_pending;
      asks_what_is_due = after_every_run AsksWhatIsDue asks_what_is_due;
      pending_stays = of_every_call PendingStays pending_stays;
      each_asked_answered = λ m words' makes d e us run.
          let same = in_hand_lem (held_after (first words') us) (after (begun d) (calls_of us)).world ((follows_making m words' makes d e).means us run) in
          asked_from_making d (is_fresh m words' makes d e) (calls_of us) ∙ ap (λ (w : World). taken_in (begun d).world (calls_of us) + waits w.device.pending) (sym same);
    }
