-- SPDX-License-Identifier: Apache-2.0 AND BSD-3-Clause
-- The rules of `history` for a program that links the library, of every call of every run of the exported functions: of the world in hand before it, of the call, and of what it shows.
use Rattle.std.specs.Prelude.{ℕ, ◌+◌, ◌≡◌, List, Ok}
use Rattle.record.specs.declared.Device.{Device}
use Rattle.step.specs.World.{World, Call, Outcome}
use Rattle.step.specs.Step.{step}
use Rattle.history.specs.History.{Story, after, begun}
use Rattle.history.specs.Rules.{asked_in, taken_in, waits, KeepsShape, Never12, UsableNeverShrinks, DiscardIsCounted, OnlySizeChangeMovesRequested, PlugWithinRequested, SizeChangeTouchesNothing, LoweringAsksNothing, WholeOrNotAtAll, PendingStays, AsksWhatIsDue}
use Rattle.history.specs.Questions.{AsksForPending, OnlyUnplugsDiscard, OnlyOpenUnplugsDiscard}
use Rattle.history.specs.Refusals.{RefusedChangesNothing, TenIsCreationFailed}
use Rattle.linked.specs.Runs.{Use, call_of, Held, leaves, One, Run, held_after, calls_of, Making, made_by, Makes, first, in_hand}

-- what a call shows: the world in hand after it, the answer that its number and its words tell, and the bytes that it leaves
abbrev pub shows : Held → Use → Outcome
shows h u = record { world = in_hand (leaves h u); answer = (step (in_hand h) (call_of u)).answer; bytes = u.after.slices.bytes }

-- P holds of every call of every run
abbrev pub OfEveryCall : (World → Call → Outcome → Type 0) → Type 0
OfEveryCall P = (m : Making) (words' : List ℕ) → Makes m words' → (us : List Use) → Run (first words') us → (u : Use) → One (held_after (first words') us) u
    → P (in_hand (held_after (first words') us)) (call_of u) (shows (held_after (first words') us) u)

-- a point of the definition's run, with the world that is held in place of its own
abbrev pub story_in_hand : Held → Story → Story
story_in_hand h s = record { world = in_hand h; «open» = s.«open»; events = s.events }

-- P holds after every run, and of any call then, where it speaks of what led there
abbrev pub AfterEveryRun : (Story → Call → Type 0) → Type 0
AfterEveryRun P = (m : Making) (words' : List ℕ) → Makes m words' → (d : Device) → made_by m ≡ Ok d → (us : List Use) → Run (first words') us → (u : Use)
    → P (story_in_hand (held_after (first words') us) (after (begun d) (calls_of us))) (call_of u)

-- R18.12: each sentence as `history` has it
pub record RulesInHand : Type 0 where
  -- the requested size is the only lever: a plug never goes past it,
  pub only_size_change_moves_requested : OfEveryCall OnlySizeChangeMovesRequested
  pub plug_within_requested : OfEveryCall PlugWithinRequested
  -- lowering it takes nothing away by force,
  pub size_change_touches_nothing : OfEveryCall SizeChangeTouchesNothing
  pub lowering_asks_nothing : OfEveryCall LoweringAsksNothing
  pub only_unplugs_discard : OfEveryCall OnlyUnplugsDiscard
  pub only_open_unplugs_discard : AfterEveryRun OnlyOpenUnplugsDiscard
  -- and each plug or unplug happens whole or not at all
  pub whole_or_not_at_all : AfterEveryRun WholeOrNotAtAll
  -- a refused call changes nothing
  pub refused_changes_nothing : OfEveryCall RefusedChangesNothing
  pub ten_is_creation_failed : OfEveryCall TenIsCreationFailed
  -- the record
  pub keeps_shape : AfterEveryRun KeepsShape
  pub never_12 : AfterEveryRun Never12
  pub usable_never_shrinks : OfEveryCall UsableNeverShrinks
  pub discard_is_counted : AfterEveryRun DiscardIsCounted
  -- the host is asked for what is pending and due, and nothing is asked twice or left unanswered
  pub asks_for_pending : OfEveryCall AsksForPending
  pub asks_what_is_due : AfterEveryRun AsksWhatIsDue
  pub pending_stays : OfEveryCall PendingStays
  pub each_asked_answered : (m : Making) (words' : List ℕ) → Makes m words' → (d : Device) → made_by m ≡ Ok d → (us : List Use) → Run (first words') us
      → asked_in (begun d).world (calls_of us) ≡ taken_in (begun d).world (calls_of us) + waits (in_hand (held_after (first words') us)).device.pending
