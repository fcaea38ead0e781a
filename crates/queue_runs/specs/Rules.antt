-- SPDX-License-Identifier: Apache-2.0 AND BSD-3-Clause
-- Demands 2 and 3 and the rule of the requested size over the requests taken (R13.14): a call on the queue is none or one of the device, so what is said of every call of the device, and of every run of them, holds on the queue.
use Rattle.std.specs.Prelude.{◌+◌, ◌≤◌, ◌<◌, ◌≡◌, Bool, true, false, List, [], ◌∷◌, ◌++◌, Some}
use Rattle.rings.specs.declared.Queue.{Queue}
use Rattle.step.specs.World.{World, Call}
use Rattle.step.specs.Step.{step, usable, plugged, requested, Untouched}
use Rattle.queue.specs.Queue.{QueueOutcome}
use Rattle.history.specs.History.{Event, events_of, Story, Demand3}
use Rattle.history.specs.Reached.{Reached}
use Rattle.history.specs.Rules.{FromEveryGood, asked_in, taken_in, waits, Whole, KeepsShape, DiscardIsCounted, AsksWhatIsDue}
use Rattle.history.specs.Questions.{OnlyOpenUnplugsDiscard}
use Rattle.queue_runs.specs.Runs.{Placing, Sizing, Reading, Writing, QueueCall, TakeNext, Host, PastIt, device_calls, QueueStory, next_story, after_all, QueueReached, InEveryQueueRun, FromEveryQueue}

-- ---- demand 2 (R18.2): a call makes none or one call of the device, leaves its world and tells its answer
pub record IsCall (w : World) (o : QueueOutcome) (call : Call) : Type 0 where
  pub same_world : o.world ≡ (step w call).world
  pub same_answer : o.answer ≡ Some (step w call).answer

unfoldable pub AsCalls : World → List Call → QueueOutcome → Type 0
AsCalls w [] o = o.world ≡ w
AsCalls w (call ∷ []) o = IsCall w o call
AsCalls w (call ∷ more ∷ calls) o = ⊥

abbrev pub NoneOrOne : World → Queue → QueueCall → QueueOutcome → Type 0
NoneOrOne w q c o = AsCalls w (device_calls w q c) o

-- ---- a run on the queue is a run of the device, by the calls that `next_story` makes of it
pub record IsRun (s : QueueStory) : Type 0 where
  pub reached : Reached s.story
  pub same_world : s.story.world ≡ s.world

abbrev pub RunsTheDevice : Type 0
RunsTheDevice = (s : QueueStory) → QueueReached s → IsRun s

-- so what holds in every good story of the device, of any call then, holds at every point of every run on the queue
abbrev pub OfAnyCall : (Story → Call → Type 0) → QueueStory → QueueCall → Type 0
OfAnyCall P s c = (call : Call) → P s.story call

abbrev pub LiftsRules : Type 1
LiftsRules = (P : Story → Call → Type 0) → FromEveryGood P → InEveryQueueRun (OfAnyCall P)

-- ---- demand 3 (R18.3, R18.4)
abbrev pub Demand3OnQueue : QueueStory → QueueCall → Type 0
Demand3OnQueue s c = Demand3 s.world s.story.events

-- ---- the rule of the requested size
unfoldable pub is_sizing : QueueCall → Bool
is_sizing (TakeNext g) = false
is_sizing (Host g ok host) = false
is_sizing (PastIt (Placing at size slots blocks rows)) = false
is_sizing (PastIt (Sizing mib)) = true
is_sizing (PastIt (Reading offset buffer)) = false
is_sizing (PastIt (Writing offset buffer)) = false

unfoldable pub is_placing : QueueCall → Bool
is_placing (TakeNext g) = false
is_placing (Host g ok host) = false
is_placing (PastIt (Placing at size slots blocks rows)) = true
is_placing (PastIt (Sizing mib)) = false
is_placing (PastIt (Reading offset buffer)) = false
is_placing (PastIt (Writing offset buffer)) = false

-- R18.6: the requested size is the only lever
abbrev pub OnlySizingMovesRequested : World → Queue → QueueCall → QueueOutcome → Type 0
OnlySizingMovesRequested w q c o = is_sizing c ≡ false → requested o.world ≡ requested w

-- R18.6: a plug never goes past it
abbrev pub PlugWithinRequested : World → Queue → QueueCall → QueueOutcome → Type 0
PlugWithinRequested w q c o = plugged w < plugged o.world → plugged o.world ≤ requested w

-- R18.7: lowering it takes nothing away by force
abbrev pub SizingTouchesNothing : World → Queue → QueueCall → QueueOutcome → Type 0
SizingTouchesNothing w q c o = is_sizing c ≡ true → Untouched w o.world

abbrev pub UsableNeverShrinks : World → Queue → QueueCall → QueueOutcome → Type 0
UsableNeverShrinks w q c o = usable w ≤ usable o.world

-- R18.8: each plug or unplug happens whole or not at all: a call changes the blocks by its events alone, those of the one call of the device that it makes
unfoldable pub new_events : Story → List Call → List Event
new_events s [] = []
new_events s (call ∷ calls) = events_of s.world s.«open» call (step s.world call).answer

abbrev pub WholeOrNotAtAll : QueueStory → QueueCall → Type 0
WholeOrNotAtAll s c = is_placing c ≡ false → Whole s.world (new_events s.story (device_calls s.world s.queue c)) (next_story s c).world

-- the calls of the device that calls on the queue make
unfoldable pub all_calls : QueueStory → List QueueCall → List Call
all_calls s [] = []
all_calls s (c ∷ cs) = device_calls s.world s.queue c ++ all_calls (next_story s c) cs

-- R18.9: each question to the host has one answer before the next is asked, from any point of a run on
abbrev pub EachAskedAnswered : Type 0
EachAskedAnswered = (s : QueueStory) → QueueReached s → (cs : List QueueCall) → let calls = all_calls s cs in
    waits s.world.device.pending + asked_in s.world calls ≡ taken_in s.world calls + waits (after_all s cs).world.device.pending

pub record RulesOnQueue : Type 1 where
  pub none_or_one : FromEveryQueue NoneOrOne
  pub runs_the_device : RunsTheDevice
  pub lifts_rules : LiftsRules
  pub demand_3 : InEveryQueueRun Demand3OnQueue
  pub only_sizing_moves_requested : FromEveryQueue OnlySizingMovesRequested
  pub plug_within_requested : FromEveryQueue PlugWithinRequested
  pub sizing_touches_nothing : FromEveryQueue SizingTouchesNothing
  pub usable_never_shrinks : FromEveryQueue UsableNeverShrinks
  pub whole_or_not_at_all : InEveryQueueRun WholeOrNotAtAll
  pub each_asked_answered : EachAskedAnswered
  -- some that lift
  pub keeps_shape : InEveryQueueRun (OfAnyCall KeepsShape)
  pub discard_is_counted : InEveryQueueRun (OfAnyCall DiscardIsCounted)
  pub asks_what_is_due : InEveryQueueRun (OfAnyCall AsksWhatIsDue)
  pub only_open_unplugs_discard : InEveryQueueRun (OfAnyCall OnlyOpenUnplugsDiscard)
