-- SPDX-License-Identifier: Apache-2.0 AND BSD-3-Clause
-- The rule of the requested size, sentence by sentence: each is what holds of every call c, in every good story s and so at every point of every run or, where no run is needed, from every world w with the outcome o.
use Rattle.std.specs.Prelude.{ℕ, ◌+◌, ◌*◌, ◌≤◌, ◌<◌, ◌≡◌, Bool, true, false, cond, List, [], ◌∷◌, eqb}
use Rattle.std.proofs.Math.Option.{Option, some, none}
use Rattle.units.specs.Numbers.{MiB}
use Rattle.units.specs.declared.GuestAddr.{GuestAddr}
use Rattle.units.specs.declared.RegionOffset.{RegionOffset}
use Rattle.units.specs.declared.HostAddr.{HostAddr}
use Rattle.record.specs.declared.Pending.{Pending}
use Rattle.record.specs.declared.Pending.TheVariants.{Nothing, Create, Discard, DiscardOne}
use Rattle.record.specs.declared.HostCall.TheVariants.{Discard as DiscardCall}
use Rattle.record.specs.Shape.{shaped_of}
use Rattle.step.specs.declared.Answer.{Answer}
use Rattle.step.specs.declared.Answer.TheVariants.{Refused, Wants}
use Rattle.step.specs.Answers.{refusal, question, OfReply}
use Rattle.step.specs.World.{World, Call, Place, SetRequestedSize, Request, HostAnswer, ReadConfig, WriteConfig, Outcome}
use Rattle.step.specs.Step.{step, block_size, usable, plugged, requested, new_usable, region_blocks, Untouched}
use Rattle.history.specs.History.{Event, present, events_of, Story, next, after}
use Rattle.history.specs.Reached.{marked, counted, all_could, Reached}
use Rattle.history.specs.Good.{due, Good}

-- of any call in any good story
abbrev pub FromEveryGood : (Story → Call → Type 0) → Type 0
FromEveryGood P = (s : Story) → Good s → (c : Call) → P s c

-- so of every point that a run reaches, and of any call there
abbrev pub InEveryRun : (Story → Call → Type 0) → Type 0
InEveryRun P = (s : Story) → Reached s → (c : Call) → P s c

-- of any call from any world, whatever led to it
abbrev pub FromEveryWorld : (World → Call → Outcome → Type 0) → Type 0
FromEveryWorld P = (w : World) (c : Call) → P w c (step w c)

-- R18.11: the record keeps its shape
abbrev pub KeepsShape : Story → Call → Type 0
KeepsShape s c = shaped_of (next s c).world.device ≡ true

-- so 12 never appears
abbrev pub Never12 : Story → Call → Type 0
Never12 s c = (step s.world c).answer ≡ Refused 12 → ⊥

-- R10.19: an unmapped row and a host sum that passes come of a spoiled table alone: no response of a run has reason 9 or 10
abbrev pub NotSpoiled : (why : ℕ) → Type 0
NotSpoiled why = (why ≡ 9 → ⊥) × (why ≡ 10 → ⊥)

abbrev pub Never9Or10 : Story → Call → Type 0
Never9Or10 s c = OfReply (λ reply. NotSpoiled reply.why) (step s.world c).answer

-- R6.2: the usable size never shrinks
abbrev pub UsableNeverShrinks : World → Call → Outcome → Type 0
UsableNeverShrinks w c o = usable w ≤ usable o.world

-- R18.11: in a run the block that an unplug-all waits for is counted in the plugged size, so nothing is cut off at 0
abbrev pub DiscardIsCounted : Story → Call → Type 0
DiscardIsCounted s c = (block : ℕ) (status : GuestAddr) → s.world.device.pending ≡ DiscardOne block status → block_size s.world ≤ plugged s.world

-- ---- R18.6: the requested size is the only lever
unfoldable pub is_size_change : Call → Bool
is_size_change (Place at size slots blocks rows) = false
is_size_change (SetRequestedSize mib) = true
is_size_change (Request guest descriptors head) = false
is_size_change (HostAnswer guest ok host) = false
is_size_change (ReadConfig offset buffer) = false
is_size_change (WriteConfig offset buffer) = false

-- only a size change moves it
abbrev pub OnlySizeChangeMovesRequested : World → Call → Outcome → Type 0
OnlySizeChangeMovesRequested w c o = is_size_change c ≡ false → requested o.world ≡ requested w

-- a plug never takes the plugged size past it: no call that raises the plugged size does
abbrev pub PlugWithinRequested : World → Call → Outcome → Type 0
PlugWithinRequested w c o = plugged w < plugged o.world → plugged o.world ≤ requested w

-- ---- R18.7: lowering the requested size takes nothing away by force
-- it changes no block, no row and no plugged size, nor does raising it: rows change when the host has answered
abbrev pub SizeChangeTouchesNothing : World → Call → Outcome → Type 0
SizeChangeTouchesNothing w c o = is_size_change c ≡ true → Untouched w o.world

-- a call that asks the host for no discard
abbrev pub DiscardsNothing : World → Call → Type 0
DiscardsNothing w c = (offset : RegionOffset) (size : ℕ) (host : HostAddr) → (step w c).answer ≡ Wants (DiscardCall offset size host) → ⊥

-- so is a size change, whatever its number of MiB
abbrev pub SizeChangeDiscardsNothing : Type 0
SizeChangeDiscardsNothing = (w : World) (mib : ℕ) → DiscardsNothing w (SetRequestedSize mib)

-- where the usable size is all that the requested size is worth (a creation that failed leaves it behind), lowering leaves it as it is and asks the host for nothing
abbrev pub LoweringAsksNothing : World → Call → Outcome → Type 0
LoweringAsksNothing w c o = (mib : ℕ) → c ≡ SetRequestedSize mib → mib * MiB ≤ requested w → new_usable w ≤ usable w
    → (usable o.world ≡ usable w) × (o.world.device.pending ≡ w.device.pending)

-- ---- R18.8: every plug and unplug happens whole or not at all
pub record Whole (w : World) (new : List Event) (w' : World) : Type 0 where
  pub blocks_by : w'.blocks ≡ marked new w.blocks
  pub size_by : plugged w' ≡ counted (block_size w) new (plugged w)
  pub could_all : all_could new w.blocks (region_blocks w) ≡ true

-- placing alone brings another bitmap
unfoldable pub is_place : Call → Bool
is_place (Place at size slots blocks rows) = true
is_place (SetRequestedSize mib) = false
is_place (Request guest descriptors head) = false
is_place (HostAnswer guest ok host) = false
is_place (ReadConfig offset buffer) = false
is_place (WriteConfig offset buffer) = false

-- a call changes the blocks by its events alone, and each event is of a whole range
abbrev pub WholeOrNotAtAll : Story → Call → Type 0
WholeOrNotAtAll s c = is_place c ≡ false → Whole s.world (events_of s.world s.«open» c (step s.world c).answer) (next s c).world

-- ---- R18.9: no host call is asked twice or left unanswered
-- the questions to the host in an answer
abbrev pub asks : Answer → ℕ
asks a = cond (present (question a)) 1 0

-- a host answer is taken unless it is refused; 10 says that it was taken, and that it was no
abbrev pub is_taken : Option ℕ → Bool
is_taken none = true
is_taken (some number) = eqb number 10

abbrev pub taken : Answer → ℕ
taken a = cond (is_taken (refusal a)) 1 0

unfoldable pub takes_answer : Call → Answer → ℕ
takes_answer (Place at size slots blocks rows) a = 0
takes_answer (SetRequestedSize mib) a = 0
takes_answer (Request guest descriptors head) a = 0
takes_answer (HostAnswer guest ok host) a = taken a
takes_answer (ReadConfig offset buffer) a = 0
takes_answer (WriteConfig offset buffer) a = 0

unfoldable pub waits : Pending → ℕ
waits Nothing = 0
waits (Create first last) = 1
waits (Discard first count status) = 1
waits (DiscardOne block status) = 1

-- over the calls from a world on
unfoldable pub asked_in : World → List Call → ℕ
asked_in w [] = 0
asked_in w (c ∷ cs) = asks (step w c).answer + asked_in (step w c).world cs

unfoldable pub taken_in : World → List Call → ℕ
taken_in w [] = 0
taken_in w (c ∷ cs) = takes_answer c (step w c).answer + taken_in (step w c).world cs

-- each question has one answer before the next is asked; where nothing is pending none is left unanswered. Of any calls from anywhere, a newly made or a restored device included, where nothing is pending at first
abbrev pub EachAskedAnswered : Type 0
EachAskedAnswered = (s : Story) (cs : List Call)
    → waits s.world.device.pending + asked_in s.world cs ≡ taken_in s.world cs + waits (after s cs).world.device.pending

-- a pending call stays as it is but where a question is asked or an answer is taken
abbrev pub PendingStays : World → Call → Outcome → Type 0
PendingStays w c o = asks o.answer ≡ 0 → takes_answer c o.answer ≡ 0 → o.world.device.pending ≡ w.device.pending

abbrev pub AsksWhatIsDue : Story → Call → Type 0
AsksWhatIsDue s c = due s.world.device.pending s.world.blocks s.world.rows (region_blocks s.world) ≡ true
