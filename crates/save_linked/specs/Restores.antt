-- SPDX-License-Identifier: Apache-2.0 AND BSD-3-Clause
-- A program that links the library and restores a device by it (R15.15, R18.12): demand 3's history starts with a plug for each run of the text.
use Rattle.std.specs.Prelude.{ℕ, ◌≡◌, Bool, List}
use Rattle.step.specs.World.{World, Call, Outcome}
use Rattle.history.specs.History.{NoRequest, Story, after, Demand3}
use Rattle.history.specs.Reached.{CanRestore, restored, Reached}
use Rattle.runs.specs.Runs.{runs_of}
use Rattle.save.specs.declared.Fields.{Fields}
use Rattle.save.specs.Text.{Says}
use Rattle.save_runs.specs.Starts.{plugs_of}
use Rattle.save_words.specs.Told.{RestoreTold}
use Rattle.linked.specs.Runs.{Use, call_of, Held, One, Run, held_after, calls_of, Means, in_hand, Follows}
use Rattle.linked.specs.Heard.{AllHeard, events_heard}
use Rattle.linked.specs.Rules.{shows, story_in_hand}

-- jambcopper_restore was lent the words and the bitmap that are held, and a text; it left words' and bitmap', and returned a number
abbrev pub RestoreCalled : Held → (text words' bitmap' : List ℕ) (number : ℕ) → Type 0
RestoreCalled h text words' bitmap' number = RestoreTold text h.words words' h.bitmap bitmap' number

-- what is held then; it is not lent the map table
abbrev pub held_then : Held → (words' bitmap' : List ℕ) → Held
held_then h words' bitmap' = record { words = words'; bitmap = bitmap'; table = h.table }

-- where the history starts that a state restored in w tells: its requested size, and each run plugged and acknowledged
abbrev pub starts_at : World → Fields → (bs : List Bool) → Story
starts_at w f bs = restored w f.requested (plugs_of (runs_of bs))

-- the theorem: a run of the definition stood at s, jambcopper_restore has returned 0 for this text, and h' is held since
pub record SaveLinked (h' : Held) (s : Story) (text : List ℕ) : Type 0 where
  -- the text is that of a state
  pub fields : Fields
  pub bs : List Bool
  pub says : Says text fields bs
  -- which is restored as `history` has it, so that the run goes on
  pub restores : CanRestore s.world fields.requested (plugs_of (runs_of bs))
  pub reached : Reached (starts_at s.world fields bs)
  pub means : Means h' (starts_at s.world fields bs).world
  -- over any run of the exported functions from then on what is held means where the definition's run stands, each call is its next step, and demand 3 holds
  pub follows : Follows h' (starts_at s.world fields bs)
  -- demand 3 of what the program holds and has heard since, as `linked` has it from making on
  pub heard : (us : List Use) → Run h' us → AllHeard us → Demand3 (in_hand (held_after h' us)) (events_heard h' NoRequest (plugs_of (runs_of bs)) us)

-- wherever a run of the definition, restores included, has led
abbrev pub RestoreIsLinked : Type 0
RestoreIsLinked = (h : Held) (s : Story) → Means h s.world → Reached s → (text words' bitmap' : List ℕ) → RestoreCalled h text words' bitmap' 0
    → SaveLinked (held_then h words' bitmap') s text

-- ---- the rules of `history` go on too
-- P holds of every call of every run from there on
abbrev pub OfEveryCallThen : (World → Call → Outcome → Type 0) → Type 0
OfEveryCallThen P = (h' : Held) (s : Story) (text : List ℕ) → SaveLinked h' s text → (us : List Use) → Run h' us → (u : Use) → One (held_after h' us) u
    → P (in_hand (held_after h' us)) (call_of u) (shows (held_after h' us) u)

-- P holds after every run from there on, and of any call then, where it speaks of what led there
abbrev pub AfterEveryRunThen : (Story → Call → Type 0) → Type 0
AfterEveryRunThen P = (h' : Held) (s : Story) (text : List ℕ) (l : SaveLinked h' s text) (us : List Use) → Run h' us → (u : Use)
    → P (story_in_hand (held_after h' us) (after (starts_at s.world l.fields l.bs) (calls_of us))) (call_of u)

-- ---- a refused restore changes nothing, whatever is lent to it
pub record RestoreUntouched (words words' bitmap bitmap' : List ℕ) : Type 0 where
  pub same_words : words' ≡ words
  pub same_bitmap : bitmap' ≡ bitmap

abbrev pub RefusedRestoreChangesNothing : Type 0
RefusedRestoreChangesNothing = (text words words' bitmap bitmap' : List ℕ) (number : ℕ) → RestoreTold text words words' bitmap bitmap' number → (number ≡ 0 → ⊥)
    → RestoreUntouched words words' bitmap bitmap'
