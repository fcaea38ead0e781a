-- SPDX-License-Identifier: Apache-2.0 AND BSD-3-Clause
-- A restore in the runs of the device (R15.15): demand 3's history starts with a plug for each run of the text.
use Rattle.std.specs.Prelude.{ℕ, ◌≡◌, List, [], ◌∷◌}
use Rattle.record.specs.declared.Device.{Device}
use Rattle.step.specs.World.{World, Call, world_of}
use Rattle.history.specs.History.{Event, PlugAck, NoRequest, Story, after, Demand3}
use Rattle.history.specs.Reached.{CanRestore, after_restore, Reached}
use Rattle.history.specs.Good.{Good}
use Rattle.runs.specs.Runs.{Run, runs_of}
use Rattle.saving.specs.Restoring.{Restoring}

-- each run, plugged and acknowledged. Events stand newest first, so the lowest run is told last; the order does not matter, since runs share no block
unfoldable pub plugs_of : List Run → List Event
plugs_of [] = []
plugs_of (r ∷ rs) = PlugAck r.first r.count ∷ plugs_of rs

-- the history that starts in w with these events
abbrev pub starts : World → List Event → Story
starts w es = record { world = w; «open» = NoRequest; events = es }

-- the world w was restored to w'
pub record StartsWith (w : World) (requested : ℕ) (plugs : List Event) (w' : World) : Type 0 where
  -- it is a restore as the crate `history` has it
  pub restores : CanRestore w requested plugs
  pub leads : w' ≡ after_restore w requested plugs
  -- so a run that has led to w goes on, and what was good stays good, with all that is proved of either
  pub goes_on : (s : Story) → Reached s → s.world ≡ w → Reached (starts w' plugs)
  pub stays_good : (s : Story) → Good s → s.world ≡ w → Good (starts w' plugs)
  -- and demand 3 holds from there on after any calls, none included, whatever led to w
  pub told : (cs : List Call) → let s = after (starts w' plugs) cs in Demand3 s.world s.events

-- of every restore that was not refused, with any map table
abbrev pub RestoreStarts : Type 0
RestoreStarts = (d d' : Device) (text bitmap bitmap' table : List ℕ) (r : Restoring d text bitmap bitmap' d')
    → StartsWith (world_of d bitmap table) r.fields.requested (plugs_of (runs_of r.bs)) (world_of d' bitmap' table)
