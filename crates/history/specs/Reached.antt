-- SPDX-License-Identifier: Apache-2.0 AND BSD-3-Clause
-- What a run reaches (R18.5): a newly made device, any calls, and a restore wherever it is allowed. A restore is told by plugs, so this also says what an event does to the blocks and the plugged size, and what must be so before it.
use Rattle.std.specs.Prelude.{ℕ, ◌+◌, ◌-◌, ◌≤◌, ◌≡◌, Bool, true, false, ◌&&◌, List, [], ◌∷◌, leb, ltb, length}
use Rattle.std.proofs.Math.Option.{some}
use Rattle.units.specs.Numbers.{bytes_of, blocks_in}
use Rattle.bitmap.specs.Blocks.{block_at, all_are, fill}
use Rattle.record.specs.declared.Device.{Device}
use Rattle.record.specs.declared.Pending.TheVariants.{Nothing}
use Rattle.record.specs.Shape.{size_ok}
use Rattle.record.specs.Changes.{config_with, config_to}
use Rattle.step.specs.World.{World, Call}
use Rattle.step.specs.Step.{block_size, region, usable, plugged, start, region_blocks}
use Rattle.history.specs.History.{Event, PlugAck, UnplugAck, Discarded, UnplugAllAck, NoRequest, Story, next, Fresh, begun, was_plug}

-- ---- events, done
-- what an event does to the blocks, and to the plugged size of blocks of b bytes
unfoldable pub marks : Event → List Bool → List Bool
marks (PlugAck first count) bs = fill bs first count true
marks (UnplugAck first count) bs = fill bs first count false
marks (Discarded block) bs = fill bs block 1 false
marks UnplugAllAck bs = bs

unfoldable pub counts : (b : ℕ) → Event → ℕ → ℕ
counts b (PlugAck first count) size = size + bytes_of b count
counts b (UnplugAck first count) size = size - bytes_of b count
counts b (Discarded block) size = size - b
counts b UnplugAllAck size = 0

-- what must be so before it, in a region of n blocks: a plug finds all its blocks unplugged, an unplug all of them plugged, an unplug-all discards the lowest plugged block, and acknowledges where none is left
unfoldable pub could : Event → List Bool → (n : ℕ) → Bool
could (PlugAck first count) bs n = leb (first + count) n && all_are bs first count false
could (UnplugAck first count) bs n = leb (first + count) n && all_are bs first count true
could (Discarded block) bs n = ltb block n && (block_at bs block && all_are bs 0 block false)
could UnplugAllAck bs n = all_are bs 0 n false

-- of a list of events, newest first
unfoldable pub marked : List Event → List Bool → List Bool
marked [] bs = bs
marked (e ∷ es) bs = marks e (marked es bs)

unfoldable pub counted : (b : ℕ) → List Event → ℕ → ℕ
counted b [] size = size
counted b (e ∷ es) size = counts b e (counted b es size)

unfoldable pub all_could : List Event → List Bool → (n : ℕ) → Bool
all_could [] bs n = true
all_could (e ∷ es) bs n = all_could es bs n && could e (marked es bs) n

-- ---- R15.15: a restore
unfoldable pub all_plugs : List Event → Bool
all_plugs [] = true
all_plugs (e ∷ es) = was_plug (some e) && all_plugs es

-- R15.13: it is laid on a placed device, with no bit set and plugged 0, that waits for nothing and has its bitmap; the requested size is of the record's shape, and the plugs, one for each run, could happen one after the other inside the usable size
pub record CanRestore (w : World) (requested : ℕ) (plugs : List Event) : Type 0 where
  pub is_placed : w.device.placed ≡ true
  pub waits_for_nothing : w.device.pending ≡ Nothing
  pub is_long : region_blocks w ≤ length w.blocks
  pub none_set : all_are w.blocks 0 (region_blocks w) false ≡ true
  pub nothing_plugged : plugged w ≡ 0
  pub requested_fits : size_ok (block_size w) requested (region w) ≡ true
  pub only_plugs : all_plugs plugs ≡ true
  pub could_all : all_could plugs w.blocks (blocks_in (block_size w) (usable w)) ≡ true

-- R15.14
abbrev pub after_restore : World → (requested : ℕ) → (plugs : List Event) → World
after_restore w requested plugs =
    let d = w.device in
    record {
      device = config_to (config_with d.config (start w) (usable w) (counted (block_size w) plugs 0) requested) d;
      blocks = marked plugs w.blocks;
      rows = w.rows;
    }

-- those events alone
abbrev pub restored : World → (requested : ℕ) → (plugs : List Event) → Story
restored w requested plugs = record { world = after_restore w requested plugs; «open» = NoRequest; events = plugs }

-- ---- every point of every run
pub data Reached : Story → Type 0 where
  from_making : {d : Device} → Fresh d → Reached (begun d)
  by_call : {s : Story} → Reached s → (c : Call) → Reached (next s c)
  by_restore : {s : Story} {requested : ℕ} {plugs : List Event} → Reached s → CanRestore s.world requested plugs → Reached (restored s.world requested plugs)

-- the device as it was made
unfoldable pub made_as : {s : Story} → Reached s → Device
made_as (from_making {d} fresh) = d
made_as (by_call r c) = made_as r
made_as (by_restore r l) = made_as r
