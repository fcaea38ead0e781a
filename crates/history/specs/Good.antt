-- SPDX-License-Identifier: Apache-2.0 AND BSD-3-Clause
-- A good story: what every run keeps, said of one point. A newly made device is one (`fresh_good`), so is a restored one (`good_restored`), and every call leaves one (`good_kept`); so whatever starts at a good story goes on as a run does.
use Rattle.std.specs.Prelude.{ℕ, ◌+◌, ◌*◌, ◌≤◌, ◌<◌, ◌≡◌, Bool, true, false, cond, List, [], eqb, length}
use Rattle.units.specs.Numbers.{top, map_region, map_regions}
use Rattle.bitmap.specs.Blocks.{block_at}
use Rattle.rows.specs.declared.MapRow.{MapRow}
use Rattle.rows.specs.Rows.{row_at}
use Rattle.record.specs.declared.Pending.{Pending}
use Rattle.record.specs.declared.Pending.TheVariants.{Nothing, Create, Discard, DiscardOne}
use Rattle.record.specs.Shape.{shaped_of}
use Rattle.resize.specs.Resize.{growth_of, creation}
use Rattle.step.specs.World.{World}
use Rattle.step.specs.Step.{block_size, region, several, usable, plugged, new_usable, region_blocks, tables_fit}
use Rattle.history.specs.History.{UnplugAck, Discarded, NoRequest, open_of, Story, Demand3}
use Rattle.history.specs.Reached.{could}

-- what is asked for is due: the blocks of an unplug are all plugged, the block of an unplug-all is the lowest that is plugged, and the first row of a creation has no mapping; so what the host has done is not asked for again
unfoldable pub due : Pending → List Bool → List MapRow → (n : ℕ) → Bool
due Nothing bs rows n = true
due (Create first last) bs rows n = eqb (row_at rows first).mapped 0
due (Discard first count status) bs rows n = could (UnplugAck first count) bs n
due (DiscardOne block status) bs rows n = could (Discarded block) bs n

-- ---- the host has memory for the usable size
-- what a row maps: 2 GiB, or the whole of a single region
abbrev pub row_size : (region : ℕ) (several : Bool) → ℕ
row_size region several = cond several map_region region

pub record Memory (region : ℕ) (several : Bool) (usable new : ℕ) (placed : Bool) (pending : Pending) (rows : List MapRow) : Type 0 where
  -- nothing is usable before placing
  pub early : placed ≡ false → usable ≡ 0
  -- no mapping passes 2^64 - 1
  pub fits : (r : ℕ) → r < map_regions region several → ((row_at rows r).mapped ≡ 0 → ⊥) → (row_at rows r).host.0 + row_size region several ≤ top
  -- each row that begins below the usable size is mapped, and the row of a single region once it is placed
  pub below : (r : ℕ) → r * map_region < usable → r < map_regions region several → (row_at rows r).mapped ≡ 0 → ⊥
  pub single : several ≡ false → placed ≡ true → (row_at rows 0).mapped ≡ 0 → ⊥
  -- the creation that is pending is the one that the usable size needs
  pub asked : (i last : ℕ) → pending ≡ Create i last → several ≡ true → (size : ℕ) × (growth_of region several usable new rows ≡ creation i last size)

abbrev pub InMemory : World → Type 0
InMemory w = Memory (region w) (several w) (usable w) (new_usable w) w.device.placed w.device.pending w.rows

-- ---- a device that is not placed: no event yet, nothing open, nothing plugged
pub record Early (s : Story) : Type 0 where
  pub no_event : s.events ≡ []
  pub nothing_open : open_of s.world.device.pending ≡ NoRequest
  pub nothing_plugged : plugged s.world ≡ 0

-- every plugged block begins in the usable size
abbrev pub AllInside : World → Type 0
AllInside w = (i : ℕ) → i < region_blocks w → block_at w.blocks i ≡ true → i * block_size w < usable w

abbrev pub TablesFit : World → Type 0
TablesFit w = tables_fit w.device (length w.blocks) (length w.rows) ≡ true

pub record Good (s : Story) : Type 0 where
  pub shaped : shaped_of s.world.device ≡ true
  -- demand 3
  pub told : Demand3 s.world s.events
  -- what an observer of calls and answers holds open is what is pending
  pub opened : open_of s.world.device.pending ≡ s.«open»
  pub is_due : due s.world.device.pending s.world.blocks s.world.rows (region_blocks s.world) ≡ true
  pub early : s.world.device.placed ≡ false → Early s
  pub fits : s.world.device.placed ≡ true → TablesFit s.world
  pub inside : AllInside s.world
  pub mapped : InMemory s.world
