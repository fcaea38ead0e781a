-- SPDX-License-Identifier: Apache-2.0 AND BSD-3-Clause
-- What the theorems ask of a device: sound rows, and that it is ready for a request. What they say of a proposal, and where planning and plugging leads.
use Rattle.std.specs.Prelude.{ℕ, zero, suc, ◌+◌, ◌-◌, ◌/◌, ◌%◌, ◌<◌, ◌≤◌, min, max, ◌≡◌, Bool, true, false, cond, not, ◌&&◌, ◌||◌, List, ◌⊎◌, eqb, length, take, Ok, Err}
use Rattle.units.specs.Numbers.{top, bytes_of, blocks_in, map_region}
use Rattle.units.specs.declared.GuestAddr.{GuestAddr}
use Rattle.bitmap.specs.Blocks.{block_at, all_are, ones, fill}
use Rattle.rows.specs.declared.MapRow.{MapRow}
use Rattle.rows.specs.Rows.{row_at}
use Rattle.wire.specs.declared.VirtioMemConfig.{VirtioMemConfig}
use Rattle.record.specs.Shape.{shaped_of, is_idle}
use Rattle.driver.specs.Plan.{Proposal, no_plug, border_after, plan_of}
use Rattle.step.specs.World.{World, Guest, Outcome}
use Rattle.record.specs.Changes.{plugged_to}
use Rattle.step.specs.Step.{block_size, usable, plugged, requested, start, several, region_blocks, region_rows, plugs}

-- R14.9: sound rows: each offset below the usable size lies in a mapped row, whose host address leaves room for it below 2^64 - 1
pub record SoundRows (several : Bool) (usable : ℕ) (rows : List MapRow) : Type 0 where
  pub mapped : (offset : ℕ) → offset < usable → (row_at rows (cond several (offset / map_region) 0)).mapped ≡ 0 → ⊥
  pub fits : (offset : ℕ) → offset < usable
      → (row_at rows (cond several (offset / map_region) 0)).host.0 + cond several (offset % map_region) offset < top

-- R14.9: a device that takes requests: shaped, nothing pending, placed, both tables long enough, and what is usable is mapped
pub record Ready (w : World) : Type 0 where
  pub shaped : shaped_of w.device ≡ true
  pub idle : is_idle w.device.pending ≡ true
  pub placed : w.device.placed ≡ true
  pub blocks_fit : region_blocks w ≤ length w.blocks
  pub rows_fit : region_rows w ≤ length w.rows
  pub sound : SoundRows (several w) (usable w) w.rows

-- `count` blocks from an address on are plugged, and ACK is the response
pub record PlugAcknowledged (w : World) (addr count status : ℕ) (g : Guest) (o : Outcome) : Type 0 where
  pub first : ℕ
  pub addr_is : addr ≡ start w + bytes_of (block_size w) first
  pub outcome : o ≡ plugs w first count status g

-- ---- R14.6, R14.7: a proposal starts at the lowest free block, and is as long as can be: one block more would meet a plugged block, the 2 GiB border, the usable end or the requested size
abbrev pub Stops : VirtioMemConfig → List Bool → (first n : ℕ) → Type 0
Stops c bs first n =
    (block_at bs (first + n) ≡ true)
    ⊎ ((first + n ≡ border_after c.block_size first)
    ⊎ ((first + n ≡ blocks_in c.block_size c.usable_region_size)
    ⊎ (c.requested_size < c.plugged_size + bytes_of c.block_size (suc n))))

pub record Greatest (c : VirtioMemConfig) (bs : List Bool) (addr : GuestAddr) (n : ℕ) : Type 0 where
  pub first : ℕ
  pub addr_is : addr.0 ≡ c.addr.0 + bytes_of c.block_size first
  pub all_below : all_are bs 0 first true ≡ true
  pub is_free : block_at bs first ≡ false
  pub stops : Stops c bs first n

-- ---- planning and plugging
-- what the planner gives for a device: it reads the config and the bitmap alone
abbrev pub planned : World → Proposal
planned w = plan_of w.device.config w.blocks

-- the world after an acknowledged plug
abbrev pub plugged_world : World → (first count : ℕ) → World
plugged_world w first count =
    record {
      device = plugged_to (plugged w + bytes_of (block_size w) count) w.device;
      blocks = fill w.blocks first count true;
      rows = w.rows;
    }

-- the world that the plug of a proposal leaves, and planning and plugging k times
unfoldable pub drive_at : Proposal → World → World
drive_at (Ok plug) w = plugged_world w (blocks_in (block_size w) (plug.addr.0 - start w)) plug.nb_blocks
drive_at (Err why) w = w

unfoldable pub drives : ℕ → World → World
drives zero w = w
drives (suc k) w = drives k (drive_at (planned w) w)

-- ---- where it leads
-- the blocks of the usable part, and how many of them are plugged
abbrev pub usable_blocks : World → ℕ
usable_blocks w = blocks_in (block_size w) (usable w)

abbrev pub plugged_blocks : World → ℕ
plugged_blocks w = ones (take (usable_blocks w) w.blocks)

-- the plugged size is that of the plugged blocks in the usable part
abbrev pub Counted : World → Type 0
Counted w = plugged w ≡ bytes_of (block_size w) (plugged_blocks w)

-- R14.11: planning and plugging has ended: the planner gives 17, and the plugged size is the smaller of the requested and the usable size, or what it was where that was more already; the requested and the usable size are as they were
pub record There (from to : World) : Type 0 where
  pub spent : planned to ≡ no_plug
  pub size : plugged to ≡ max (plugged from) (min (requested from) (usable from))
  pub same_requested : requested to ≡ requested from
  pub same_usable : usable to ≡ usable from

-- block i is the first of a run of free blocks: the one before it is plugged, or it lies at a 2 GiB border of offsets, as every `per` blocks one does
unfoldable pub begins_run : (per : ℕ) → List Bool → ℕ → Bool
begins_run per bs i = not (block_at bs i) && (eqb (i % per) 0 || block_at bs (i - 1))

-- the runs that begin below block n
unfoldable pub runs_below : (per : ℕ) → List Bool → ℕ → ℕ
runs_below per bs zero = 0
runs_below per bs (suc n) = cond (begins_run per bs n) 1 0 + runs_below per bs n

-- the runs of free blocks in the usable part
abbrev pub free_runs : World → ℕ
free_runs w = runs_below (blocks_in (block_size w) map_region) w.blocks (usable_blocks w)
