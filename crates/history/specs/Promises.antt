-- SPDX-License-Identifier: Apache-2.0 AND BSD-3-Clause
-- What any call may do to the sizes of any device, from every world: no run and no sound bitmap is asked for.
use Rattle.std.specs.Prelude.{max, ◌≤◌, ◌≡◌, true, false}
use Rattle.step.specs.World.{World, Call, Outcome}
use Rattle.step.specs.Step.{block_size, region, usable, plugged, requested}
use Rattle.history.specs.Rules.{is_size_change}

pub record Moves (w : World) (c : Call) (w' : World) : Type 0 where
  -- the plugged size grows to the requested size at most
  pub plugs_within : plugged w' ≤ max (plugged w) (requested w)
  -- only a size change moves the requested size
  pub requested_stays : is_size_change c ≡ false → requested w' ≡ requested w
  -- the usable size never shrinks
  pub usable_grows : usable w ≤ usable w'
  -- the block size and the region are as they were made
  pub same_block_size : block_size w' ≡ block_size w
  pub same_region : region w' ≡ region w
  -- what is placed stays placed
  pub stays_placed : w.device.placed ≡ true → w'.device.placed ≡ true

abbrev pub MovesSizes : World → Call → Outcome → Type 0
MovesSizes w c o = Moves w c o.world
