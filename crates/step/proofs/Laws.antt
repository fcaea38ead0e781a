-- SPDX-License-Identifier: Apache-2.0 AND BSD-3-Clause
-- What the endings of a call do and leave alone: each plug and unplug is of its whole range, an unplug-all of its blocks one by one, and an ending that is no ACK changes nothing but the response.
use Prim.Native.Nat.{ℕ, ◌+◌, ◌-◌, ◌≤◌, ◌<◌}
use mathlib.Core.Path.{◌≡◌, refl}
use mathlib.Core.Bool.{true, false}
use native.Mathlib.Omega.{arith}
use lib.ListN.{length}
use Rattle.units.specs.Numbers.{bytes_of}
use Rattle.units.specs.declared.GuestAddr.{GuestAddr}
use Rattle.bitmap.specs.Blocks.{block_at}
use Rattle.bitmap.proofs.Laws.{at_inside, at_before, at_after}
use Rattle.step.specs.declared.Verdict.{Verdict}
use Rattle.record.specs.declared.Pending.TheVariants.{Discard}
use Rattle.step.specs.World.{World, Guest}
use Rattle.step.specs.Step.{block_size, plugged, Untouched, served, plugs, asks_discard, unplugs, stops, asks_one, cleared, ends_all, host_answer}

module _ (w : World) (first count status : ℕ) (g : Guest) where
  -- ---- an acknowledged plug sets exactly its blocks, and adds their size
  pub plug_inside : (i : ℕ) → first ≤ i → i < first + count → i < length w.blocks → block_at (plugs w first count status g).world.blocks i ≡ true
  plug_inside i l h e = at_inside w.blocks first count true i l h e

  pub plug_before : (i : ℕ) → i < first → block_at (plugs w first count status g).world.blocks i ≡ block_at w.blocks i
  plug_before i h = at_before w.blocks first count true i h

  pub plug_behind : (i : ℕ) → first + count ≤ i → block_at (plugs w first count status g).world.blocks i ≡ block_at w.blocks i
  plug_behind i h = at_after w.blocks first count true i h

  pub plug_adds : plugged (plugs w first count status g).world ≡ plugged w + bytes_of (block_size w) count
  plug_adds = refl

  -- ---- an acknowledged unplug clears exactly its blocks, and takes their size off
  pub unplug_inside : (i : ℕ) → first ≤ i → i < first + count → i < length w.blocks → block_at (unplugs w first count status g).world.blocks i ≡ false
  unplug_inside i l h e = at_inside w.blocks first count false i l h e

  pub unplug_before : (i : ℕ) → i < first → block_at (unplugs w first count status g).world.blocks i ≡ block_at w.blocks i
  unplug_before i h = at_before w.blocks first count false i h

  pub unplug_behind : (i : ℕ) → first + count ≤ i → block_at (unplugs w first count status g).world.blocks i ≡ block_at w.blocks i
  unplug_behind i h = at_after w.blocks first count false i h

  pub unplug_subtracts : plugged (unplugs w first count status g).world ≡ plugged w - bytes_of (block_size w) count
  unplug_subtracts = refl

-- ---- a block of an unplug-all that the host has discarded is cleared, no other is, and its size is taken off at once
module _ (w : World) (block : ℕ) where
  pub one_inside : block < length w.blocks → block_at (cleared w block).blocks block ≡ false
  one_inside e = at_inside w.blocks block 1 false block (omega arith) (omega arith) e

  pub one_before : (i : ℕ) → i < block → block_at (cleared w block).blocks i ≡ block_at w.blocks i
  one_before i h = at_before w.blocks block 1 false i h

  pub one_behind : (i : ℕ) → block < i → block_at (cleared w block).blocks i ≡ block_at w.blocks i
  one_behind i h = at_after w.blocks block 1 false i (omega arith)

  pub one_subtracts : plugged (cleared w block) ≡ plugged w - block_size w
  one_subtracts = refl

-- ---- asking takes nothing: blocks and size go when the host has answered
pub asking_takes_nothing : (w : World) (first count offset host status : ℕ) (g : Guest) → Untouched w (asks_discard w first count offset host status g).world × Untouched w (asks_one w first offset host status g).world
asking_takes_nothing w first count offset host status g =
    (record { same_blocks = refl; same_rows = refl; same_plugged = refl }, record { same_blocks = refl; same_rows = refl; same_plugged = refl })

-- ---- nor does a discard that failed, also of an unplug-all (R10.13): cleared blocks stay cleared, and what they took off stays taken off
pub failure_takes_nothing : (why : ℕ) (w : World) (status : ℕ) (g : Guest) → Untouched w (stops why w status g).world
failure_takes_nothing why w status g = record { same_blocks = refl; same_rows = refl; same_plugged = refl }

-- ---- NACK and ERROR change nothing but the response
pub response_alone : (v : Verdict) (status : ℕ) (w : World) (g : Guest) → (served v status w g).world ≡ w
response_alone v status w g = refl

-- ---- R10.14
pub all_leaves_none : (w : World) (status : ℕ) (g : Guest) → (plugged (ends_all w status g).world ≡ 0) × ((ends_all w status g).world.device.config.usable_region_size ≡ w.device.config.usable_region_size)
all_leaves_none w status g = (refl, refl)

-- ---- R9.9: the answer to a discard reads neither the request nor the status address from guest memory
pub answer_reads_no_request : (first count host : ℕ) (status : GuestAddr) (w : World) (g : Guest) → host_answer (Discard first count status) w g true host ≡ unplugs w first count status.0 g
unfolding host_answer
answer_reads_no_request first count host status w g = refl
