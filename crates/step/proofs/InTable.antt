-- SPDX-License-Identifier: Apache-2.0 AND BSD-3-Clause
-- Request 2/12: the row that test (d) looks at is in the table, so that (d) never looks past the table's end, where nothing is mapped (`row_at`).
use Rattle.std.specs.Prelude.{Ok}
use Prim.Native.Nat.{ℕ, ◌+◌, ◌*◌, ◌<◌}
use mathlib.Core.Path.{◌≡◌}
use mathlib.Core.Bool.{Bool, true, false}
use native.Mathlib.Omega.{arith}
use lib.Dec.{leb}
use lib.ListN.{length}
use borrow.Author.Tests.{leb-true}
use Rattle.units.specs.Numbers.{bytes_of, map_regions}
use Rattle.units.specs.declared.RegionOffset.{RegionOffset}
use Rattle.units.proofs.Tests.{and_right}
use Rattle.bitmap.proofs.Laws.{fill_length}
use Rattle.wire.specs.declared.VirtioMemReq.{VirtioMemReq}
use Rattle.record.specs.Shape.{shaped_of}
use Rattle.record.proofs.Laws.{shaped_is, block_less_keeps}
use Rattle.change.specs.Change.{range_of, row_of}
use Rattle.change.proofs.Laws.{inside_is}
use Rattle.step.specs.World.{World}
use Rattle.step.specs.Step.{block_size, region, usable, start, several, cleared, tables_fit, ready_refusal, pending_refusal}
use Rattle.step.proofs.Entry.{ready_is, waits_is}

-- ---- a range that passed (b) has its row in the table
abbrev pub RowInTable : World → (addr count : ℕ) → Type 0
RowInTable w addr count = (o : RegionOffset) → range_of (block_size w) (start w) (usable w) addr count ≡ Ok o → row_of (several w) o.0 < length w.rows

-- of offsets below the region, each lies in one of its map regions
row_counted : (region offset : ℕ) (several : Bool) → offset < region → row_of several offset < map_regions region several
unfolding map_regions
row_counted region offset true h = omega arith
row_counted region offset false h = omega arith

-- in every world whose record has the shape and whose tables have the length
pub row_in_table : (w : World) → shaped_of w.device ≡ true → tables_fit w.device (length w.blocks) (length w.rows) ≡ true → (addr count : ℕ) → RowInTable w addr count
unfolding tables_fit
row_in_table w shape fit addr count o e =
    let s = shaped_is w.device shape in
    let r = inside_is (block_size w) (start w) (usable w) addr count o e in
    let b = s.block_size in
    let size : bytes_of (block_size w) count ≡ count * 4194304 = rw b in
    let below : o.0 < region w = omega (arith, r.in_usable, r.some, s.usable_in) in
    let rows = leb-true _ (length w.rows) (and_right (leb _ (length w.blocks)) _ fit) in
    omega (arith, row_counted (region w) o.0 (several w) below, rows)

-- ---- at the entries
module _ (w : World) (ready : ready_refusal w.device (length w.blocks) (length w.rows) ≡ Ok tt) where
  in_table : (addr count : ℕ) → RowInTable w addr count
  in_table = let r = ready_is _ _ _ ready in row_in_table w r.shaped r.fits

  -- a plug, and an unplug
  pub request_row : (req : VirtioMemReq) → RowInTable w req.addr.0 req.nb_blocks
  request_row req = in_table req.addr.0 req.nb_blocks

  -- the first block of an unplug-all
  pub first_row : (block : ℕ) → RowInTable w (start w + bytes_of (block_size w) block) 1
  first_row block = in_table (start w + bytes_of (block_size w) block) 1

-- a block of it that was discarded leaves the shape and the lengths
module _ (w : World) (pending : pending_refusal w.device (length w.blocks) (length w.rows) ≡ Ok tt) (done : ℕ) where
  pub cleared_shaped : shaped_of (cleared w done).device ≡ true
  cleared_shaped = block_less_keeps w.device (waits_is _ _ _ pending).shaped

  pub cleared_fits : tables_fit (cleared w done).device (length (cleared w done).blocks) (length (cleared w done).rows) ≡ true
  unfolding tables_fit
  cleared_fits = rw (fill_length w.blocks done 1 false) (waits_is _ _ _ pending).fits

  -- each block that follows on it
  pub next_row : (block : ℕ) → RowInTable (cleared w done) (start w + bytes_of (block_size w) block) 1
  next_row block = row_in_table (cleared w done) cleared_shaped cleared_fits (start w + bytes_of (block_size w) block) 1
