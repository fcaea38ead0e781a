-- SPDX-License-Identifier: Apache-2.0 AND BSD-3-Clause
-- Plug, unplug and state of a range of blocks (R10), over numbers, the list of blocks and the list of rows; b is the block size.
use Rattle.units.specs.declared.HostAddr.{HostAddr}
use Rattle.std.specs.Prelude.{ℕ, ◌+◌, ◌-◌, ◌/◌, ◌%◌, Bool, true, false, cond, not, List, leb, ltb, eqb, take, Option, Some, None, Ok, Err, Result}
use Rattle.bitmap.specs.Blocks.{every, range, all_are}
use Rattle.rows.specs.declared.MapRow.{MapRow}
use Rattle.rows.specs.Rows.{mapping_of}
use Rattle.units.specs.Numbers.{top, bytes_of, blocks_in, map_region}
use Rattle.units.specs.declared.RegionOffset.{RegionOffset}
use Rattle.units.specs.declared.HostAddr.{HostAddr}
use Rattle.change.specs.declared.Change.{Change}
use Rattle.change.specs.declared.Reason.{Reason}
use Rattle.change.specs.declared.Reason.TheVariants.{Alignment, ZeroBlocks, Overflow, BelowStart, PastUsable, EndPastUsable, WrongState, CrossesBorder, Unmapped, SumPasses}

-- R10.4: the range lies between the start and the start plus the usable size, or begins before it, begins past it, or ends past it
unfoldable pub inside_of : (start usable addr size : ℕ) → Result RegionOffset Reason
inside_of start usable addr size =
    cond (ltb addr start) (Err BelowStart)
    (cond (leb (start + usable) addr) (Err PastUsable)
    (cond (ltb (start + usable) (addr + size)) (Err EndPastUsable)
    (Ok (record { 0 = addr - start }))))

-- R10.4: test (b)
unfoldable pub range_of : (b start usable addr count : ℕ) → Result RegionOffset Reason
range_of b start usable addr count =
    cond (not (eqb (addr % b) 0)) (Err Alignment)
    (cond (eqb count 0) (Err ZeroBlocks)
    (cond (ltb top (addr + bytes_of b count)) (Err Overflow)
    (inside_of start usable addr (bytes_of b count))))

-- R10.6: the host sum, of the row's host address, the offset and the size
unfoldable pub host_sum : (host offset size : ℕ) → Result HostAddr Reason
host_sum host offset size = cond (ltb top (host + offset + size)) (Err SumPasses) (Ok (record { 0 = host + offset }))

-- R10.6: the row is mapped, then the host sum
unfoldable pub host_in : Option HostAddr → (offset size : ℕ) → Result HostAddr Reason
host_in (Some host) offset size = host_sum host.0 offset size
host_in None offset size = Err Unmapped

-- R8.4: the row of an offset
abbrev pub row_of : (several : Bool) (offset : ℕ) → ℕ
row_of several offset = cond several (offset / map_region) 0

-- R10.6: test (d). That the row is in the table is not tested (R10.7): it is (`row_in_table` of `step`)
unfoldable pub host_of : (several : Bool) → List MapRow → (offset size : ℕ) → Result HostAddr Reason
host_of several rows offset size =
    cond several
    (cond (ltb map_region (offset % map_region + size)) (Err CrossesBorder)
    (host_in (mapping_of rows (row_of several offset)) (offset % map_region) size))
    (host_in (mapping_of rows (row_of several offset)) offset size)

-- a change that passed every test
abbrev pub legal : (first : ℕ) → RegionOffset → HostAddr → Result Change Reason
legal first offset host = Ok (record { first = first; offset = offset; host = host })

-- the change that passed (b) and (c), by (d): its first block, its offset and its host address
unfoldable pub legal_at : (b offset : ℕ) → Result HostAddr Reason → Result Change Reason
legal_at b offset (Ok host) = legal (blocks_in b offset) (record { 0 = offset }) host
legal_at b offset (Err reason) = Err reason

-- R10.5: test (c), then (d), of a range that passed (b)
unfoldable pub change_in : Result RegionOffset Reason → (b : ℕ) (several : Bool) (count : ℕ) (wanted : Bool) → List Bool → List MapRow → Result Change Reason
change_in (Ok offset) b several count wanted blocks rows =
    cond (all_are blocks (blocks_in b offset.0) count (not wanted))
    (legal_at b offset.0 (host_of several rows offset.0 (bytes_of b count)))
    (Err WrongState)
change_in (Err reason) b several count wanted blocks rows = Err reason

-- R10.2: (b), (c), (d) in their order; `wanted` is true for a plug
abbrev pub change_of : (b start usable : ℕ) (several : Bool) (addr count : ℕ) (wanted : Bool) → List Bool → List MapRow → Result Change Reason
change_of b start usable several addr count wanted blocks rows =
    change_in (range_of b start usable addr count) b several count wanted blocks rows

-- R7.4, R10.16: all plugged, all unplugged, or mixed; no block at all is 0
unfoldable pub state_in : List Bool → ℕ
state_in blocks = cond (every true blocks) 0 (cond (every false blocks) 1 2)

-- R10.16. That it is 0 where there are no blocks is proved: `state_none_there`, `state_below_start`, `state_no_blocks`
unfoldable pub state_of : (b start region addr count : ℕ) → List Bool → ℕ
state_of b start region addr count blocks =
    cond (ltb addr start) 0 (state_in (range (take (blocks_in b region) blocks) (blocks_in b (addr - start)) count))
