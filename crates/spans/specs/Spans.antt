-- SPDX-License-Identifier: Apache-2.0 AND BSD-3-Clause
-- The numbers that sentences tell: sizes and offsets in MiB, the range that a line is about, and what a creation asks for.
use Rattle.std.specs.Prelude.{ℕ, ◌+◌, ◌-◌, ◌*◌, ◌/◌, cond}
use Rattle.units.specs.Numbers.{MiB, saturated, bytes_of, blocks_in, map_region}
use Rattle.record.specs.declared.Device.{Device}
use Rattle.record.specs.declared.Pending.{Pending}
use Rattle.record.specs.declared.Pending.TheVariants.{Nothing, Create, Discard, DiscardOne}
use Rattle.resize.specs.Resize.{creation_size}
use Rattle.trace_text.specs.declared.Op.{Op}
use Rattle.trace_text.specs.declared.Op.TheVariants.{Host, Range, UnplugAll, Size}
use Rattle.spans.specs.declared.Span.{Span}

-- the sizes of a record with the shape are whole MiB
abbrev pub in_mib : ℕ → ℕ
in_mib n = n / MiB

-- a range of blocks at a guest address: its first block, and in MiB its offset and its size
abbrev pub span_at : (addr blocks : ℕ) → Device → Span
span_at addr blocks d =
    let b = d.config.block_size in
    let offset = addr - d.config.addr.0 in
    record { addr = addr; first = blocks_in b offset; blocks = blocks; offset = in_mib offset; size = in_mib (saturated (bytes_of b blocks)) }

-- a range of blocks from a block on
abbrev pub span_from : (block blocks : ℕ) → Device → Span
span_from block blocks d = span_at (saturated (d.config.addr.0 + saturated (bytes_of d.config.block_size block))) blocks d

-- a range of no blocks, at the start: of what is about no range
abbrev pub no_span : Device → Span
no_span d = span_at d.config.addr.0 0 d

-- the blocks that the device waits for the host to discard
unfoldable pub pending_span : Pending → Device → Span
pending_span Nothing d = no_span d
pending_span (Create first last) d = no_span d
pending_span (Discard first count status) d = span_from first count d
pending_span (DiscardOne block status) d = span_from block 1 d

-- the range that a line is about; the host's answer is about what was asked of it
unfoldable pub op_span : Op → Device → Span
op_span (Host ok addr) d = pending_span d.pending d
op_span (Range op addr blocks) d = span_at addr.0 blocks d
op_span UnplugAll d = no_span d
op_span (Size mib) d = no_span d

-- the number that the owner or the host brings: a size in MiB, or a host address
unfoldable pub brought : Op → ℕ
brought (Host ok addr) = addr.0
brought (Range op addr blocks) = 0
brought UnplugAll = 0
brought (Size mib) = mib

-- R6.6: what a creation of the rows i to last was asked for: the guest address, and the size
abbrev pub created_at : Device → (i : ℕ) → ℕ
created_at d i = saturated (d.config.addr.0 + saturated (i * map_region))

abbrev pub created_size : Device → (i last : ℕ) → ℕ
created_size d i last = saturated (creation_size d.config.region_size d.several i last)

-- R1.9: what the answered host address must have room for
unfoldable pub covered_by : Device → (i last : ℕ) → ℕ
covered_by d i last = cond d.several (saturated ((saturated (last + 1) - i) * map_region)) d.config.region_size

unfoldable pub covered : Pending → Device → ℕ
covered Nothing d = 0
covered (Create i last) d = covered_by d i last
covered (Discard first count status) d = 0
covered (DiscardOne block status) d = 0
