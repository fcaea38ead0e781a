-- SPDX-License-Identifier: Apache-2.0 AND BSD-3-Clause
-- Which sentence a refusal brings (R12.13), with the numbers that matter: sizes and offsets in MiB, addresses in bytes.
use Rattle.std.specs.Prelude.{ℕ, ◌/◌, ◌%◌, ◌*◌, cond, List, [], ◌∷◌, ◌++◌, leb, eqb, Option, Some, None}
use Rattle.units.specs.Numbers.{MiB, alignment_of}
use Rattle.text.specs.Words.{bytes}
use Rattle.forms.specs.Forms.{filled}
use Rattle.record.specs.declared.Device.{Device}
use Rattle.record.specs.declared.Pending.{Pending}
use Rattle.record.specs.declared.Pending.TheVariants.{Nothing, Create, Discard, DiscardOne}
use Rattle.trace_text.specs.declared.FirstLine.{FirstLine}
use Rattle.trace_text.specs.declared.Op.{Op}
use Rattle.trace_text.specs.declared.Line.{Line}
use Rattle.trace_text.specs.declared.Line.TheVariants.{First, Later}
use Rattle.spans.specs.declared.Span.{Span}
use Rattle.spans.specs.Spans.{in_mib, pending_span, brought, created_at, created_size, covered}

-- ---- what the device waits for

abbrev pub waits_nothing : List ℕ
waits_nothing = filled (bytes "the device waits for nothing") []

abbrev pub waits_create : Device → (i : ℕ) → (last : ℕ) → List ℕ
waits_create d i last = filled (bytes "the device still waits for the host to create # MiB at guest address #") (in_mib (created_size d i last) ∷ created_at d i ∷ [])

abbrev pub waits_discard : Span → List ℕ
waits_discard s = filled (bytes "the device still waits for the host to discard offset # MiB") (s.offset ∷ [])

unfoldable pub waits_for : Pending → Span → Device → List ℕ
waits_for Nothing s d = waits_nothing
waits_for (Create i last) s d = waits_create d i last
waits_for (Discard first count status) s d = waits_discard s
waits_for (DiscardOne block status) s d = waits_discard s

abbrev pub waits_text : Device → List ℕ
waits_text d = waits_for d.pending (pending_span d.pending d) d

-- ---- what needs no number

-- R1.3
abbrev pub no_slots : List ℕ
no_slots = filled (bytes "refused (3): the slots are not one for each map region, or the range has not the region's size") []

-- R1.5
abbrev pub no_place : List ℕ
no_place = filled (bytes "refused (5): the device is in no place") []

-- R1.6
abbrev pub in_place : List ℕ
in_place = filled (bytes "refused (6): the device is in its place already") []

-- R1.8
abbrev pub not_asked : List ℕ
not_asked = filled (bytes "refused (8): the host was not asked anything") []

-- R1.11
abbrev pub too_short : List ℕ
too_short = filled (bytes "refused (11): the bitmap or the map table is too short") []

-- R1.12
abbrev pub no_shape : List ℕ
no_shape = filled (bytes "refused (12): the record has not the shape, or counts less than is to be unplugged") []

-- R1.13
abbrev pub no_line : List ℕ
no_line = filled (bytes "refused (13): this line is none that can stand here") []

abbrev pub other : (n : ℕ) → List ℕ
other n = filled (bytes "refused (#)") (n ∷ [])

unfoldable pub plain_text : (n : ℕ) → List ℕ
plain_text n =
    cond (eqb n 3) no_slots
    (cond (eqb n 5) no_place
    (cond (eqb n 6) in_place
    (cond (eqb n 8) not_asked
    (cond (eqb n 11) too_short
    (cond (eqb n 12) no_shape
    (cond (eqb n 13) no_line
    (other n)))))))

-- ---- the first line, which makes the device and places it

-- the block size of a new device, and its largest capacity, in MiB (R4.7, R1.2)
abbrev pub new_block : ℕ
new_block = in_mib (4 * MiB)

abbrev pub largest_capacity : ℕ
largest_capacity = 1048576

-- twice the alignment in MiB is the alignment in halves of a MiB
abbrev pub half_mib : ℕ
half_mib = MiB / 2

-- R1.1 in making: no capacity, no whole blocks, or above the region, which is the capacity rounded up
abbrev pub no_capacity : List ℕ
no_capacity = filled (bytes "refused (1): a capacity of 0 MiB makes no device") []

abbrev pub first_no_blocks : FirstLine → List ℕ
first_no_blocks f = filled (bytes "refused (1): # MiB is no multiple of the block size, # MiB") (f.requested_mib ∷ new_block ∷ [])

abbrev pub first_above : FirstLine → List ℕ
first_above f = filled (bytes "refused (1): # MiB is above the capacity, # MiB rounded up to a multiple of # MiB") (f.requested_mib ∷ f.capacity_mib ∷ alignment_of f.boot / half_mib ∷ [])

-- R1.2
abbrev pub too_large : FirstLine → List ℕ
too_large f = filled (bytes "refused (2): a capacity of # MiB is above # MiB") (f.capacity_mib ∷ largest_capacity ∷ [])

-- R1.4
abbrev pub past_top : FirstLine → List ℕ
past_top f = filled (bytes "refused (4): a region at address # passes 2^64 - 1") (f.addr.0 ∷ [])

abbrev pub not_aligned : FirstLine → List ℕ
not_aligned f = filled (bytes "refused (4): address # is no multiple of the alignment, # MiB") (f.addr.0 ∷ in_mib (alignment_of f.boot) ∷ [])

unfoldable pub first_size_text : FirstLine → List ℕ
first_size_text f =
    cond (eqb f.capacity_mib 0) no_capacity
    (cond (eqb (f.requested_mib % new_block) 0) (first_above f) (first_no_blocks f))

unfoldable pub start_text : FirstLine → List ℕ
start_text f = cond (eqb (f.addr.0 % alignment_of f.boot) 0) (past_top f) (not_aligned f)

unfoldable pub first_refused : (n : ℕ) → FirstLine → List ℕ
first_refused n f =
    cond (eqb n 1) (first_size_text f)
    (cond (eqb n 2) (too_large f)
    (cond (eqb n 4) (start_text f)
    (plain_text n)))

-- ---- a later line, with the record before and after it

-- R1.1 in a size change
abbrev pub no_blocks : (size : ℕ) → Device → List ℕ
no_blocks size d = filled (bytes "refused (1): # MiB is no multiple of the block size, # MiB") (size ∷ in_mib d.config.block_size ∷ [])

abbrev pub above_region : (size : ℕ) → Device → List ℕ
above_region size d = filled (bytes "refused (1): # MiB is above the region, # MiB") (size ∷ in_mib d.config.region_size ∷ [])

-- R1.9
abbrev pub host_past_top : (host : ℕ) → (size : ℕ) → List ℕ
host_past_top host size = filled (bytes "refused (9): host address # and # MiB more pass 2^64 - 1") (host ∷ in_mib size ∷ [])

-- R1.10; R2.9, R2.10: what is so after it
abbrev pub not_created : Device → List ℕ
not_created d = filled (bytes "the host could not create: requested is # MiB now, usable stays # MiB") (in_mib d.config.requested_size ∷ in_mib d.config.usable_region_size ∷ [])

abbrev pub not_placed : List ℕ
not_placed = filled (bytes "the host could not create: the device is in no place") []

unfoldable pub size_text : (size : ℕ) → Device → List ℕ
size_text size d = cond (leb size (in_mib d.config.region_size)) (no_blocks size d) (above_region size d)

unfoldable pub create_text : Device → List ℕ
create_text d = cond d.placed (not_created d) not_placed

-- R1.7
unfoldable pub busy_text : Device → List ℕ
busy_text d = filled (bytes "refused (7): ") [] ++ waits_text d

unfoldable pub later_refused : (n : ℕ) → Op → (before after : Device) → List ℕ
later_refused n op before after =
    cond (eqb n 1) (size_text (brought op) before)
    (cond (eqb n 7) (busy_text before)
    (cond (eqb n 9) (host_past_top (brought op) (covered before.pending before))
    (cond (eqb n 10) (create_text after)
    (plain_text n))))

-- ---- every line; a bad one is refused as 13 wherever it stands (R12.5)

unfoldable pub refused_text : (n : ℕ) → Option Line → (before after : Device) → List ℕ
refused_text n (Some (First f)) before after = first_refused n f
refused_text n (Some (Later op)) before after = later_refused n op before after
refused_text n None before after = plain_text n
