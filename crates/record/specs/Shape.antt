-- SPDX-License-Identifier: Apache-2.0 AND BSD-3-Clause
-- The shape of a record (R3), test by test; the shape of a config alone; and the few numbers that a record is read by. b is the block size.
use Rattle.std.specs.Prelude.{ℕ, ◌+◌, ◌*◌, ◌%◌, ◌^◌, Bool, true, false, cond, not, ◌&&◌, ◌||◌, leb, ltb, eqb}
use Rattle.units.specs.Numbers.{MiB, GiB, TiB, top, bytes_of, blocks_in, map_region, map_regions}
use Rattle.wire.specs.declared.VirtioMemConfig.{VirtioMemConfig}
use Rattle.record.specs.declared.Device.{Device}
use Rattle.record.specs.declared.Pending.{Pending}
use Rattle.record.specs.declared.Pending.TheVariants.{Nothing, Create, Discard, DiscardOne}

-- R3.4: the alignments
unfoldable pub alignment_ok : ℕ → Bool
alignment_ok a = eqb a (128 * MiB) || (eqb a (256 * MiB) || (eqb a (512 * MiB) || (eqb a GiB || eqb a (2 * GiB))))

-- R3.4: the alignment and the region
unfoldable pub region_ok : (region alignment : ℕ) → Bool
region_ok region alignment =
    alignment_ok alignment && (ltb 0 region && (eqb (region % (2 * alignment)) 0 && leb region TiB))

-- R3.5: one of the three sizes
unfoldable pub size_ok : (b size region : ℕ) → Bool
size_ok b size region = eqb (size % b) 0 && leb size region

-- R1.4: what is added to the start
unfoldable pub span_of : (region : ℕ) (several : Bool) → ℕ
span_of region several = cond several (map_regions region several * map_region) region

-- R1.4, R3.6: the start is not refused
unfoldable pub start_ok : (start region : ℕ) (several : Bool) (alignment : ℕ) → Bool
start_ok start region several alignment = eqb (start % alignment) 0 && leb (start + span_of region several) top

-- R3.7
unfoldable pub several_ok : (several : Bool) (region : ℕ) → Bool
several_ok several region = not several || ltb map_region region

-- R3.8
unfoldable pub pending_ok : Pending → (b region : ℕ) (several : Bool) (plugged : ℕ) → Bool
pending_ok Nothing b region several plugged = true
pending_ok (Create first last) b region several plugged = leb first last && ltb last (map_regions region several)
pending_ok (Discard first count status) b region several plugged =
    leb (first + count) (blocks_in b region) && leb (bytes_of b count) plugged
pending_ok (DiscardOne block status) b region several plugged = ltb block (blocks_in b region)

-- R3.2, R3.3, R1.12: the whole shape. It asks nothing of the node, the feature number and whether the device is placed (R3.9)
unfoldable pub shaped_of : Device → Bool
shaped_of d =
    let c = d.config in
    let b = c.block_size in
    let region = c.region_size in
    eqb b (4 * MiB)
    && (region_ok region d.alignment
    && (size_ok b c.requested_size region
    && (size_ok b c.usable_region_size region
    && (size_ok b c.plugged_size region
    && (start_ok c.addr.0 region d.several d.alignment
    && (several_ok d.several region
    && pending_ok d.pending b region d.several c.plugged_size))))))

-- the record with the weakest shape that a config can stand in
abbrev pub of_config : VirtioMemConfig → Device
of_config c =
    record {
      config = c;
      alignment = 128 * MiB;
      several = false;
      avail_features = 2 ^ 32;
      placed = true;
      pending = Nothing;
    }

-- R3.10: the shape of a config alone, which the config of every record that has the shape has (`config-shaped_of`)
unfoldable pub config_shaped_of : VirtioMemConfig → Bool
config_shaped_of c = shaped_of (of_config c)

-- no host call is pending
abbrev pub is_idle : Pending → Bool
is_idle Nothing = true
is_idle (Create first last) = false
is_idle (Discard first count status) = false
is_idle (DiscardOne block status) = false

-- R4.6: the feature number
abbrev pub features_of : (node : Bool) → ℕ
features_of node = 2 ^ 32 + cond node (2 ^ 0) 0
