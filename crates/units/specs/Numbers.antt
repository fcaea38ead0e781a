-- SPDX-License-Identifier: Apache-2.0 AND BSD-3-Clause
-- The device's numbers: sizes, blocks and map regions, the alignment, rounding, and what fits 64 bits; b is the block size.
use Rattle.std.specs.Prelude.{ℕ, ◌+◌, ◌-◌, ◌*◌, ◌/◌, ◌^◌, min, max, Bool, cond, ltb}
use Rattle.std.specs.Int.Count.{count_trailing_zeros}

abbrev pub MiB : ℕ
MiB = 1048576

abbrev pub GiB : ℕ
GiB = 1073741824

abbrev pub TiB : ℕ
TiB = 1099511627776

-- 2^64 - 1, which no address and no size passes
abbrev pub top : ℕ
top = 18446744073709551615

-- n where it fits 64 bits, and otherwise the largest number that does
abbrev pub saturated : ℕ → ℕ
saturated n = min n top

-- R10.1
abbrev pub bytes_of : (b blocks : ℕ) → ℕ
bytes_of b blocks = blocks * b

-- how many whole blocks a size holds
abbrev pub blocks_in : (b size : ℕ) → ℕ
blocks_in b size = size / b

-- R8.4: what one row of the map table maps, with several regions
abbrev pub map_region : ℕ
map_region = 2 * GiB

-- R4.5: the count of map regions
unfoldable pub map_regions : (region : ℕ) (several : Bool) → ℕ
map_regions region several = cond several ((region + (map_region - 1)) / map_region) 1

-- the exponent of the largest power of two that divides n (`twos_divides`, `twos_largest`)
unfoldable pub twos : ℕ → ℕ
twos n = count_trailing_zeros 64 n

-- an exponent, raised to that of 128 MiB or lowered to that of 2 GiB
abbrev pub between : ℕ → ℕ
between n = max 27 (min 31 n)

-- R4.2
unfoldable pub alignment_of : (boot : ℕ) → ℕ
alignment_of boot = cond (ltb boot (64 * GiB)) (128 * MiB) (2 ^ between (twos boot))

-- n rounded up to a multiple of `to`
unfoldable pub next_multiple : (n to : ℕ) → ℕ
next_multiple n to = (n + (to - 1)) / to * to

-- R4.3: the region of a capacity
abbrev pub capacity_of : (mib alignment : ℕ) → ℕ
capacity_of mib alignment = next_multiple (mib * MiB) (2 * alignment)
