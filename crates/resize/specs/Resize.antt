-- SPDX-License-Identifier: Apache-2.0 AND BSD-3-Clause
-- The usable size and the one creation that it may ask for (R6), over numbers and the list of rows; b is the block size.
use Rattle.std.specs.Prelude.{ℕ, ◌+◌, ◌-◌, ◌*◌, ◌/◌, min, max, Bool, cond, ◌&&◌, List, ltb, eqb, Option, Some, None}
use Rattle.rows.specs.declared.MapRow.{MapRow}
use Rattle.rows.specs.Rows.{first_unmapped}
use Rattle.units.specs.Numbers.{map_region, map_regions}
use Rattle.resize.specs.declared.Creation.{Creation}

-- R6.1
unfoldable pub new_size : (b region requested alignment : ℕ) → ℕ
new_size b region requested alignment = cond (eqb requested 0) 0 (min region (requested + 2 * alignment) / b * b)

-- R6.2
abbrev pub grown : (usable new : ℕ) → ℕ
grown usable new = max usable new

-- R6.4: the row in which a size ends, at most the last row
abbrev pub end_row : (region : ℕ) (several : Bool) (size : ℕ) → ℕ
end_row region several size = min (size / map_region) (map_regions region several - 1)

-- R6.6: the bytes of the creation
unfoldable pub creation_size : (region : ℕ) (several : Bool) (i last : ℕ) → ℕ
creation_size region several i last =
    (last - i) * map_region + cond (eqb (last + 1) (map_regions region several)) (region - last * map_region) map_region

-- a creation of the rows from i to last
abbrev pub creation : (i last size : ℕ) → Option Creation
creation i last size = Some (record { first = i; last = last; size = size })

-- R6.6: one creation covers i to last
unfoldable pub growth_at : Option ℕ → (region : ℕ) (several : Bool) (last : ℕ) → Option Creation
growth_at (Some i) region several last = creation i last (creation_size region several i last)
growth_at None region several last = None

-- R6.4, R6.5: what the growth of the usable size asks for
unfoldable pub growth_of : (region : ℕ) (several : Bool) (usable new : ℕ) → List MapRow → Option Creation
growth_of region several usable new rows =
    cond (several && ltb usable new)
    (growth_at (first_unmapped rows (end_row region several usable) (end_row region several new)) region several (end_row region several new))
    None
