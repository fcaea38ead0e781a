-- SPDX-License-Identifier: Apache-2.0 AND BSD-3-Clause
-- How the private functions of `shaped` group its tests; its own promise does not rest on it.
use Rattle.std.specs.Prelude.{ℕ, ◌+◌, ◌%◌, Bool, ◌&&◌, leb, eqb}
use Rattle.units.specs.Numbers.{top}
use Rattle.record.specs.declared.Pending.{Pending}
use Rattle.record.specs.Shape.{span_of, several_ok, pending_ok}

-- three sizes are multiples of the block size
abbrev pub blocks_ok : (b requested usable plugged : ℕ) → Bool
blocks_ok b requested usable plugged = eqb (requested % b) 0 && (eqb (usable % b) 0 && eqb (plugged % b) 0)

-- .. and at most the region
abbrev pub inside_ok : (requested usable plugged region : ℕ) → Bool
inside_ok requested usable plugged region = leb requested region && (leb usable region && leb plugged region)

-- the last tests: of a single region that waits for nothing, its end alone is left
unfoldable pub rest_ok : (b start region : ℕ) (several : Bool) (pending : Pending) (plugged : ℕ) → Bool
rest_ok b start region several pending plugged =
    leb (start + span_of region several) top && (several_ok several region && pending_ok pending b region several plugged)
