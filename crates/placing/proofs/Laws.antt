-- SPDX-License-Identifier: Apache-2.0 AND BSD-3-Clause
-- How the outcomes of placing and of a size change come about, test by test.
use Rattle.std.specs.Prelude.{Option, Some, None}
use Prim.Native.Nat.{ℕ, ◌+◌, ◌*◌, ◌≤◌}
use mathlib.Core.Path.{◌≡◌}
use mathlib.Core.Bool.{true, false}
use mathlib.Core.List.{List, []}
use native.Mathlib.Omega.{arith}
use Rattle.units.specs.Numbers.{top, map_region, map_regions}
use Rattle.bitmap.specs.Blocks.{blocks}
use Rattle.rows.specs.declared.MapRow.{MapRow}
use Rattle.rows.specs.Rows.{written}
use Rattle.record.specs.declared.Device.{Device}
use Rattle.record.specs.Shape.{shaped_of}
use Rattle.record.proofs.Laws.{shaped_is, span_several}
use Rattle.resize.specs.declared.Creation.{Creation}
use Rattle.resize.specs.Resize.{growth_of, creation}
use Rattle.resize.proofs.Laws.{asking}
use Rattle.step.specs.declared.Answered.{Answered}
use Rattle.step.specs.World.{World, answered_by}
use Rattle.step.specs.Step.{several, region, resizes, resized, asks_create, placing}
use Rattle.step.specs.Promise.{Lent, Gives}
use Rattle.step.proofs.Giving.{as_answered}

-- ---- the usable size
-- where it is worked out, and where a creation is asked for, no table is touched
pub resizes_gives : (g : Option Creation) (w : World) (before after : Lent) (s : Answered) → s ≡ answered_by (resizes g (record { device = w.device; blocks = blocks []; rows = w.rows })) → blocks after.bitmap ≡ w.blocks → after.table ≡ written before.table w.rows → after.bytes ≡ [] → Gives (resizes g w) before after s
unfolding resizes
resizes_gives None w before after s e m n b = as_answered _ before after s e (record { marked = m; mapped = n; left = b })
resizes_gives (Some made) w before after s e m n b = as_answered _ before after s e (record { marked = m; mapped = n; left = b })

-- the map region of a creation starts at or below 2^64 - 1
pub asked_within : (d : Device) → shaped_of d ≡ true → (usable new : ℕ) (rows : List MapRow) (i last size : ℕ) → growth_of d.config.region_size d.several usable new rows ≡ creation i last size → d.config.addr.0 + i * map_region ≤ top
asked_within d e usable new rows i last size g =
    let region = d.config.region_size in
    let s = shaped_is d e in
    let a = asking region d.several usable new rows i last size g in
    let f = a.search in
    let p = span_several region d.several (rw a.regions) in
    let m : map_regions region d.several ≡ map_regions region true = rw a.regions in
    omega (arith, s.start_span, s.rows_some, a.ends, f.to, p)

-- ---- placing: what is asked first, of several regions and of a single one
pub placing-several : (w : World) → several w ≡ true → placing w ≡ resized w
unfolding placing
placing-several w e = rw e

pub placing_single : (w : World) → several w ≡ false → placing w ≡ asks_create w 0 0 (region w)
unfolding placing
placing_single w e = rw e
