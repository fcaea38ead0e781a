-- SPDX-License-Identifier: Apache-2.0 AND BSD-3-Clause
-- In host memory: a creation begins behind the usable region, and each range of it that lies in one map region has one mapping.
use Prim.Native.Nat.{ℕ, ◌+◌, ◌*◌, ◌/◌, ◌%◌, ◌≤◌, ◌<◌}
use mathlib.Core.Path.{◌≡◌, refl}
use mathlib.Core.Bool.{Bool, true, false}
use native.Mathlib.Omega.{arith}
use lib.Dec.{ltb}
use borrow.Author.Tests.{ltb-true, ltb-false, le-ltb}
use Rattle.units.specs.Numbers.{top, map_region, map_regions}
use Rattle.units.proofs.Tests.{by_test}
use Rattle.rows.specs.Rows.{row_at}
use Rattle.rows.proofs.Laws.{mapping_at}
use Rattle.record.proofs.Laws.{Shaped as Facts}
use Rattle.resize.specs.Resize.{growth_of, creation}
use Rattle.resize.proofs.Laws.{asking}
use Rattle.change.specs.Change.{host_sum, host_in, host_of}
use Rattle.step.specs.World.{World}
use Rattle.step.specs.Step.{region, several, usable, new_usable, region_rows}
use Rattle.step.proofs.Mapped.{MappedBelow}
use Rattle.history.specs.Good.{InMemory}
use Rattle.standard.specs.Requests.{OneMapping}

-- a creation that is asked for begins at the end of the usable region or past it
pub asks_outside : (w : World) (i last size : ℕ) → MappedBelow w → 0 < region_rows w → growth_of (region w) (several w) (usable w) (new_usable w) w.rows ≡ creation i last size → usable w ≤ i * map_region
asks_outside w i last size below rows grows =
    let a = asking (region w) (several w) (usable w) (new_usable w) w.rows i last size grows in
    let some : 0 < map_regions (region w) true = rw a.regions at rows in
    let ends = a.ends in
    let to = a.search.to in
    by_test (ltb (i * map_region) (usable w)) (λ t. absurd (below i (ltb-true _ _ t) (rw a.regions (omega arith)) a.search.unmapped)) (λ t. ltb-false _ _ t)

-- ---- one mapping has such a range
pub usable_mapped : (w : World) → InMemory w → Facts w.device → (offset size : ℕ) → 0 < size → offset + size ≤ usable w → (several w ≡ true → offset % map_region + size ≤ map_region) → OneMapping w offset size
unfolding host_of host_in host_sum map_regions
usable_mapped w m s offset size some inside one-region = go (several w) refl
  where
    go : (v : Bool) → several w ≡ v → OneMapping w offset size
    go true e =
        let row = offset / map_region in
        let there : row < map_regions (region w) (several w) = rw e (omega (arith, s.usable_in)) in
        let mapped = m.below row (omega arith) there in
        let room = m.fits row there mapped in
        let in_one = one-region e in
        let host = (row_at w.rows row).host.0 in
        let room' : host + map_region ≤ top = rw e at room in
        record {
          host = record { 0 = host + offset % map_region };
          maps = rw (e, le-ltb map_region (offset % map_region + size) in_one, mapping_at w.rows row mapped, le-ltb top (host + offset % map_region + size) (omega arith));
        }
    go false e =
        let there : 0 < map_regions (region w) (several w) = rw e (omega arith) in
        let mapped = m.below 0 (omega arith) there in
        let room = m.fits 0 there mapped in
        let host = (row_at w.rows 0).host.0 in
        let room' : host + region w ≤ top = rw e at room in
        record { host = record { 0 = host + offset }; maps = rw (e, mapping_at w.rows 0 mapped, le-ltb top (host + offset + size) (omega (arith, s.usable_in))) }
