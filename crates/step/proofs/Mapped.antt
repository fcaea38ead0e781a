-- SPDX-License-Identifier: Apache-2.0 AND BSD-3-Clause
-- The usable size once it is worked out, and the rows below it: after a successful answer every one of them is mapped, on tables that nobody altered.
use Rattle.std.specs.Prelude.{None}
use Prim.Native.Nat.{ℕ, ◌+◌, ◌-◌, ◌*◌, ◌/◌, ◌%◌, ◌≤◌, ◌<◌, min}
use mathlib.Core.Path.{◌≡◌}
use mathlib.Core.Bool.{true}
use mathlib.Core.List.{List}
use native.Mathlib.Nat.{div-add-mod', mul-mod_left}
use native.Mathlib.Omega.{arith, min_cases}
use lib.Dec.{ltb}
use lib.ListN.{length}
use borrow.Author.Tests.{ltb-true, ltb-false}
use Rattle.units.specs.Numbers.{map_region, map_regions}
use Rattle.units.proofs.Tests.{by_test}
use Rattle.rows.specs.Rows.{row_at}
use Rattle.rows.proofs.Laws.{fill_inside, fill_before}
use Rattle.record.specs.Shape.{shaped_of}
use Rattle.record.proofs.Laws.{shaped_is}
use Rattle.resize.specs.Resize.{growth_of, creation}
use Rattle.resize.proofs.Laws.{asking, new_exact, settled}
use Rattle.step.specs.World.{World}
use Rattle.step.specs.Step.{block_size, region, requested, usable, several, region_rows, new_usable, sizes, creates}

whole_sum : (r a : ℕ) → r % 4194304 ≡ 0 → a % 4194304 ≡ 0 → (r + 2 * a) % 4194304 ≡ 0
whole_sum r a p q =
    let e : r + 2 * a ≡ (r / 4194304 + 2 * (a / 4194304)) * 4194304 = omega (arith, div-add-mod' r 4194304, div-add-mod' a 4194304) in
    rw e (mul-mod_left (r / 4194304 + 2 * (a / 4194304)) 4194304)

-- the usable size is at least the new size (R6.1) once it is worked out
pub sized_covers : (w : World) → shaped_of w.device ≡ true → 0 < requested w → min (region w) (requested w + 2 * w.device.alignment) ≤ usable (sizes w).world
sized_covers w h r =
    let s = shaped_is w.device h in
    let whole : min (region w) (requested w + 2 * w.device.alignment) % block_size w ≡ 0 =
    rw s.block_size
    (min_cases (region w) (requested w + 2 * w.device.alignment) _ (λ p q. rw q s.region_blocks_lem)
    (λ p q. rw q (whole_sum (requested w) w.device.alignment s.requested_blocks s.alignment.blocks))) in
    omega (arith, new_exact (block_size w) (region w) (requested w) w.device.alignment r whole)

-- each map region that starts below the usable size has a mapping
abbrev pub MappedBelow : World → Type 0
MappedBelow w = (k : ℕ) → k * map_region < usable w → k < region_rows w → (row_at w.rows k).mapped ≡ 0 → ⊥

module _ (w : World) (regions : several w ≡ true) (rows : region_rows w ≤ length w.rows) (below : MappedBelow w) where
  -- nothing had to be created
  pub settled_maps : growth_of (region w) (several w) (usable w) (new_usable w) w.rows ≡ None → MappedBelow (sizes w).world
  settled_maps e k h n z =
      by_test (ltb (k * map_region) (usable w)) (λ t. below k (ltb-true _ _ t) n z)
      (λ t.
      let past : usable w ≤ k * map_region = ltb-false _ _ t in
      let count : k < map_regions (region w) true = rw (← regions) n in
      settled (region w) (usable w) (new_usable w) w.rows (rw regions at e) (omega arith) k (omega arith) (omega arith) (omega arith) z)

  -- the host has made the creation that was asked
  pub creation_maps : (i last size host : ℕ) (bytes : List ℕ) → growth_of (region w) (several w) (usable w) (new_usable w) w.rows ≡ creation i last size → MappedBelow (creates w i last host bytes).world
  creation_maps i last size host bytes e k h n z =
      let a = asking (region w) (several w) (usable w) (new_usable w) w.rows i last size e in
      let count : k < map_regions (region w) true = rw (← regions) n in
      by_test (ltb k i)
      (λ t.
      let early : k < i = ltb-true k i t in
      let same : (row_at w.rows k).mapped ≡ 0 = rw (fill_before w.rows i (last + 1 - i) host k early) at z in
      by_test (ltb (k * map_region) (usable w)) (λ u. below k (ltb-true _ _ u) n same)
      (λ u.
      let past : usable w ≤ k * map_region = ltb-false _ _ u in
      a.search.before k (omega arith) early same))
      (λ t.
      let late : i ≤ k = ltb-false k i t in
      let end : k ≤ last = rw a.ends (omega (arith, a.grows)) in
      let one : 1 ≡ 0 = rw (fill_inside w.rows i (last + 1 - i) host k late (omega arith) (omega arith)) at z in
      omega arith)
