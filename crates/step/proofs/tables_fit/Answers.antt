-- SPDX-License-Identifier: Apache-2.0 AND BSD-3-Clause
-- `step::tables_fit` meets its contract: blocks fit in bytes exactly if their eighths, rounded up, do, and rows in words exactly if
-- their words do.
use Prim.Native.Nat.{ℕ, ◌+◌, ◌*◌, ◌/◌, ◌≤◌}
use mathlib.Core.Path.{◌≡◌}
use mathlib.Core.Bool.{Bool, true, false}
use lib.Dec.{leb}
use native.Mathlib.Omega.{arith}
use Rattle.units.specs.Numbers.{top, blocks_in, map_regions}
use Rattle.units.proofs.Tests.{leb_same}
use Rattle.step.specs.Step.{tables_fit}
use Rattle.step.proofs.tables_fit.Goals as goal

-- map regions are few enough for their words to be counted
few : (region : ℕ) (several : Bool) → region ≤ top → map_regions region several * 3 ≤ top
unfolding map_regions
few region true h = omega arith
few region false h = omega arith

pub overflow_mul-result : goal.overflow_mul-result
overflow_mul-result c =
    let a = c.args in
    omega (arith, c.map_regions-rows.ensures, few a.d.config.region_size a.d.several (omega arith))

pub returns : goal.returns
unfolding tables_fit
returns c =
    let a = c.args in
    let blocks = blocks_in a.d.config.block_size a.d.config.region_size in
    let rows = map_regions a.d.config.region_size a.d.several in
    let eight : leb ((blocks + 7) / 8) a.bytes ≡ leb blocks (8 * a.bytes) =
    leb_same ((blocks + 7) / 8) a.bytes blocks (8 * a.bytes) (λ h. omega arith) (λ h. omega arith) in
    let three : leb (rows * 3) a.words ≡ leb rows (a.words / 3) =
    leb_same (rows * 3) a.words rows (a.words / 3) (λ h. omega arith) (λ h. omega arith) in
    simp (c.bytes_for-needed.ensures, c.map_regions-rows.ensures, eight, three)
