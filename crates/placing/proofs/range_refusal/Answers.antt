-- SPDX-License-Identifier: Apache-2.0 AND BSD-3-Clause
-- `placing::range_refusal` meets its contract: 4 only past the test of 3.
use Rattle.std.proofs.Common.{◌≡◌, true, false, ◌&&◌}
use lib.Dec.{eqb}
use Rattle.units.specs.Numbers.{map_regions}
use Rattle.record.specs.Shape.{start_ok}
use Rattle.step.specs.Step.{range_refusal}
use Rattle.placing.proofs.range_refusal.Goals as goal

pub returns-else-start_ok : goal.returns-else-start_ok
unfolding range_refusal
returns-else-start_ok c =
    let a = c.args in
    let placed : start_ok a.start.0 a.d.config.region_size a.d.several a.d.alignment ≡ false = cc in
    simp (← c.map_regions.ensures, c.if-not-right_range.false, placed)
