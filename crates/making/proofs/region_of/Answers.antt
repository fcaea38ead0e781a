-- SPDX-License-Identifier: Apache-2.0 AND BSD-3-Clause
-- `making::region_of` meets its contract: the rounded capacity fits 64 bits.
use Prim.Native.Nat.{◌*◌}
use mathlib.Core.Path.{◌∙◌}
use native.Mathlib.Omega.{arith}
use Rattle.units.proofs.Laws.{saturated_fits}
use Rattle.making.proofs.Newly.{round_within}
use Rattle.making.proofs.region_of.Goals as goal

pub returns : goal.returns
returns c =
    let a = c.args in
    c.next_multiple_of.ensures ∙ saturated_fits (omega (arith, round_within (a.capacity_mib * 1048576) (2 * a.alignment)))
