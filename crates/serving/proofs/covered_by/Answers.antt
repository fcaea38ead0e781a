-- SPDX-License-Identifier: Apache-2.0 AND BSD-3-Clause
-- `serving::covered_by` meets its contract.
use Prim.Native.Nat.{◌+◌, ◌-◌}
use mathlib.Core.Path.{◌≡◌}
use native.Mathlib.Omega.{arith}
use Rattle.serving.proofs.covered_by.Goals as goal

pub returns-then-d : goal.returns-then-d
returns-then-d c =
    let a = c.args in
    let e : a.last - a.first + 1 ≡ a.last + 1 - a.first = omega (arith, c.requires) in
    simp (c.if-d.true, e)
