-- SPDX-License-Identifier: Apache-2.0 AND BSD-3-Clause
-- `placing::ask_creation` meets its contract: the sum of the guest address is not held.
use Prim.Native.Nat.{ℕ, ◌+◌, ◌*◌}
use mathlib.Core.Path.{◌≡◌, ap}
use native.Mathlib.Omega.{arith}
use Rattle.units.specs.Numbers.{map_region}
use Rattle.placing.proofs.ask_creation.Goals as goal

pub returns : goal.returns
returns c =
    let g = c.guest_from-guest in
    let o = c.of_map_region in
    let e : g.result.0 ≡ c.args.d.config.addr.0 + c.args.first * map_region = omega (arith, g.ensures, o.ensures, c.requires) in
    let h : g.result ≡ record { 0 = c.args.d.config.addr.0 + c.args.first * map_region } = ap (λ (n : ℕ). record { 0 = n }) e in
    simp (h, c.slot_of-slot.ensures)
