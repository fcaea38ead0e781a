-- SPDX-License-Identifier: Apache-2.0 AND BSD-3-Clause
-- `units::next_multiple_of` meets its contract: std's next multiple, or the largest number where it does not fit.
use Prim.Native.Nat.{ℕ, ◌<◌, ◌≤◌, ◌^◌}
use mathlib.Core.Path.{◌≡◌, ◌∙◌}
use native.Mathlib.Omega.{arith}
use Rattle.std.specs.Option.{SomeIff, unwrap_or}
use Rattle.std.specs.Prelude.{Option, Some, None}
use Rattle.units.specs.Numbers.{top, saturated}
use Rattle.units.proofs.Laws.{round_none, rounded}
use Rattle.units.proofs.next_multiple_of.Goals as goal

-- a number that is there where it fits
capped : (o : Option ℕ) (to v : ℕ) → 0 < to → SomeIff o ((0 < to) × (v < 2 ^ 64)) v → unwrap_or o top ≡ saturated v
capped None to v h k = let over : 2 ^ 64 ≤ v = omega (arith, λ (f : v < 2 ^ 64). k (h, f)) in omega arith
capped (Some x) to v h k = omega (arith, k)

pub returns-then-to-eq0 : goal.returns-then-to-eq0
returns-then-to-eq0 c = rw (c.if-to-eq0.true, round_none)

pub returns : goal.returns
returns c =
    let some : 0 < c.args.to = omega arith in
    rw (← rounded c.args.n c.args.to some)
    (c.unwrap_or.ensures ∙ capped _ _ _ some c.checked_next_multiple_of.ensures)
