-- SPDX-License-Identifier: Apache-2.0 AND BSD-3-Clause
-- `bitmap::bytes_are` meets its contract. The invariant of both loops: the answer for the bytes from byte j on is the answer.
-- The measure is the number of bytes that are left.
use Prim.Native.Nat.{ℕ, ◌-◌, ◌≤◌}
use mathlib.Core.Path.{◌≡◌}
use mathlib.Core.Bool.{Bool}
use mathlib.Core.List.{List}
use lib.ListN.{length, drop}
use Rattle.bitmap.specs.Blocks.{blocks, every}
use Rattle.bitmap.proofs.bytes_are.Given as goal

-- the bytes from byte j on answer for all
unfoldable pub Left : List ℕ → Bool → ℕ → Type 0
Left bytes v j = (j ≤ length bytes) × (every v (blocks (drop j bytes)) ≡ every v (blocks bytes))

abbrev pub invariant-loop-j : goal.invariant-loop-j
invariant-loop-j l = Left l.bytes l.v l.j

abbrev pub decreases-loop-j : goal.decreases-loop-j
decreases-loop-j l = length l.bytes - l.j

abbrev pub invariant-loop-j-2 : goal.invariant-loop-j-2
invariant-loop-j-2 l = Left l.bytes l.v l.j

abbrev pub decreases-loop-j-2 : goal.decreases-loop-j-2
decreases-loop-j-2 l = length l.bytes - l.j
