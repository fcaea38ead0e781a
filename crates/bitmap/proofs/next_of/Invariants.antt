-- SPDX-License-Identifier: Apache-2.0 AND BSD-3-Clause
-- `bitmap::next_of` meets its contract. The loop's invariant: `at` is the block at bit k of byte j, and the search from there gives the answer.
-- The measure is the number of blocks up to `end`.
use Prim.Native.Nat.{◌-◌, ◌<◌}
use mathlib.Core.Path.{◌≡◌}
use Rattle.bitmap.specs.Blocks.{blocks, range, first_from, next_in_state}
use Rattle.bitmap.proofs.Turns.{place}
use Rattle.bitmap.proofs.next_of.Given as goal

abbrev pub invariant-loop-j : goal.invariant-loop-j
invariant-loop-j l =
    (l.k < 8) × (first_from l.v l.at (range (blocks l.bitmap) (place l.j l.k) (l.end - l.at)) ≡ next_in_state l.v (blocks l.bitmap) l.from l.end)

abbrev pub decreases-loop-j : goal.decreases-loop-j
decreases-loop-j l = l.end - l.at
