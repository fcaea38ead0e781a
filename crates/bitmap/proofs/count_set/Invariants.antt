-- SPDX-License-Identifier: Apache-2.0 AND BSD-3-Clause
-- `bitmap::count_set` meets its contract. The loop's invariant: what is counted so far and the set blocks of what is left are those of the range.
-- The measure is what is left.
use Prim.Native.Nat.{◌+◌, ◌≤◌, ◌<◌}
use mathlib.Core.Path.{◌≡◌}
use Rattle.bitmap.specs.Blocks.{blocks, range, ones}
use Rattle.bitmap.proofs.Turns.{place}
use Rattle.bitmap.proofs.count_set.Given as goal

abbrev pub invariant-loop-j : goal.invariant-loop-j
invariant-loop-j l =
    (l.k < 8) × (l.set + l.left ≤ l.count) × (l.set + ones (range (blocks l.bitmap) (place l.j l.k) l.left) ≡ ones (range (blocks l.bitmap) l.first l.count))

abbrev pub decreases-loop-j : goal.decreases-loop-j
decreases-loop-j l = l.left
