-- SPDX-License-Identifier: Apache-2.0 AND BSD-3-Clause
-- The next run of a list of blocks: what a walk from run to run finds.
use Rattle.std.specs.Prelude.{ℕ, ◌+◌, ◌≤◌, ◌<◌, ◌≡◌, Bool, true, false, List, [], ◌∷◌, ◌++◌, length, drop, replicate, Option, Some, None}
use Rattle.bitmap.specs.Blocks.{block_at}
use Rattle.runs.specs.declared.NextRun.{NextRun}
use Rattle.runs.specs.Runs.{runs_from}

-- `count` set blocks stand from `first` on, and no more
pub record InARow (bs : List Bool) (first count : ℕ) : Type 0 where
  pub inside : first + count ≤ length bs
  pub set : drop first bs ≡ replicate count true ++ drop (first + count) bs
  pub ends : block_at bs (first + count) ≡ false

-- the runs from block `from` on begin with this one, or there are none
abbrev pub IsNext : (bs : List Bool) (from : ℕ) → Option NextRun → Type 0
IsNext bs from (Some r) =
    (from ≤ r.first) × (0 < r.count) × (r.first + r.count ≤ length bs)
    × (runs_from from 0 (drop from bs) ≡ record { first = r.first; count = r.count } ∷ runs_from (r.first + r.count) 0 (drop (r.first + r.count) bs))
IsNext bs from None = runs_from from 0 (drop from bs) ≡ []
