-- SPDX-License-Identifier: Apache-2.0 AND BSD-3-Clause
-- The longest runs of plugged blocks, the lowest first (R15.2).
use Rattle.std.specs.Prelude.{ℕ, zero, suc, ◌+◌, ◌-◌, ◌≤◌, ◌<◌, Bool, true, false, List, [], ◌∷◌, ◌++◌, replicate}
use Rattle.bitmap.specs.Blocks.{fill}

pub record Run : Type 0 where
  pub first : ℕ
  pub count : ℕ

-- n set blocks end before block i: they are a run, if there are any
unfoldable pub closed : (i n : ℕ) → List Run → List Run
closed i zero rs = rs
closed i (suc n) rs = record { first = i - suc n; count = suc n } ∷ rs

-- the runs of a list whose first is block i, where n set blocks stand right before it
unfoldable pub runs_from : (i n : ℕ) → List Bool → List Run
runs_from i n [] = closed i n []
runs_from i n (true ∷ bs) = runs_from (suc i) (suc n) bs
runs_from i n (false ∷ bs) = closed i n (runs_from (suc i) 0 bs)

abbrev pub runs_of : List Bool → List Run
runs_of bs = runs_from 0 0 bs

-- the blocks from i to end, those of the runs set
unfoldable pub spread : (i end : ℕ) → List Run → List Bool
spread i end [] = replicate (end - i) false
spread i end (r ∷ rs) = replicate (r.first - i) false ++ (replicate r.count true ++ spread (r.first + r.count) end rs)

-- R15.4: runs that neither touch nor fall back, from block `from` on, none empty and none past `end`
abbrev pub RunsApart : (from end : ℕ) → List Run → Type 0
RunsApart from end [] = Prim.Unit {0}
RunsApart from end (r ∷ rs) = (from ≤ r.first) × (0 < r.count) × (r.first + r.count ≤ end) × RunsApart (suc (r.first + r.count)) end rs

-- how many blocks runs have
unfoldable pub total : List Run → ℕ
total [] = 0
total (r ∷ rs) = r.count + total rs

-- the blocks with those of the runs set
unfoldable pub laid_on : List Run → List Bool → List Bool
laid_on [] bs = bs
laid_on (r ∷ rs) bs = laid_on rs (fill bs r.first r.count true)
