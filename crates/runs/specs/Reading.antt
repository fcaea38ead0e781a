-- SPDX-License-Identifier: Apache-2.0 AND BSD-3-Clause
-- What counting the runs of a text, and laying them on a bitmap, promise.
use Rattle.std.specs.Prelude.{ℕ, ◌+◌, ◌≡◌, Bool, ◌&&◌, List, [], ◌∷◌, leb, ltb, length, drop, Option, Some, None}
use Rattle.bitmap.specs.Blocks.{blocks, Outside}
use Rattle.forms.specs.Scanning.{found, scan_of}
use Rattle.runs.specs.declared.RunLine.{RunLine}
use Rattle.runs.specs.Runs.{Run, RunsApart, total, laid_on}
use Rattle.runs.specs.Text.{run_line, runs_text}

-- the text l, which is s from some position on, starts with a run's line, or it does not
abbrev pub IsRunLine : (s l : List ℕ) → Option RunLine → Type 0
IsRunLine s l (Some r) = scan_of run_line l ≡ found (r.first ∷ r.count ∷ []) (drop r.next s)
IsRunLine s l None = (us rest : List ℕ) → scan_of run_line l ≡ found us rest → ⊥

unfoldable pub run_ok : (first count from end : ℕ) → Bool
run_ok first count from end = leb from first && (ltb 0 count && leb (first + count) end)

-- l is the text of runs that are apart, from block `from` on and none past `end`, and w counts their blocks on from `sum`; or it is no such text
pub record Counts (from end sum : ℕ) (l : List ℕ) (w : Option ℕ) : Type 0 where
  pub whole : (rs : List Run) → RunsApart from end rs → runs_text rs ≡ l → w ≡ Some (sum + total rs)
  pub only : (n : ℕ) → w ≡ Some n → (rs : List Run) × RunsApart from end rs × (runs_text rs ≡ l) × (n ≡ sum + total rs)

-- the runs with whose lines a text starts, up to where no run's line follows
abbrev pub Starts : List ℕ → List Run → Type 0
Starts l [] = (us rest : List ℕ) → scan_of run_line l ≡ found us rest → ⊥
Starts l (r ∷ rs) = (rest : List ℕ) × (scan_of run_line l ≡ found (r.first ∷ r.count ∷ []) rest) × Starts rest rs

-- their blocks were set, no other changed, and no byte past them was touched
pub record Lays (l entry exit : List ℕ) : Type 0 where
  pub runs : List Run
  pub starts : Starts l runs
  pub as_blocks : blocks exit ≡ laid_on runs (blocks entry)
  pub long : length exit ≡ length entry
  pub outside : (from end : ℕ) → RunsApart from end runs → Outside entry exit 0 end
