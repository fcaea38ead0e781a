-- SPDX-License-Identifier: Apache-2.0 AND BSD-3-Clause
-- Runs of blocks as plugs: what they do to the blocks and to the plugged size, and that each could happen.
use Prim.Native.Nat.{ℕ, suc, ◌+◌, ◌-◌, ◌*◌, ◌≤◌}
use mathlib.Core.Path.{◌≡◌, refl, ap, ◌∙◌, sym}
use mathlib.Core.Bool.{Bool, true, false}
use mathlib.Core.List.{List, [], ◌∷◌}
use native.Mathlib.Omega.{arith}
use native.Mathlib.Nat.{add-mul}
use borrow.Author.Tests.{le-leb}
use Rattle.units.proofs.Tests.{and_left, and_right}
use Rattle.bitmap.specs.Blocks.{every, range, all_are, fill}
use Rattle.bitmap.proofs.Laws.{all_split, fill_before, fill_swap}
use Rattle.history.specs.History.{was_plug}
use Rattle.history.specs.Reached.{marks, counts, could, marked, counted, all_could, all_plugs}
use Rattle.runs.specs.Runs.{Run, RunsApart, total, laid_on}
use Rattle.save_runs.specs.Starts.{plugs_of}

pub plugs_only : (rs : List Run) → all_plugs (plugs_of rs) ≡ true
unfolding plugs_of all_plugs was_plug
plugs_only [] = refl
plugs_only (r ∷ rs) = plugs_only rs

-- ---- the blocks: the runs are laid
laid_last : (rs : List Run) (bs : List Bool) (first count : ℕ) → laid_on rs (fill bs first count true) ≡ fill (laid_on rs bs) first count true
unfolding laid_on
laid_last [] bs first count = refl
laid_last (r ∷ rs) bs first count =
    ap (laid_on rs) (fill_swap bs first count r.first r.count true)
    ∙ laid_last rs (fill bs r.first r.count true) first count

pub plugs_mark : (rs : List Run) (bs : List Bool) → marked (plugs_of rs) bs ≡ laid_on rs bs
unfolding plugs_of marked marks laid_on
plugs_mark [] bs = refl
plugs_mark (r ∷ rs) bs =
    ap (λ (l : List Bool). fill l r.first r.count true) (plugs_mark rs bs)
    ∙ sym (laid_last rs bs r.first r.count)

-- ---- the plugged size: the runs are counted
pub plugs_count : (b : ℕ) (rs : List Run) → counted b (plugs_of rs) 0 ≡ total rs * b
unfolding plugs_of counted counts total
plugs_count b [] = omega arith
plugs_count b (r ∷ rs) = let rest = plugs_count b rs in let sum = add-mul r.count (total rs) b in omega arith

-- ---- each could happen
-- the plugs of runs change no block before them
below : (from end : ℕ) (rs : List Run) (bs : List Bool) (first count : ℕ) → RunsApart from end rs → first + count ≤ from
    → range (marked (plugs_of rs) bs) first count ≡ range bs first count
unfolding plugs_of marked marks
below from end [] bs first count a h = refl
below from end (r ∷ rs) bs first count a h =
    let p = a.0 in
    fill_before (marked (plugs_of rs) bs) r.first r.count true first count (omega arith)
    ∙ below (suc (r.first + r.count)) end rs bs first count a.3 (omega arith)

-- a part of clear blocks is clear
pub part_clear : (bs : List Bool) (n first count : ℕ) → first + count ≤ n → all_are bs 0 n false ≡ true → all_are bs first count false ≡ true
part_clear bs n first count h e =
    let rest = n - (first + count) in
    let z : first + (count + rest) ≡ n = omega arith in
    let y : 0 + first ≡ first = omega arith in
    let all : all_are bs 0 (first + (count + rest)) false ≡ true = ap (λ (m : ℕ). all_are bs 0 m false) z ∙ e in
    let later = and_right (all_are bs 0 first false) _ (sym (all_split bs 0 first (count + rest) false) ∙ all) in
    let here : all_are bs first (count + rest) false ≡ true = rw y at later in
    and_left (all_are bs first count false) _ (sym (all_split bs first count rest false) ∙ here)

pub plugs_could : (from n : ℕ) (rs : List Run) (bs : List Bool) → RunsApart from n rs → all_are bs 0 n false ≡ true → all_could (plugs_of rs) bs n ≡ true
unfolding plugs_of all_could could
plugs_could from n [] bs a e = refl
plugs_could from n (r ∷ rs) bs a e =
    let behind = suc (r.first + r.count) in
    let rest = plugs_could behind n rs bs a.3 e in
    let ends = le-leb (r.first + r.count) n a.2 in
    let clear : all_are (marked (plugs_of rs) bs) r.first r.count false ≡ true =
    ap (every false) (below behind n rs bs r.first r.count a.3 (omega arith)) ∙ part_clear bs n r.first r.count a.2 e in
    rw (rest, ends, clear)
