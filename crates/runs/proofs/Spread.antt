-- SPDX-License-Identifier: Apache-2.0 AND BSD-3-Clause
-- The runs of a state, and the state of runs: how many blocks there are, and that none lies past the usable size.
use Prim.Native.Nat.{ℕ, zero, suc, ◌+◌, ◌-◌, ◌≤◌}
use mathlib.Core.Path.{◌≡◌, refl, ap, ◌∙◌, sym}
use mathlib.Core.Bool.{Bool, true, false}
use mathlib.Core.List.{List, [], ◌∷◌, ◌++◌, append_assoc}
use native.Mathlib.Omega.{arith}
use lib.ListN.{length, take, drop, replicate, length-append, length-take, length-drop}
use Rattle.bitmap.specs.Blocks.{every, ones, all_are, fill}
use Rattle.bitmap.proofs.Laws.{fill_left, fill_right, fill_whole}
use Rattle.runs.specs.Runs.{Run, closed, runs_from, runs_of, spread, RunsApart, total, laid_on}
use Rattle.runs.proofs.Runs.{runs_apart, comes_back, sooner}

pub same_length : (n : ℕ) (v : Bool) → length (replicate n v) ≡ n
same_length zero v = refl
same_length (suc n) v = ap suc (same_length n v)

-- ---- of runs

pub spread-length : (i end : ℕ) (rs : List Run) → i ≤ end → RunsApart i end rs → length (spread i end rs) ≡ end - i
unfolding spread
spread-length i end [] h a = same_length (end - i) false
spread-length i end (r ∷ rs) h a =
    let p = a.0 in
    let q = a.2 in
    let behind = r.first + r.count in
    let n = spread-length behind end rs a.2 (sooner (suc behind) behind end rs (omega arith) a.3) in
    let x = length-append (replicate (r.first - i) false) (replicate r.count true ++ spread behind end rs) in
    let y = length-append (replicate r.count true) (spread behind end rs) in
    let u = same_length (r.first - i) false in
    let v = same_length r.count true in
    omega arith

ones-false : (n : ℕ) (bs : List Bool) → ones (replicate n false ++ bs) ≡ ones bs
unfolding ones
ones-false zero bs = refl
ones-false (suc n) bs = ones-false n bs

ones-true : (n : ℕ) (bs : List Bool) → ones (replicate n true ++ bs) ≡ n + ones bs
unfolding ones
ones-true zero bs = let z : ones bs ≡ 0 + ones bs = omega arith in z
ones-true (suc n) bs = let i = ones-true n bs in omega arith

none_set : (n : ℕ) → ones (replicate n false) ≡ 0
unfolding ones
none_set zero = refl
none_set (suc n) = none_set n

pub spread-ones : (i end : ℕ) (rs : List Run) → ones (spread i end rs) ≡ total rs
unfolding spread total
spread-ones i end [] = none_set (end - i)
spread-ones i end (r ∷ rs) =
    let behind = r.first + r.count in
    ones-false (r.first - i) (replicate r.count true ++ spread behind end rs)
    ∙ ones-true r.count (spread behind end rs)
    ∙ ap (λ (n : ℕ). r.count + n) (spread-ones behind end rs)

-- the blocks of a state are as many as those of its runs
pub runs_ones : (bs : List Bool) → total (runs_of bs) ≡ ones bs
runs_ones bs = sym (spread-ones 0 (length bs) (runs_of bs)) ∙ ap ones (comes_back bs)

more_clear : (n g : ℕ) → replicate (n + g) false ≡ replicate n false ++ replicate g false
more_clear zero g = let z : 0 + g ≡ g = omega arith in rw z
more_clear (suc n) g = let z : suc n + g ≡ suc (n + g) = omega arith in rw z (ap (λ (l : List Bool). false ∷ l) (more_clear n g))

-- past the end of all runs nothing is set
pub spread_more : (i end g : ℕ) (rs : List Run) → i ≤ end → RunsApart i end rs → spread i (end + g) rs ≡ spread i end rs ++ replicate g false
unfolding spread
spread_more i end g [] h a = let z : end + g - i ≡ end - i + g = omega arith in rw z (more_clear (end - i) g)
spread_more i end g (r ∷ rs) h a =
    let behind = r.first + r.count in
    let x = replicate (r.first - i) false in
    let y = replicate r.count true in
    let n = spread_more behind end g rs a.2 (sooner (suc behind) behind end rs (omega arith) a.3) in
    rw (n, append_assoc x (y ++ spread behind end rs) (replicate g false), append_assoc y (spread behind end rs) (replicate g false))

clear_all : (c g : ℕ) → every false (take c (replicate g false)) ≡ true
unfolding every
clear_all zero g = refl
clear_all (suc c) zero = refl
clear_all (suc c) (suc g) = clear_all c g

pub past_clear : (c g : ℕ) (xs : List Bool) → every false (take c (drop (length xs) (xs ++ replicate g false))) ≡ true
past_clear c g [] = clear_all c g
past_clear c g (x ∷ xs) = past_clear c g xs

-- ---- of a state

pub end_clear : (i n g : ℕ) → runs_from i n (replicate g false) ≡ closed i n []
unfolding runs_from closed
end_clear i n zero = refl
end_clear i n (suc g) = ap (closed i n) (end_clear (suc i) 0 g)

runs_clear : (i n g : ℕ) (xs : List Bool) → runs_from i n (xs ++ replicate g false) ≡ runs_from i n xs
unfolding runs_from
runs_clear i n g [] = end_clear i n g
runs_clear i n g (true ∷ xs) = runs_clear (suc i) (suc n) g xs
runs_clear i n g (false ∷ xs) = ap (closed i n) (runs_clear (suc i) 0 g xs)

pub every_is : (v : Bool) (ys : List Bool) → every v ys ≡ true → ys ≡ replicate (length ys) v
unfolding every
every_is v [] e = refl
every_is true (true ∷ ys) e = ap (λ (l : List Bool). true ∷ l) (every_is true ys e)
every_is false (false ∷ ys) e = ap (λ (l : List Bool). false ∷ l) (every_is false ys e)
every_is true (false ∷ ys) e = let z : ◌≡◌ {A = ℕ} 0 1 = cc in absurd (omega arith)
every_is false (true ∷ ys) e = let z : ◌≡◌ {A = ℕ} 0 1 = cc in absurd (omega arith)

pub take-drop : (n : ℕ) (bs : List Bool) → take n bs ++ drop n bs ≡ bs
take-drop zero bs = refl
take-drop (suc n) [] = refl
take-drop (suc n) (b ∷ bs) = ap (λ (l : List Bool). b ∷ l) (take-drop n bs)

take_whole : (n : ℕ) (bs : List Bool) → length bs ≤ n → take n bs ≡ bs
take_whole zero [] h = refl
take_whole zero (b ∷ bs) h = absurd (omega arith)
take_whole (suc n) [] h = refl
take_whole (suc n) (b ∷ bs) h = ap (λ (l : List Bool). b ∷ l) (take_whole n bs (omega arith))

-- where no block from `used` on is set, no run goes past it
pub runs_inside : (bs : List Bool) (used : ℕ) → used ≤ length bs → all_are bs used (length bs - used) false ≡ true → RunsApart 0 used (runs_of bs)
runs_inside bs used h e =
    let d = length-drop used bs in
    let t = length-take used bs in
    let k : length (take used bs) ≡ used = omega arith in
    let a = take_whole (length bs - used) (drop used bs) (omega arith) in
    let c = every_is false (drop used bs) (rw a at e) in
    let w : take used bs ++ replicate (length (drop used bs)) false ≡ bs = ap (λ (l : List Bool). take used bs ++ l) (sym c) ∙ take-drop used bs in
    let r : runs_of (take used bs) ≡ runs_of bs = sym (runs_clear 0 0 (length (drop used bs)) (take used bs)) ∙ ap runs_of w in
    let z : 0 + length (take used bs) ≡ used = omega arith in
    let q : RunsApart 0 used (runs_of (take used bs)) = rw z at (runs_apart 0 0 (take used bs) (omega arith)) in
    rw r at q

-- ---- runs laid on clear blocks

clear_fill : (c : ℕ) (ys : List Bool) → fill (replicate c false ++ ys) 0 c true ≡ replicate c true ++ ys
clear_fill c ys =
    let n = same_length c false in
    fill_left (replicate c false) ys 0 c true (omega arith)
    ∙ ap (λ (l : List Bool). l ++ ys) (fill_whole (replicate c false) c true (omega arith) ∙ ap (λ (m : ℕ). replicate m true) n)

-- behind the blocks xs, whose number is i, the blocks up to `end` are clear
laid_behind : (i end : ℕ) (rs : List Run) (xs rest : List Bool) → length xs ≡ i → i ≤ end → RunsApart i end rs
    → laid_on rs (xs ++ (replicate (end - i) false ++ rest)) ≡ xs ++ (spread i end rs ++ rest)
unfolding laid_on spread
laid_behind i end [] xs rest n h a = refl
laid_behind i end (r ∷ rs) xs rest n h a =
    let p = a.0 in
    let q = a.2 in
    let behind = r.first + r.count in
    let gap = replicate (r.first - i) false in
    let set = replicate r.count true in
    let left = replicate (end - behind) false ++ rest in
    let u = same_length (r.first - i) false in
    let v = same_length r.count true in
    let cut : replicate (end - i) false ≡ gap ++ (replicate r.count false ++ replicate (end - behind) false) =
    let z : end - i ≡ r.first - i + (r.count + (end - behind)) = omega arith in
    ap (λ (m : ℕ). replicate m false) z ∙ more_clear (r.first - i) (r.count + (end - behind)) ∙ ap (λ (l : List Bool). gap ++ l) (more_clear r.count (end - behind)) in
    let apart : xs ++ (replicate (end - i) false ++ rest) ≡ (xs ++ gap) ++ (replicate r.count false ++ left) =
    ap (λ (l : List Bool). xs ++ (l ++ rest)) cut
    ∙ ap (λ (l : List Bool). xs ++ l) (append_assoc gap (replicate r.count false ++ replicate (end - behind) false) rest ∙ ap (λ (l : List Bool). gap ++ l) (append_assoc (replicate r.count false) (replicate (end - behind) false) rest))
    ∙ sym (append_assoc xs gap (replicate r.count false ++ left)) in
    let long : length (xs ++ gap) ≡ r.first = length-append xs gap ∙ omega arith in
    let z : r.first ≡ length (xs ++ gap) + 0 = omega arith in
    let filled : fill (xs ++ (replicate (end - i) false ++ rest)) r.first r.count true ≡ ((xs ++ gap) ++ set) ++ left =
    ap (λ (l : List Bool). fill l r.first r.count true) apart
    ∙ ap (λ (m : ℕ). fill ((xs ++ gap) ++ (replicate r.count false ++ left)) m r.count true) z
    ∙ fill_right (xs ++ gap) (replicate r.count false ++ left) 0 r.count true
    ∙ ap (λ (l : List Bool). (xs ++ gap) ++ l) (clear_fill r.count left)
    ∙ sym (append_assoc (xs ++ gap) set left) in
    let longer : length ((xs ++ gap) ++ set) ≡ behind = length-append (xs ++ gap) set ∙ omega arith in
    ap (laid_on rs) filled
    ∙ laid_behind behind end rs ((xs ++ gap) ++ set) rest longer q (sooner (suc behind) behind end rs (omega arith) a.3)
    ∙ append_assoc (xs ++ gap) set (spread behind end rs ++ rest)
    ∙ append_assoc xs gap (set ++ (spread behind end rs ++ rest))
    ∙ ap (λ (l : List Bool). xs ++ (gap ++ l)) (sym (append_assoc set (spread behind end rs) rest))
    ∙ ap (λ (l : List Bool). xs ++ l) (sym (append_assoc gap (set ++ spread behind end rs) rest))

-- the runs of blocks, laid where as many are clear, are the blocks
pub runs_laid : (bs rest : List Bool) → laid_on (runs_of bs) (replicate (length bs) false ++ rest) ≡ bs ++ rest
runs_laid bs rest =
    let z : 0 + length bs ≡ length bs = omega arith in
    let y : length bs - 0 ≡ length bs = omega arith in
    let a : RunsApart 0 (length bs) (runs_of bs) = rw z at (runs_apart 0 0 bs (omega arith)) in
    rw y at (laid_behind 0 (length bs) (runs_of bs) [] rest refl (omega arith) a)
    ∙ ap (λ (l : List Bool). l ++ rest) (comes_back bs)
