-- SPDX-License-Identifier: Apache-2.0 AND BSD-3-Clause
-- The runs of blocks tell the blocks, and the blocks the runs.
use Prim.Native.Nat.{ℕ, zero, suc, ◌+◌, ◌-◌, ◌≤◌, ◌<◌}
use mathlib.Core.Path.{◌≡◌, refl, ap, ◌∙◌, sym}
use mathlib.Core.Bool.{Bool, true, false}
use mathlib.Core.List.{List, [], ◌∷◌, ◌++◌, append-nil}
use native.Mathlib.Omega.{arith}
use lib.ListN.{length, replicate}
use Rattle.runs.specs.Runs.{Run, closed, runs_from, runs_of, spread, RunsApart}

-- runs that are apart from a block on are so from any before it
pub sooner : (m l end : ℕ) (rs : List Run) → l ≤ m → RunsApart m end rs → RunsApart l end rs
sooner m l end [] q a = tt
sooner m l end (r ∷ rs) q a = (omega (arith, a.0), a.1, a.2, a.3)

-- ---- the runs of a list are apart
closed_apart : (i n end : ℕ) (rs : List Run) → n ≤ i → i ≤ end → RunsApart (suc i) end rs → RunsApart (i - n) end (closed i n rs)
unfolding closed
closed_apart i zero end rs h k a = sooner (suc i) (i - 0) end rs (omega arith) a
closed_apart i (suc n) end rs h k a =
    let w : i - suc n + suc n ≡ i = omega arith in
    (omega arith, omega arith, omega arith, rw w a)

pub runs_apart : (i n : ℕ) (bs : List Bool) → n ≤ i → RunsApart (i - n) (i + length bs) (runs_from i n bs)
unfolding runs_from
runs_apart i n [] h = let z : i + 0 ≡ i = omega arith in rw z (closed_apart i n i [] h (omega arith) tt)
runs_apart i n (true ∷ bs) h =
    let z : i + suc (length bs) ≡ suc i + length bs = omega arith in
    let y : i - n ≡ suc i - suc n = omega arith in
    rw (z, y) (runs_apart (suc i) (suc n) bs (omega arith))
runs_apart i n (false ∷ bs) h =
    let z : i + suc (length bs) ≡ suc i + length bs = omega arith in
    let y : suc i - 0 ≡ suc i = omega arith in
    rw z (closed_apart i n (suc i + length bs) _ h (omega arith) (rw y at (runs_apart (suc i) 0 bs (omega arith))))

-- ---- the runs spread again are the list
one_clear : (i end : ℕ) (rs : List Run) → i < end → RunsApart (suc i) end rs → spread i end rs ≡ false ∷ spread (suc i) end rs
unfolding spread
one_clear i end [] h a = let w : end - i ≡ suc (end - suc i) = omega arith in rw w
one_clear i end (r ∷ rs) h a = let p = a.0 in let w : r.first - i ≡ suc (r.first - suc i) = omega arith in rw w

ones_then : (n : ℕ) (bs : List Bool) → replicate n true ++ (true ∷ bs) ≡ replicate (suc n) true ++ bs
ones_then zero bs = refl
ones_then (suc n) bs = ap (λ (l : List Bool). true ∷ l) (ones_then n bs)

closed-spread : (i n end : ℕ) (rs : List Run) → n ≤ i → spread (i - n) end (closed i n rs) ≡ replicate n true ++ spread i end rs
unfolding closed spread
closed-spread i zero end rs h = let z : i - 0 ≡ i = omega arith in rw z
closed-spread i (suc n) end rs h =
    let z : i - suc n - (i - suc n) ≡ 0 = omega arith in
    let w : i - suc n + suc n ≡ i = omega arith in
    rw (z, w)

pub spread_runs : (i n : ℕ) (bs : List Bool) → n ≤ i → spread (i - n) (i + length bs) (runs_from i n bs) ≡ replicate n true ++ bs
unfolding runs_from spread
spread_runs i n [] h =
    let z : i + 0 ≡ i = omega arith in
    let y : i - i ≡ 0 = omega arith in
    rw z (closed-spread i n i [] h ∙ ap (λ (l : List Bool). replicate n true ++ l) (none_left i y))
  where
    none_left : (i : ℕ) → i - i ≡ 0 → spread i i [] ≡ []
    none_left i y = rw y
spread_runs i n (true ∷ bs) h =
    let z : i + suc (length bs) ≡ suc i + length bs = omega arith in
    let y : i - n ≡ suc i - suc n = omega arith in
    rw (z, y) (spread_runs (suc i) (suc n) bs (omega arith) ∙ sym (ones_then n bs))
spread_runs i n (false ∷ bs) h =
    let z : i + suc (length bs) ≡ suc i + length bs = omega arith in
    let y : suc i - 0 ≡ suc i = omega arith in
    let rest = runs_from (suc i) 0 bs in
    let a : RunsApart (suc i) (suc i + length bs) rest = rw y at (runs_apart (suc i) 0 bs (omega arith)) in
    let s : spread (suc i) (suc i + length bs) rest ≡ bs = rw y at (spread_runs (suc i) 0 bs (omega arith)) in
    rw z (closed-spread i n (suc i + length bs) rest h ∙ ap (λ (l : List Bool). replicate n true ++ l) (one_clear i (suc i + length bs) rest (omega arith) a ∙ ap (λ (l : List Bool). false ∷ l) s))

-- a list has one list of runs, from which it comes back
pub comes_back : (bs : List Bool) → spread 0 (length bs) (runs_of bs) ≡ bs
comes_back bs = let z : 0 + length bs ≡ length bs = omega arith in rw z at (spread_runs 0 0 bs (omega arith))

-- ---- and runs that are apart are those of what they spread to
pub skip_clear : (g i : ℕ) (bs : List Bool) → runs_from i 0 (replicate g false ++ bs) ≡ runs_from (i + g) 0 bs
unfolding runs_from closed
skip_clear zero i bs = let z : i + 0 ≡ i = omega arith in rw z
skip_clear (suc g) i bs = let z : i + suc g ≡ suc i + g = omega arith in rw z (skip_clear g (suc i) bs)

pub count_set : (c i n : ℕ) (bs : List Bool) → runs_from i n (replicate c true ++ bs) ≡ runs_from (i + c) (n + c) bs
unfolding runs_from
count_set zero i n bs = let z : i + 0 ≡ i = omega arith in let y : n + 0 ≡ n = omega arith in rw (z, y)
count_set (suc c) i n bs =
    let z : i + suc c ≡ suc i + c = omega arith in
    let y : n + suc c ≡ suc n + c = omega arith in
    rw (z, y) (count_set c (suc i) (suc n) bs)

-- behind a run the list ends, or a clear block stands there
run_ends : (i n end : ℕ) (rs : List Run) → i ≤ end → RunsApart (suc i) end rs → runs_from i n (spread i end rs) ≡ closed i n (runs_from i 0 (spread i end rs))
unfolding runs_from spread closed
run_ends i n end [] h a = go (end - i)
  where
    go : (g : ℕ) → runs_from i n (replicate g false) ≡ closed i n (runs_from i 0 (replicate g false))
    go zero = refl
    go (suc g) = refl
run_ends i n end (r ∷ rs) h a = let p = a.0 in let w : r.first - i ≡ suc (r.first - suc i) = omega arith in rw w

pub closed_run : (f c : ℕ) (rs : List Run) → 0 < c → closed (f + c) c rs ≡ record { first = f; count = c } ∷ rs
unfolding closed
closed_run f zero rs h = absurd (omega arith)
closed_run f (suc c) rs h = let w : f + suc c - suc c ≡ f = omega arith in rw w

pub runs_spread : (i end : ℕ) (rs : List Run) → RunsApart i end rs → runs_from i 0 (spread i end rs) ≡ rs
unfolding spread closed runs_from
runs_spread i end [] a = let e = append-nil (replicate (end - i) false) in rw (← e) (skip_clear (end - i) i [])
runs_spread i end (r ∷ rs) a =
    let p = a.0 in
    let behind = r.first + r.count in
    let w : i + (r.first - i) ≡ r.first = omega arith in
    let z : 0 + r.count ≡ r.count = omega arith in
    let rest = spread behind end rs in
    let first = skip_clear (r.first - i) i (replicate r.count true ++ rest) in
    let second : runs_from r.first 0 (replicate r.count true ++ rest) ≡ runs_from behind r.count rest = rw z at (count_set r.count r.first 0 rest) in
    let third = run_ends behind r.count end rs a.2 a.3 in
    let fourth = runs_spread behind end rs (sooner (suc behind) behind end rs (omega arith) a.3) in
    first ∙ rw w (second ∙ third ∙ ap (closed behind r.count) fourth ∙ closed_run r.first r.count rs a.1)
