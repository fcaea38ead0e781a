-- SPDX-License-Identifier: Apache-2.0 AND BSD-3-Clause
-- What one turn of a loop over the rows does.
use Rattle.std.specs.Prelude.{Some}
use Prim.Native.Nat.{ℕ, zero, suc, ◌+◌, ◌-◌, ◌*◌, ◌≤◌, ◌<◌, min}
use mathlib.Core.Path.{◌≡◌, refl, ap, sym, ◌∙◌}
use mathlib.Core.List.{List, [], ◌∷◌}
use native.Mathlib.Numerals.{add-one}
use native.Mathlib.Omega.{arith}
use lib.ListN.{length, get_or, set, take, drop, length-set}
use lib.Seq.{drop-cons, drop-nil, take-nil}
use Rattle.units.specs.Numbers.{saturated, map_region}
use borrow.Author.Tests.{eq-eqb, ne_eqb}
use Rattle.rows.specs.declared.MapRow.{MapRow}
use Rattle.rows.specs.Rows.{rows_of, written, row_at, unmapped_from, mapped_at, fill_rows, rows_laid}
use Rattle.rows.proofs.Words.{read_back, written_again}
use Rattle.rows.proofs.Laws.{fill_length, laid_length}

-- row i is written, and then f does the rest
put_on : (ws ws' : List ℕ) (i : ℕ) (row : MapRow) (f : List MapRow → List MapRow) (rs : List MapRow) → ws' ≡ written ws (set (rows_of ws) i row) → f (set (rows_of ws) i row) ≡ rs → length rs ≡ length (rows_of ws) → written ws' (f (rows_of ws')) ≡ written ws rs
put_on ws ws' i row f rs e q l =
    let k : length (set (rows_of ws) i row) ≡ length (rows_of ws) = length-set (rows_of ws) i row in
    rw (e, read_back ws (set (rows_of ws) i row) k, q) (written_again ws (set (rows_of ws) i row) rs (l ∙ sym k))

-- ---- the search
-- nothing to look at, or nothing there
pub range_nothing : (rs : List MapRow) (i n : ℕ) → min n (length rs - i) ≡ 0 → take n (drop i rs) ≡ []
range_nothing [] i n e = rw (drop-nil i) (take-nil n)
range_nothing (r ∷ rs) (suc i) n e = range_nothing rs i n (omega arith)
range_nothing (r ∷ rs) zero zero e = refl
range_nothing (r ∷ rs) zero (suc n) e = absurd (omega arith)

-- row i is looked at, and it is mapped
pub search_on : (rs : List MapRow) (i n : ℕ) → i < length rs → ((row_at rs i).mapped ≡ 0 → ⊥) → unmapped_from (i + 1) (take n (drop (i + 1) rs)) ≡ unmapped_from i (take (suc n) (drop i rs))
unfolding unmapped_from
search_on rs i n l m = rw (drop-cons rs i (record { slot = 0; mapped = 0; host = record { 0 = 0 } }) l, ne_eqb (row_at rs i).mapped 0 m, add-one)

-- row i is looked at, and it is not mapped
pub search_ends : (rs : List MapRow) (i n : ℕ) → i < length rs → (row_at rs i).mapped ≡ 0 → Some i ≡ unmapped_from i (take (suc n) (drop i rs))
unfolding unmapped_from
search_ends rs i n l m = rw (drop-cons rs i (record { slot = 0; mapped = 0; host = record { 0 = 0 } }) l, eq-eqb (row_at rs i).mapped 0 m)

-- ---- filling
-- one row, then the rest
fill_turn : (rs : List MapRow) (i n h : ℕ) → i < length rs → fill_rows (set rs i (mapped_at h (row_at rs i))) (suc i) n (h + map_region) ≡ fill_rows rs i (suc n) h
unfolding fill_rows
fill_turn [] i n h l = absurd (omega arith)
fill_turn (r ∷ rs) (suc i) n h l = rw (fill_turn rs i n h (omega arith))
fill_turn (r ∷ rs) zero n h l = refl

-- the next row's address is 2 GiB past this row's
pub next_at : (h first i : ℕ) → first ≤ i → h + (i + 1 - first) * map_region ≡ h + (i - first) * map_region + map_region
next_at h first i l = omega arith

-- a sum with a part that is held is held where it would be
pub saturated_twice : (h offset n at : ℕ) → offset ≡ saturated n → at ≡ saturated (h + offset) → at ≡ saturated (h + n)
saturated_twice h offset n at p q = omega arith

-- the code has mapped row i at h
pub fill_put : (ws ws' : List ℕ) (i n h s at : ℕ) → i < length (rows_of ws) → s ≡ (row_at (rows_of ws) i).slot → at ≡ saturated h → ws' ≡ written ws (set (rows_of ws) i (record { slot = s; mapped = 1; host = record { 0 = at } })) → written ws' (fill_rows (rows_of ws') (i + 1) n (h + map_region)) ≡ written ws (fill_rows (rows_of ws) i (suc n) h)
fill_put ws ws' i n h s at l p q e =
    put_on ws ws' i (record { slot = s; mapped = 1; host = record { 0 = at } }) (λ rs. fill_rows rs (i + 1) n (h + map_region)) (fill_rows (rows_of ws) i (suc n) h) e
    (rw (add-one, p, q) (fill_turn (rows_of ws) i n h l))
    (fill_length (rows_of ws) i (suc n) h)

-- ---- laying
-- the slots laid from row j on
unfoldable pub laid_from : ℕ → List MapRow → List ℕ → List MapRow
laid_from j [] ss = []
laid_from zero (r ∷ rs) ss = rows_laid (r ∷ rs) ss
laid_from (suc j) (r ∷ rs) ss = r ∷ laid_from j rs ss

pub laid_start : (rs : List MapRow) (ss : List ℕ) → laid_from zero rs ss ≡ rows_laid rs ss
unfolding laid_from rows_laid
laid_start [] ss = refl
laid_start (r ∷ rs) ss = refl

pub laid_none : (j : ℕ) (rs : List MapRow) → laid_from j rs [] ≡ rs
unfolding laid_from rows_laid
laid_none j [] = refl
laid_none zero (r ∷ rs) = refl
laid_none (suc j) (r ∷ rs) = rw (laid_none j rs)

laid_turn : (j : ℕ) (rs : List MapRow) (s : ℕ) (ss : List ℕ) → laid_from (suc j) (set rs j (record { slot = s; mapped = 0; host = record { 0 = 0 } })) ss ≡ laid_from j rs (s ∷ ss)
unfolding laid_from rows_laid
laid_turn j [] s ss = refl
laid_turn zero (r ∷ rs) s ss = rw (laid_start rs ss)
laid_turn (suc j) (r ∷ rs) s ss = rw (laid_turn j rs s ss)

from_length : (j : ℕ) (rs : List MapRow) (ss : List ℕ) → length (laid_from j rs ss) ≡ length rs
unfolding laid_from
from_length j [] ss = refl
from_length zero (r ∷ rs) ss = laid_length (r ∷ rs) ss
from_length (suc j) (r ∷ rs) ss = ap suc (from_length j rs ss)

-- the code has laid row j
pub laid_put : (ws ws' : List ℕ) (j : ℕ) (slots : List ℕ) → j < length slots → ws' ≡ written ws (set (rows_of ws) j (record { slot = get_or slots j 0; mapped = 0; host = record { 0 = 0 } })) → written ws' (laid_from (j + 1) (rows_of ws') (drop (j + 1) slots)) ≡ written ws (laid_from j (rows_of ws) (drop j slots))
laid_put ws ws' j slots l e =
    put_on ws ws' j (record { slot = get_or slots j 0; mapped = 0; host = record { 0 = 0 } }) (λ rs. laid_from (j + 1) rs (drop (j + 1) slots)) (laid_from j (rows_of ws) (drop j slots)) e
    (rw (add-one, drop-cons slots j 0 l) (laid_turn j (rows_of ws) (get_or slots j 0) (drop (suc j) slots)))
    (from_length j (rows_of ws) (drop j slots))
