-- SPDX-License-Identifier: Apache-2.0 AND BSD-3-Clause
-- The laws of `specs/Rows.antt` that a caller cites. All are on lists of rows, and none speaks of words.
use Rattle.std.specs.Prelude.{Some, None}
use Prim.Native.Nat.{ℕ, zero, suc, ◌+◌, ◌-◌, ◌*◌, ◌≤◌, ◌<◌, min}
use mathlib.Core.Path.{◌≡◌, refl, ap}
use mathlib.Core.Bool.{true, false}
use mathlib.Core.List.{List, [], ◌∷◌}
use native.Mathlib.Omega.{arith}
use lib.Dec.{eqb}
use lib.ListN.{length, get_or, take, drop, length-take, length-drop}
use lib.Seq.{get_or-take, get_or-drop}
use borrow.Author.Tests.{eq-eqb, ne_eqb, eqb-true, eqb-false}
use Rattle.units.specs.Numbers.{map_region}
use Rattle.units.proofs.Tests.{by_test}
use Rattle.rows.specs.declared.MapRow.{MapRow}
use Rattle.rows.specs.Rows.{row_at, mapping_of, unmapped_from, first_unmapped, mapped_at, fill_rows, rows_laid}

-- ---- where a row is mapped: its two cases
module _ (rs : List MapRow) (i : ℕ) where
  pub mapping_unmapped : (row_at rs i).mapped ≡ 0 → mapping_of rs i ≡ None
  unfolding mapping_of
  mapping_unmapped m = rw (eq-eqb (row_at rs i).mapped 0 m)

  pub mapping_at : ((row_at rs i).mapped ≡ 0 → ⊥) → mapping_of rs i ≡ Some (row_at rs i).host
  unfolding mapping_of
  mapping_at m = rw (ne_eqb (row_at rs i).mapped 0 m)

-- it depends on nothing but that row
pub mapping_same : (rs ss : List MapRow) (i : ℕ) → row_at rs i ≡ row_at ss i → mapping_of rs i ≡ mapping_of ss i
unfolding mapping_of
mapping_same rs ss i e = rw e

-- ---- the search
-- row j is the first from `first` to `last` that is not mapped
pub record IsFirst (rs : List MapRow) (first last j : ℕ) : Type 0 where
  pub from : first ≤ j
  pub to : j ≤ last
  pub exists : j < length rs
  pub unmapped : (row_at rs j).mapped ≡ 0
  pub before : (k : ℕ) → first ≤ k → k < j → (row_at rs k).mapped ≡ 0 → ⊥

found_in : (i : ℕ) (ss : List MapRow) (j : ℕ) → unmapped_from i ss ≡ Some j → (i ≤ j) × (j < i + length ss) × ((row_at ss (j - i)).mapped ≡ 0) × ((k : ℕ) → i + k < j → (row_at ss k).mapped ≡ 0 → ⊥)
unfolding unmapped_from
found_in i [] j e = let z : ◌≡◌ {A = ℕ} 0 1 = cc in absurd (omega arith)
found_in i (r ∷ ss) j e =
    by_test (eqb r.mapped 0)
    (λ t.
    let q : Some i ≡ Some j = rw t at e in
    let d : i ≡ j = cc in
    let u : j - i ≡ 0 = omega arith in
    (omega arith, omega arith, rw u (eqb-true r.mapped 0 t), λ k l z. omega arith))
    (λ t.
    let w = found_in (suc i) ss j (rw t at e) in
    let u : j - i ≡ suc (j - suc i) = omega arith in
    (omega arith, omega arith, rw u w.2, past t w))
  where
    past : eqb r.mapped 0 ≡ false → ((suc i ≤ j) × (j < suc i + length ss) × ((row_at ss (j - suc i)).mapped ≡ 0) × ((k : ℕ) → suc i + k < j → (row_at ss k).mapped ≡ 0 → ⊥)) → (k : ℕ) → i + k < j → (row_at (r ∷ ss) k).mapped ≡ 0 → ⊥
    past t w zero l z = eqb-false r.mapped 0 t z
    past t w (suc k) l z = w.3 k (omega arith) z

none_in : (i : ℕ) (ss : List MapRow) → unmapped_from i ss ≡ None → (k : ℕ) → k < length ss → (row_at ss k).mapped ≡ 0 → ⊥
unfolding unmapped_from
none_in i [] e k l z = omega arith
none_in i (r ∷ ss) e zero l z =
    let t : eqb r.mapped 0 ≡ true = eq-eqb r.mapped 0 z in
    let q : Some i ≡ None = rw t at e in
    let z : ◌≡◌ {A = ℕ} 0 1 = cc in omega arith
none_in i (r ∷ ss) e (suc k) l z =
    by_test (eqb r.mapped 0)
    (λ t. let q : Some i ≡ None = rw t at e in let z : ◌≡◌ {A = ℕ} 0 1 = cc in omega arith)
    (λ t. none_in (suc i) ss (rw t at e) k (omega arith) z)

in_range : (rs : List MapRow) (first last k : ℕ) → first + k ≤ last → row_at (take (last + 1 - first) (drop first rs)) k ≡ row_at rs (first + k)
in_range rs first last k l = let h : k < last + 1 - first = omega arith in rw (get_or-take, get_or-drop)

pub first_found : (rs : List MapRow) (first last j : ℕ) → first_unmapped rs first last ≡ Some j → IsFirst rs first last j
first_found rs first last j e =
    let w = found_in first (take (last + 1 - first) (drop first rs)) j e in
    let l = rw (length-drop first rs) at (length-take (last + 1 - first) (drop first rs)) in
    let d : first + (j - first) ≡ j = omega arith in
    record {
      from = w.0;
      to = omega arith;
      exists = omega arith;
      unmapped = rw d at (rw (in_range rs first last (j - first) (omega arith)) at w.2);
      before = λ k p q z.
          let d : first + (k - first) ≡ k = omega arith in
          w.3 (k - first) (omega arith) (rw (in_range rs first last (k - first) (omega arith), d) z);
    }

pub first_none : (rs : List MapRow) (first last : ℕ) → first_unmapped rs first last ≡ None → (k : ℕ) → first ≤ k → k ≤ last → k < length rs → (row_at rs k).mapped ≡ 0 → ⊥
first_none rs first last e k p q l z =
    let d : first + (k - first) ≡ k = omega arith in
    let m = rw (length-drop first rs) at (length-take (last + 1 - first) (drop first rs)) in
    none_in first (take (last + 1 - first) (drop first rs)) e (k - first) (omega arith) (rw (in_range rs first last (k - first) (omega arith), d) z)

-- ---- filling
pub fill_length : (rs : List MapRow) (i n h : ℕ) → length (fill_rows rs i n h) ≡ length rs
unfolding fill_rows
fill_length [] i n h = refl
fill_length (r ∷ rs) (suc i) n h = ap suc (fill_length rs i n h)
fill_length (r ∷ rs) zero zero h = refl
fill_length (r ∷ rs) zero (suc n) h = ap suc (fill_length rs zero n (h + map_region))

-- nothing to fill, or nothing there
pub fill_nothing : (rs : List MapRow) (i n h : ℕ) → min n (length rs - i) ≡ 0 → fill_rows rs i n h ≡ rs
unfolding fill_rows
fill_nothing [] i n h e = refl
fill_nothing (r ∷ rs) (suc i) n h e = rw (fill_nothing rs i n h (omega arith))
fill_nothing (r ∷ rs) zero zero h e = refl
fill_nothing (r ∷ rs) zero (suc n) h e = absurd (omega arith)

-- a row that is filled is mapped, its slot as it was and its host address saturates at 2^64 - 1
pub fill_inside : (rs : List MapRow) (i n h j : ℕ) → i ≤ j → j < i + n → j < length rs → row_at (fill_rows rs i n h) j ≡ mapped_at (h + (j - i) * map_region) (row_at rs j)
unfolding fill_rows
fill_inside [] i n h j p q l = absurd (omega arith)
fill_inside (r ∷ rs) (suc i) n h zero p q l = absurd (omega arith)
fill_inside (r ∷ rs) (suc i) n h (suc j) p q l =
    let e : suc j - suc i ≡ j - i = omega arith in
    rw e (fill_inside rs i n h j (omega arith) (omega arith) (omega arith))
fill_inside (r ∷ rs) zero zero h j p q l = absurd (omega arith)
fill_inside (r ∷ rs) zero (suc n) h zero p q l = let e : h + 0 ≡ h = omega arith in rw e
fill_inside (r ∷ rs) zero (suc n) h (suc j) p q l =
    let e : h + (suc j - 0) * map_region ≡ h + map_region + (j - 0) * map_region = omega arith in
    rw e (fill_inside rs zero n (h + map_region) j (omega arith) (omega arith) (omega arith))

pub fill_before : (rs : List MapRow) (i n h j : ℕ) → j < i → row_at (fill_rows rs i n h) j ≡ row_at rs j
unfolding fill_rows
fill_before [] i n h j k = refl
fill_before (r ∷ rs) (suc i) n h zero k = refl
fill_before (r ∷ rs) (suc i) n h (suc j) k = fill_before rs i n h j (omega arith)
fill_before (r ∷ rs) zero n h j k = absurd (omega arith)

pub fill_after : (rs : List MapRow) (i n h j : ℕ) → i + n ≤ j → row_at (fill_rows rs i n h) j ≡ row_at rs j
unfolding fill_rows
fill_after [] i n h j k = refl
fill_after (r ∷ rs) (suc i) n h zero k = absurd (omega arith)
fill_after (r ∷ rs) (suc i) n h (suc j) k = fill_after rs i n h j (omega arith)
fill_after (r ∷ rs) zero zero h j k = refl
fill_after (r ∷ rs) zero (suc n) h zero k = absurd (omega arith)
fill_after (r ∷ rs) zero (suc n) h (suc j) k = fill_after rs zero n (h + map_region) j (omega arith)

-- ---- laying
pub laid_length : (rs : List MapRow) (ss : List ℕ) → length (rows_laid rs ss) ≡ length rs
unfolding rows_laid
laid_length [] ss = refl
laid_length (r ∷ rs) [] = refl
laid_length (r ∷ rs) (s ∷ ss) = ap suc (laid_length rs ss)

pub laid_inside : (rs : List MapRow) (ss : List ℕ) (j : ℕ) → j < length rs → j < length ss → row_at (rows_laid rs ss) j ≡ record { slot = get_or ss j 0; mapped = 0; host = record { 0 = 0 } }
unfolding rows_laid
laid_inside [] ss j l k = absurd (omega arith)
laid_inside (r ∷ rs) [] j l k = absurd (omega arith)
laid_inside (r ∷ rs) (s ∷ ss) zero l k = refl
laid_inside (r ∷ rs) (s ∷ ss) (suc j) l k = laid_inside rs ss j (omega arith) (omega arith)
