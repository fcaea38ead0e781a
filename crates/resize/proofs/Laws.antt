-- SPDX-License-Identifier: Apache-2.0 AND BSD-3-Clause
-- The laws of `specs/Resize.antt` that callers cite.
use Rattle.std.specs.Prelude.{Option, Some, None}
use Prim.Native.Nat.{ℕ, ◌+◌, ◌*◌, ◌/◌, ◌%◌, ◌≤◌, ◌<◌, min}
use mathlib.Core.Path.{◌≡◌, refl, sym, ap, ◌∙◌}
use mathlib.Core.Bool.{Bool, true, false}
use mathlib.Core.List.{List}
use native.Mathlib.Nat.{div-add-mod', div-mul-le_self, mul-mod_left, zero-mod}
use native.Mathlib.Omega.{arith}
use lib.Dec.{ltb, eqb}
use lib.ListN.{length}
use borrow.Author.Tests.{ltb-true, lt-ltb, ne_eqb}
use Rattle.units.proofs.Tests.{by_test}
use Rattle.rows.specs.declared.MapRow.{MapRow}
use Rattle.rows.specs.Rows.{first_unmapped, row_at}
use Rattle.rows.proofs.Laws.{IsFirst, first_found, first_none}
use Rattle.resize.specs.declared.Creation.{Creation}
use Rattle.resize.specs.Resize.{new_size, end_row, creation_size, growth_at, growth_of, creation}

-- ---- the new size is at most the region, and whole blocks
pub new_within : (b region requested alignment : ℕ) → new_size b region requested alignment ≤ region
unfolding new_size
new_within b region requested alignment =
    by_test (eqb requested 0) (λ t. rw t (omega arith))
    (λ t. rw t (omega (arith, div-mul-le_self (min region (requested + 2 * alignment)) b)))

pub new_whole : (b region requested alignment : ℕ) → new_size b region requested alignment % b ≡ 0
unfolding new_size
new_whole b region requested alignment =
    by_test (eqb requested 0) (λ t. rw t (zero-mod b))
    (λ t. rw t (mul-mod_left (min region (requested + 2 * alignment) / b) b))

-- of whole blocks it is exact: nothing is rounded (R6.1)
pub new_exact : (b region requested alignment : ℕ) → 0 < requested → min region (requested + 2 * alignment) % b ≡ 0 → new_size b region requested alignment ≡ min region (requested + 2 * alignment)
unfolding new_size
new_exact b region requested alignment h e =
    rw (ne_eqb requested 0 (λ z. omega arith))
    (omega (arith, div-add-mod' (min region (requested + 2 * alignment)) b))

-- ---- a creation is its three numbers
first_in : Option Creation → ℕ
first_in (Some made) = made.first
first_in None = 0

last_in : Option Creation → ℕ
last_in (Some made) = made.last
last_in None = 0

size_in : Option Creation → ℕ
size_in (Some made) = made.size
size_in None = 0

pub record SameCreation (i l n i' l' n' : ℕ) : Type 0 where
  pub first : i ≡ i'
  pub last : l ≡ l'
  pub size : n ≡ n'

pub same_creation : (i l n i' l' n' : ℕ) → creation i l n ≡ creation i' l' n' → SameCreation i l n i' l' n'
unfolding first_in last_in size_in
same_creation i l n i' l' n' e = record { first = ap first_in e; last = ap last_in e; size = ap size_in e }

-- ---- what a question says
pub record Asking (region : ℕ) (several : Bool) (usable new : ℕ) (rows : List MapRow) (i last size : ℕ) : Type 0 where
  pub regions : several ≡ true
  pub grows : usable < new
  pub ends : last ≡ end_row region true new
  pub search : IsFirst rows (end_row region true usable) last i
  pub bytes : size ≡ creation_size region true i last

pub asking : (region : ℕ) (several : Bool) (usable new : ℕ) (rows : List MapRow) (i last size : ℕ) → growth_of region several usable new rows ≡ creation i last size → Asking region several usable new rows i last size
unfolding growth_of growth_at
asking region false usable new rows i last size e = let z : ◌≡◌ {A = ℕ} 0 1 = cc in absurd (omega arith)
asking region true usable new rows i last size e =
    by_test (ltb usable new)
    (λ t. by_found (first_unmapped rows (end_row region true usable) (end_row region true new)) refl (ltb-true usable new t) (rw t at e))
    (λ t. let f : None ≡ creation i last size = rw t at e in let z : ◌≡◌ {A = ℕ} 0 1 = cc in absurd (omega arith))
  where
    by_found : (f : Option ℕ) → first_unmapped rows (end_row region true usable) (end_row region true new) ≡ f → usable < new → growth_at f region true (end_row region true new) ≡ creation i last size → Asking region true usable new rows i last size
    by_found None p h q = let z : ◌≡◌ {A = ℕ} 0 1 = cc in absurd (omega arith)
    by_found (Some j) p h q =
        let same = same_creation j _ _ i last size q in
        record {
          regions = refl;
          grows = h;
          ends = sym same.last;
          search = rw (sym same.last) (first_found rows (end_row region true usable) (end_row region true new) i (rw same.first at p));
          bytes = sym same.size ∙ rw (same.first, same.last);
        }

-- ---- where nothing is asked although the usable size grows, every row of the growth that exists is mapped
pub settled : (region usable new : ℕ) (rows : List MapRow) → growth_of region true usable new rows ≡ None → usable < new
    → (k : ℕ) → end_row region true usable ≤ k → k ≤ end_row region true new → k < length rows → (row_at rows k).mapped ≡ 0 → ⊥
unfolding growth_of growth_at
settled region usable new rows e h = by_found (first_unmapped rows (end_row region true usable) (end_row region true new)) refl (rw (lt-ltb usable new h) at e)
  where
    by_found : (f : Option ℕ) → first_unmapped rows (end_row region true usable) (end_row region true new) ≡ f → growth_at f region true (end_row region true new) ≡ None
        → (k : ℕ) → end_row region true usable ≤ k → k ≤ end_row region true new → k < length rows → (row_at rows k).mapped ≡ 0 → ⊥
    by_found None p q = first_none rows (end_row region true usable) (end_row region true new) p
    by_found (Some j) p q = let z : ◌≡◌ {A = ℕ} 0 1 = cc in absurd (omega arith)
