-- SPDX-License-Identifier: Apache-2.0 AND BSD-3-Clause
-- What the planner proposes is legal on a device with sound rows.
use Rattle.std.specs.Prelude.{Option, Some, None, Ok}
use Prim.Native.Nat.{ℕ, zero, suc, ◌+◌, ◌-◌, ◌*◌, ◌/◌, ◌%◌, ◌≤◌, ◌<◌}
use mathlib.Core.Path.{◌≡◌, refl, ap, ◌∙◌, sym}
use mathlib.Core.Bool.{Bool, true, false}
use mathlib.Core.List.{List}
use native.Mathlib.Nat.{add-mul, mul-le-mul_right, mul-div-mul_right, div-add-mod', le-div_iff_mul-le, add-mul-mod_self_right, mul-div_cancel, mul_assoc}
use native.Mathlib.Omega.{arith}
use lib.Dec.{ltb}
use borrow.Author.Tests.{le-ltb, ltb-true, ltb-false}
use Rattle.units.specs.Numbers.{top, bytes_of, blocks_in, map_region}
use Rattle.bitmap.specs.Blocks.{block_at, all_are, next_set, next_clear}
use Rattle.bitmap.proofs.Laws.{Lowest, all_split, next_at, next_nothing}
use Rattle.units.proofs.Tests.{by_test, and_left}
use Rattle.units.specs.declared.HostAddr.{HostAddr}
use Rattle.rows.specs.declared.MapRow.{MapRow}
use Rattle.rows.specs.Rows.{row_at}
use Rattle.rows.proofs.Laws.{mapping_at}
use Rattle.change.specs.Change.{host_of, host_in, host_sum, legal, change_of}
use Rattle.change.proofs.Laws.{host_is, legal_when}
use Rattle.driver.proofs.Laws.{border}
use Rattle.driver.specs.Plan.{border_after, limit_of, stop_at, stop_of, room_of, count_of}
use Rattle.driving.specs.Sound.{SoundRows}

clash : {A : Type 0} {t : Bool} → t ≡ true → t ≡ false → A
clash p q = let z : ◌≡◌ {A = ℕ} 0 1 = cc in absurd (omega arith)

-- ---- the run of free blocks from there
module _ (b usable : ℕ) (bs : List Bool) (first : ℕ) (pos : 0 < blocks_in b map_region) (f : Lowest false bs 0 (blocks_in b usable) first) where
  below_border : first < border_after b first
  below_border = (border first (blocks_in b map_region) pos).above

  pub record Run (stop : ℕ) : Type 0 where
    pub some : first < stop
    pub in_usable : stop ≤ blocks_in b usable
    pub in_border : stop ≤ border_after b first
    pub all_free : all_are bs first (stop - first) false ≡ true

  pub run : Run (stop_of b usable bs first)
  run = go (next_set bs first (limit_of b usable first)) refl
    where
      limit : ℕ
      limit = limit_of b usable first

      go : (x : Option ℕ) → next_set bs first limit ≡ x → Run (stop_at x limit)
      go None e =
          record { some = omega (arith, below_border, f.before_end); in_usable = omega arith; in_border = omega arith; all_free = next_nothing true bs first limit e }
      go (Some i) e =
          let l = next_at true bs first limit i e in
          record {
            some = not_first i l.from_on l.found;
            in_usable = omega (arith, l.before_end);
            in_border = omega (arith, l.before_end);
            all_free = l.none_below;
          }
        where
          not_first : (i : ℕ) → first ≤ i → block_at bs i ≡ true → first < i
          not_first i p q = by_test (ltb first i) (λ t. ltb-true first i t) (λ t. let e : i ≡ first = omega (arith, ltb-false first i t) in clash (rw e at q) f.found)

-- ---- and what the requested size has room for of it
part_free : (bs : List Bool) (first n m : ℕ) → m ≤ n → all_are bs first n false ≡ true → all_are bs first m false ≡ true
part_free bs first n m h e =
    let w : n ≡ m + (n - m) = omega arith in
    and_left (all_are bs first m false) _ (sym (all_split bs first m (n - m) false) ∙ ap (λ (k : ℕ). all_are bs first k false) (sym w) ∙ e)

-- ---- a run that stops at the border crosses none
module _ (b p : ℕ) (pos : 0 < b) where
  offset_in : (first : ℕ) → first * b % (p * b) ≡ first % p * b
  offset_in first =
      let e = div-add-mod' (first * b) (p * b) in
      let q : first * b / (p * b) ≡ first / p = mul-div-mul_right first p pos in
      let m : first * b / (p * b) * (p * b) ≡ first / p * p * b = rw (q, mul_assoc) in
      let w = add-mul (first / p * p) (first % p) b in
      let v : (first / p * p + first % p) * b ≡ first * b = ap (λ n. n * b) (div-add-mod' first p) in
      omega arith

  pub no_border : (first count : ℕ) → first + count ≤ suc (first / p) * p → first * b % (p * b) + count * b ≤ p * b
  no_border first count h =
      let e = div-add-mod' first p in
      let n : first % p + count ≤ p = omega arith in
      rw (offset_in first, ← add-mul (first % p) count b) (mul-le-mul_right b n)

-- ---- the host has it
module _ (several : Bool) (usable : ℕ) (rows : List MapRow) (sound : SoundRows several usable rows) where
  pub hosted : (offset size : ℕ) → 0 < size → offset + size ≤ usable → offset % map_region + size ≤ map_region
      → (host : HostAddr) × (host_of several rows offset size ≡ Ok host)
  unfolding host_of host_in host_sum
  hosted offset size s u m = go several refl
    where
      go : (t : Bool) → several ≡ t → (host : HostAddr) × (host_of several rows offset size ≡ Ok host)
      go true e =
          let row = row_at rows (offset / map_region) in
          let mapped : row.mapped ≡ 0 → ⊥ = rw e at (sound.mapped offset (omega arith)) in
          let same : (offset + (size - 1)) / map_region ≡ offset / map_region = omega arith in
          let room : row.host.0 + (offset + (size - 1)) % map_region < top = rw (e, same) at (sound.fits (offset + (size - 1)) (omega arith)) in
          (record { 0 = row.host.0 + offset % map_region }, rw (e, le-ltb map_region (offset % map_region + size) m, mapping_at rows (offset / map_region) mapped, le-ltb top (row.host.0 + offset % map_region + size) (omega arith)))
      go false e =
          let row = row_at rows 0 in
          let mapped : row.mapped ≡ 0 → ⊥ = rw e at (sound.mapped offset (omega arith)) in
          let room : row.host.0 + (offset + (size - 1)) < top = rw e at (sound.fits (offset + (size - 1)) (omega arith)) in
          (record { 0 = row.host.0 + offset }, rw (e, mapping_at rows 0 mapped, le-ltb top (row.host.0 + offset + size) (omega arith)))

-- ---- what is proposed is legal: (a), and (b) to (d) at its first block
module _ (b start usable plugged requested : ℕ) (several : Bool) (bs : List Bool) (rows : List MapRow) (pos : 0 < b) (whole : blocks_in b map_region * b ≡ map_region) (aligned : start % b ≡ 0)
    (ends : start + usable ≤ top) (sound : SoundRows several usable rows) (first : ℕ) (lowest : next_clear bs 0 (blocks_in b usable) ≡ Some first) (room : room_of b plugged requested ≡ 0 → ⊥) where
  pub record Proposed (count : ℕ) : Type 0 where
    pub some : 0 < count
    pub within : plugged + bytes_of b count ≤ requested
    pub host : HostAddr
    pub legal : change_of b start usable several (start + bytes_of b first) count true bs rows ≡ legal first (record { 0 = bytes_of b first }) host

  -- as many blocks as proposed, or fewer
  pub proposed : (count : ℕ) → 0 < count → count ≤ count_of b usable plugged requested bs first → Proposed count
  proposed count some most =
      let p = blocks_in b map_region in
      let f = next_at false bs 0 (blocks_in b usable) first lowest in
      let p-pos : 0 < p = positive p whole in
      let r = run b usable bs first p-pos f in
      let to-usable : first + count ≤ blocks_in b usable = omega (arith, r.in_usable, r.some) in
      let to-border : first + count ≤ suc (first / p) * p = omega (arith, r.in_border, r.some) in
      let few : count ≤ (requested - plugged) / b = omega arith in
      let bytes : count * b ≤ requested - plugged = (le-div_iff_mul-le pos).0 few in
      let all : (first + count) * b ≤ usable = (le-div_iff_mul-le pos).0 to-usable in
      let sum = add-mul first count b in
      let one : b ≤ count * b = at_least count some in
      let inside : first * b % map_region + count * b ≤ map_region = rw whole at (no_border b p pos first count to-border) in
      let h = hosted several usable rows sound (first * b) (count * b) (omega arith) (omega arith) inside in
      let free = part_free bs first (stop_of b usable bs first - first) count (omega arith) r.all_free in
      record {
        some = some;
        within = omega arith;
        host = h.0;
        legal = legal_when b start usable several (start + first * b) count true bs rows first (record { 0 = first * b }) h.0 pos (record {
          in_range = record {
            aligned = add-mul-mod_self_right start first b ∙ aligned;
            some = some;
            below_top = omega arith;
            from_start = omega arith;
            offset_is = omega arith;
            in_usable = omega arith;
          };
          first_is = sym (mul-div_cancel first pos);
          not-wanted = free;
          host_at = h.1;
          hosted = host_is several rows (first * b) (count * b) h.0 h.1;
        });
      }
    where
      positive : (p : ℕ) → p * b ≡ map_region → 0 < p
      positive zero e = absurd (omega arith)
      positive (suc p) e = omega arith

      at_least : (count : ℕ) → 0 < count → b ≤ count * b
      at_least zero h = absurd (omega arith)
      at_least (suc count) h = omega arith

  pub some_count : 0 < count_of b usable plugged requested bs first
  some_count =
      let f = next_at false bs 0 (blocks_in b usable) first lowest in
      let r = run b usable bs first (positive (blocks_in b map_region) whole) f in
      omega (arith, r.some)
    where
      positive : (p : ℕ) → p * b ≡ map_region → 0 < p
      positive zero e = absurd (omega arith)
      positive (suc p) e = omega arith
