-- SPDX-License-Identifier: Apache-2.0 AND BSD-3-Clause
-- What holds of a device that was just made: here every history begins.
use Rattle.std.specs.Prelude.{Option, Ok, Err}
use Prim.Native.Nat.{ℕ, ◌+◌, ◌-◌, ◌*◌, ◌%◌, ◌^◌, ◌≤◌, ◌<◌}
use mathlib.Core.Path.{◌≡◌, refl}
use mathlib.Core.Bool.{Bool, true, false, not, ◌&&◌}
use native.Mathlib.Nat.{div-mul-le_self, zero-mod}
use native.Mathlib.Omega.{arith}
use lib.Dec.{ltb, eqb}
use borrow.Author.Tests.{eq-eqb, eqb-true, eqb-false, le-leb, lt-ltb, ltb-false}
use Rattle.units.specs.Numbers.{top, map_region, between, twos, alignment_of, next_multiple, capacity_of}
use Rattle.units.proofs.Tests.{by_test}
use Rattle.record.specs.declared.Device.{Device}
use Rattle.record.specs.declared.Pending.TheVariants.{Nothing}
use Rattle.record.specs.Shape.{alignment_ok, region_ok, size_ok, span_of, start_ok, several_ok, pending_ok, shaped_of}
use Rattle.record.proofs.Laws.{by_alignment, spans, size_ok_lem, whole}
use Rattle.refusal.specs.declared.Refusal.{Refusal}
use Rattle.refusal.specs.declared.Refusal.TheVariants.{WrongSize, CapacityTooLarge}
use Rattle.making.specs.Made.{new_device, made}
use Rattle.making.proofs.Asked.{Asked, asked_is}

-- ---- the alignment is one of the five
power_ok : (m : ℕ) → 27 ≤ m → m ≤ 31 → alignment_ok (2 ^ m) ≡ true
unfolding alignment_ok
power_ok m l h =
    by_test (eqb m 27) (λ t. rw (eqb-true m 27 t))
    (λ t. by_test (eqb m 28) (λ u. rw (eqb-true m 28 u))
    (λ u. by_test (eqb m 29) (λ v. rw (eqb-true m 29 v))
    (λ v. by_test (eqb m 30) (λ w. rw (eqb-true m 30 w))
    (λ w.
    let e : m ≡ 31 = only (eqb-false m 27 t) (eqb-false m 28 u) (eqb-false m 29 v) (eqb-false m 30 w) in
    rw e))))
  where
    only : (m ≡ 27 → ⊥) → (m ≡ 28 → ⊥) → (m ≡ 29 → ⊥) → (m ≡ 30 → ⊥) → m ≡ 31
    only a b d e = omega arith

pub alignment_ok_lem : (boot : ℕ) → alignment_ok (alignment_of boot) ≡ true
unfolding alignment_of
alignment_ok_lem boot =
    by_test (ltb boot 68719476736) (λ t. rw t (power_ok 27 (omega arith) (omega arith)))
    (λ t. rw t (power_ok (between (twos boot)) (omega arith) (omega arith)))

-- ---- the region is the capacity rounded up
pub round_within : (n to : ℕ) → next_multiple n to ≤ n + (to - 1)
unfolding next_multiple
round_within n to = div-mul-le_self (n + (to - 1)) to

pub record Rounded (capacity a : ℕ) : Type 0 where
  pub some : 0 < capacity_of capacity a
  pub high : capacity_of capacity a ≤ 1099511627776
  pub twice : capacity_of capacity a % (2 * a) ≡ 0

pub rounded : (capacity : ℕ) → 0 < capacity → capacity ≤ 1048576 → (a : ℕ) → alignment_ok a ≡ true → Rounded capacity a
unfolding next_multiple
rounded capacity l h =
    by_alignment (Rounded capacity)
    (record { some = omega arith; high = omega arith; twice = omega arith })
    (record { some = omega arith; high = omega arith; twice = omega arith })
    (record { some = omega arith; high = omega arith; twice = omega arith })
    (record { some = omega arith; high = omega arith; twice = omega arith })
    (record { some = omega arith; high = omega arith; twice = omega arith })

region_ok_lem : (region a : ℕ) → alignment_ok a ≡ true → 0 < region → region ≤ 1099511627776 → region % (2 * a) ≡ 0 → region_ok region a ≡ true
unfolding region_ok
region_ok_lem region a e l h m = simp (e, lt-ltb 0 region l, eq-eqb (region % (2 * a)) 0 m, le-leb region 1099511627776 h)

span_high : (region : ℕ) (several : Bool) → region ≤ 1099511627776 → span_of region several ≤ top
unfolding span_of
span_high region true h = omega (arith, (spans region true).few h)
span_high region false h = omega arith

start_zero : (region : ℕ) (several : Bool) (a : ℕ) → region ≤ 1099511627776 → start_ok 0 region several a ≡ true
unfolding start_ok
start_zero region several a h = simp (zero-mod a, le-leb (0 + span_of region several) top (omega (arith, span_high region several h)))

several_kept : (several : Bool) (region : ℕ) → several_ok (several && ltb map_region region) region ≡ true
unfolding several_ok
several_kept true region = by_test (ltb map_region region) (λ t. rw t) (λ t. rw t)
several_kept false region = refl

-- ---- a made device
pub record New (d : Device) : Type 0 where
  pub shape : shaped_of d ≡ true
  pub unplaced : d.placed ≡ false
  pub idle : d.pending ≡ Nothing
  pub unusable : d.config.usable_region_size ≡ 0
  pub unplugged : d.config.plugged_size ≡ 0

new_is : (capacity : ℕ) → 0 < capacity → capacity ≤ 1048576 → (requested a : ℕ) → alignment_ok a ≡ true → Asked 4194304 requested (capacity_of capacity a) → (several : Bool) (node : Option ℕ) → New (new_device (capacity_of capacity a) requested a several node)
unfolding pending_ok
new_is capacity l h requested a e q several node =
    let region = capacity_of capacity a in
    let r = rounded capacity l h a e in
    record {
      shape = whole (new_device region requested a several node)
          (record {
            block = refl;
            region = region_ok_lem region a e r.some r.high r.twice;
            requested = size_ok_lem 4194304 requested region refl q.whole q.within;
            usable = size_ok_lem 4194304 0 region refl refl (omega arith);
            plugged = size_ok_lem 4194304 0 region refl refl (omega arith);
            start = start_zero region (several && ltb map_region region) a r.high;
            several = several_kept several region;
            pending = refl;
          });
      unplaced = refl;
      idle = refl;
      unusable = refl;
      unplugged = refl;
    }

pub made_new : (capacity requested : ℕ) (several : Bool) (node : Option ℕ) (boot : ℕ) (d : Device) → made capacity requested several node boot ≡ Ok d → New d
unfolding made
made_new capacity requested several node boot d e =
    let a = alignment_of boot in
    let region = capacity_of capacity a in
    by_test (ltb 1048576 capacity) (λ t. never CapacityTooLarge (rw t at e))
    (λ t. by_test (eqb capacity 0) (λ u. never WrongSize (rw (t, u) at e))
    (λ u. by_test (not (size_ok 4194304 (requested * 1048576) region)) (λ v. never WrongSize (simp (t, u, v) at e))
    (λ v.
    let f : Ok (new_device region (requested * 1048576) a several node) ≡ Ok d = simp (t, u, v) at e in
    let same : new_device region (requested * 1048576) a several node ≡ d = cc in
    rw same at (new_is capacity (positive (eqb-false capacity 0 u)) (ltb-false 1048576 capacity t) (requested * 1048576) a (alignment_ok_lem boot) (asked_is 4194304 (requested * 1048576) region _ refl v) several node))))
  where
    never : (r : Refusal) → Err r ≡ Ok d → New d
    never r q = let z : ◌≡◌ {A = ℕ} 0 1 = cc in absurd (omega arith)

    positive : (capacity ≡ 0 → ⊥) → 0 < capacity
    positive h = omega arith
