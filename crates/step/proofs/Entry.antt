-- SPDX-License-Identifier: Apache-2.0 AND BSD-3-Clause
-- What a call that is not refused by its first tests stands on: a record of the stated shape, and tables of the length.
use Prim.Native.Nat.{ℕ, ◌≤◌, ◌<◌}
use mathlib.Core.Path.{◌≡◌, refl}
use mathlib.Core.Bool.{Bool, true, false, cond, not}
use native.Mathlib.Omega.{arith}
use lib.Dec.{leb}
use borrow.Author.Tests.{leb-true, le-leb}
use Rattle.units.proofs.Tests.{and_left, and_right}
use Rattle.std.specs.Prelude.{Result, Ok, Err, ⊤}
use Rattle.refusal.specs.declared.Refusal.{Refusal}
use Rattle.refusal.specs.declared.Refusal.TheVariants.{NotPlaced, CallPending, NothingPending, TooShort, NoShape}
use Rattle.record.specs.declared.Device.{Device}
use Rattle.record.specs.Shape.{shaped_of, is_idle}
use Rattle.step.specs.Step.{tables_fit, ready_refusal, unplaced_refusal, pending_refusal}

-- past a test that refuses with k where it fails, and past one that gives it where it holds
past : (t : Bool) (x : Result ⊤ Refusal) (k : Refusal) → cond (not t) (Err k) x ≡ Ok tt → (t ≡ true) × (x ≡ Ok tt)
past true x k e = (refl, e)
past false x k e = let z : ◌≡◌ {A = ℕ} 0 1 = cc in absurd (omega arith)

past_not : (t : Bool) (x : Result ⊤ Refusal) (k : Refusal) → cond t (Err k) x ≡ Ok tt → (t ≡ false) × (x ≡ Ok tt)
past_not true x k e = let z : ◌≡◌ {A = ℕ} 0 1 = cc in absurd (omega arith)
past_not false x k e = (refl, e)

-- a request and a size change
pub record Ready (d : Device) (blocks rows : ℕ) : Type 0 where
  pub shaped : shaped_of d ≡ true
  pub idle : is_idle d.pending ≡ true
  pub is_placed : d.placed ≡ true
  pub fits : tables_fit d blocks rows ≡ true

-- a host answer
pub record Waits (d : Device) (blocks rows : ℕ) : Type 0 where
  pub shaped : shaped_of d ≡ true
  pub not_idle : is_idle d.pending ≡ false
  pub fits : tables_fit d blocks rows ≡ true

module _ (d : Device) (blocks rows : ℕ) where
  pub ready_is : ready_refusal d blocks rows ≡ Ok tt → Ready d blocks rows
  unfolding ready_refusal
  ready_is e =
      let shaped = past (shaped_of d) _ NoShape e in
      let idle = past (is_idle d.pending) _ CallPending shaped.1 in
      let placed = past d.placed _ NotPlaced idle.1 in
      let fits = past (tables_fit d blocks rows) (Ok tt) TooShort placed.1 in
      record { shaped = shaped.0; idle = idle.0; is_placed = placed.0; fits = fits.0 }

  pub ready_when : Ready d blocks rows → ready_refusal d blocks rows ≡ Ok tt
  unfolding ready_refusal
  ready_when r = rw (r.fits, r.shaped, r.idle, r.is_placed)

  pub waits_is : pending_refusal d blocks rows ≡ Ok tt → Waits d blocks rows
  unfolding pending_refusal
  waits_is e =
      let shaped = past (shaped_of d) _ NoShape e in
      let waits = past_not (is_idle d.pending) _ NothingPending shaped.1 in
      let fits = past (tables_fit d blocks rows) (Ok tt) TooShort waits.1 in
      record { shaped = shaped.0; not_idle = waits.0; fits = fits.0 }

  pub waits_when : Waits d blocks rows → pending_refusal d blocks rows ≡ Ok tt
  unfolding pending_refusal
  waits_when p = rw (p.fits, p.shaped, p.not_idle)

  -- placing
  pub unplaced_shaped : unplaced_refusal d blocks rows ≡ Ok tt → shaped_of d ≡ true
  unfolding unplaced_refusal
  unplaced_shaped e = (past (shaped_of d) _ NoShape e).0

  -- a longer map table fits too
  pub fits_longer : (rows' : ℕ) → rows ≤ rows' → tables_fit d blocks rows ≡ true → tables_fit d blocks rows' ≡ true
  unfolding tables_fit
  fits_longer rows' l e =
      let enough = leb-true _ rows (and_right (leb _ blocks) _ e) in
      rw (and_left (leb _ blocks) _ e) (le-leb _ rows' (omega (arith, enough)))
