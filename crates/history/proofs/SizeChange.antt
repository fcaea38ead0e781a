-- SPDX-License-Identifier: Apache-2.0 AND BSD-3-Clause
-- A size change touches no block and no row; where the usable size is all that the requested size is worth, lowering asks the host for nothing.
use Prim.Native.Nat.{ℕ, ◌+◌, ◌*◌, min, ◌≤◌, ◌<◌}
use mathlib.Core.Path.{◌≡◌, refl}
use mathlib.Core.List.{[]}
use native.Mathlib.Omega.{arith}
use native.Mathlib.Nat.{le-div_iff_mul-le, div-mul-le_self, mul-le-mul_right}
use lib.Dec.{eqb}
use lib.ListN.{length}
use borrow.Author.Tests.{eqb-false, ne_eqb}
use Rattle.units.proofs.Tests.{by_test}
use Rattle.refusal.specs.declared.Refusal.{Refusal}
use Rattle.refusal.specs.declared.Refusal.TheVariants.{WrongSize}
use Rattle.record.specs.Changes.{requested_to}
use Rattle.resize.specs.Resize.{new_size}
use Rattle.resize.proofs.Laws.{asking}
use Rattle.step.specs.World.{World, Place, SetRequestedSize, Request, HostAnswer, ReadConfig, WriteConfig, Outcome}
use Rattle.step.specs.Step.{step, block_size, region, usable, requested, several, device_of, refused, resized, Untouched}
use Rattle.history.specs.Rules.{FromEveryWorld, is_size_change, SizeChangeTouchesNothing, LoweringAsksNothing}
use Rattle.history.proofs.Shaped.{block_is, clash}
use Rattle.history.proofs.Cases.{on_ready, size_cases, resized_cases}

-- what holds of a refusal, of a usable size that settles and of a creation that is asked for holds of a size change
module _ (P : Outcome → Type 0) (w : World) (mib : ℕ) where
  by_size :
      ((r : Refusal) → P (refused r w []))
      → (block_size w ≡ 4194304 → P (resized (device_of (requested_to (mib * 1048576) w.device) w)))
      → P (step w (SetRequestedSize mib))
  unfolding step
  by_size refusal ready =
      on_ready P w [] _ (λ r _ _. refusal r) (length w.blocks) (length w.rows) (λ _ e. size_cases P w mib (refusal WrongSize) (λ _ _. ready (block_is _ e.is_shaped)))

pub size_change_touches_nothing : FromEveryWorld SizeChangeTouchesNothing
unfolding is_size_change
size_change_touches_nothing w (Place at size slots blocks rows) e = clash e refl
size_change_touches_nothing w (SetRequestedSize mib) e =
    let P : Outcome → Type 0 = λ o. Untouched w o.world in
    by_size P w mib (λ n. record { same_blocks = refl; same_rows = refl; same_plugged = refl })
    (λ _. resized_cases P (device_of (requested_to (mib * 1048576) w.device) w)
    (record { same_blocks = refl; same_rows = refl; same_plugged = refl })
    (λ _ _ _ _. record { same_blocks = refl; same_rows = refl; same_plugged = refl }))
size_change_touches_nothing w (Request guest descriptors head) e = clash e refl
size_change_touches_nothing w (HostAnswer guest ok host) e = clash e refl
size_change_touches_nothing w (ReadConfig offset buffer) e = clash e refl
size_change_touches_nothing w (WriteConfig offset buffer) e = clash e refl

-- a smaller requested size is worth no more
new_monotone : (b region less more alignment : ℕ) → 0 < b → less ≤ more → new_size b region less alignment ≤ new_size b region more alignment
unfolding new_size
new_monotone b region less more alignment positive l =
    by_test (eqb less 0) (λ t. rw t (omega arith))
    (λ t.
    let z = eqb-false less 0 t in
    let m : min region (less + 2 * alignment) ≤ min region (more + 2 * alignment) = omega arith in
    rw (t, ne_eqb more 0 (λ e. z (omega arith))) (mul-le-mul_right b ((le-div_iff_mul-le positive).1 (omega (arith, div-mul-le_self (min region (less + 2 * alignment)) b)))))

pub lowering_asks_nothing : FromEveryWorld LoweringAsksNothing
lowering_asks_nothing w c mib e l v =
    let P : Outcome → Type 0 = λ o. (usable o.world ≡ usable w) × (o.world.device.pending ≡ w.device.pending) in
    let new = new_size (block_size w) (region w) (mib * 1048576) w.device.alignment in
    rw e (by_size P w mib (λ n. (refl, refl))
    (λ b.
    let m = new_monotone (block_size w) (region w) (mib * 1048576) (requested w) w.device.alignment (omega arith) l in
    resized_cases P (device_of (requested_to (mib * 1048576) w.device) w) (omega arith, refl)
    (λ i last size g. let a = asking (region w) (several w) (usable w) new w.rows i last size g in let grows = a.grows in absurd (omega arith))))
