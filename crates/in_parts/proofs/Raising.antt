-- SPDX-License-Identifier: Apache-2.0 AND BSD-3-Clause
-- A plug under a higher requested size.
use Prim.Native.Nat.{ℕ, ◌*◌, max, ◌≤◌}
use mathlib.Core.Path.{◌≡◌, refl, sym}
use mathlib.Core.Bool.{true, false}
use native.Mathlib.Omega.{arith}
use lib.ListN.{length}
use Rattle.record.specs.declared.Device.{Device}
use Rattle.record.specs.Shape.{size_ok, shaped_of}
use Rattle.record.specs.Changes.{requested_to}
use Rattle.record.proofs.Laws.{Parts, parts, whole as whole-shape, unshaped}
use Rattle.step.specs.declared.Answer.TheVariants.{Sized}
use Rattle.step.specs.World.{World, Call, SetRequestedSize, Outcome}
use Rattle.step.specs.Step.{step, unless, ready_refusal, tables_fit, usable, requested, sized_of, sizes, new_usable, set_requested_size}
use Rattle.step.proofs.Entry.{ready_when}
use Rattle.history.proofs.Cases.{size_cases, resized_cases}
use Rattle.history.proofs.KeepsShape.{step_shaped}
use Rattle.in_parts.specs.InParts.{Asks, requested_at, RaisingKeeps, RaisingByCall}
use Rattle.in_parts.proofs.Granted.{Granted, Reached, acknowledged_reached, acknowledged_granted, granted_does}

-- ---- the requested size alone
with_requested : (r : ℕ) (d : Device) → Parts d → size_ok d.config.block_size r d.config.region_size ≡ true → Parts (requested_to r d)
with_requested r d s fits =
    record { block = s.block; region = s.region; requested = fits; usable = s.usable; plugged = s.plugged; start = s.start; several = s.several; pending = s.pending }

out_of_shape : (r : ℕ) (d : Device) → size_ok d.config.block_size r d.config.region_size ≡ false → shaped_of (requested_to r d) ≡ false
out_of_shape r d e = sym (unshaped (requested_to r d) _ (λ s. s.requested) e)

pub raising_keeps : RaisingKeeps
unfolding step unless ready_refusal tables_fit
raising_keeps w r addr count c a more e =
    let reached = acknowledged_reached w c addr count a e in
    let x = acknowledged_granted w c addr count a e in (
      λ fits.
          let shape = whole-shape (requested_to r w.device) (with_requested r w.device (parts w.device reached.shaped) fits) in
          let does = granted_does w c addr count a reached x in
          let does' =
          granted_does (requested_at r w) c addr count a (record { shaped = shape; idle = reached.idle; is_placed = reached.is_placed; fits = reached.fits })
          (record { within = omega (arith, x.within); host = x.host; legal = x.legal }) in
          record { same_answer = rw (does, does'); same_bytes = rw (does, does'); same_end = rw (does, does') },
      λ bad. rw (a.is_request, out_of_shape r w.device bad),
    )

-- ---- by a size change that is done at once: it leaves the requested size, and at least as much usable
module _ (w : World) (mib addr count : ℕ) (c : Call) (a : Asks c addr count) (reached : Reached w) (x : Granted w addr count) (more : requested w ≤ mib * 1048576) where
  abbrev raised : World
  raised = requested_at (mib * 1048576) w

  -- a plug that is granted is so in what such a size change leaves
  SettledIn : Outcome → Type 0
  SettledIn o = step w (SetRequestedSize mib) ≡ o → o.answer ≡ Sized → (step o.world c).answer ≡ (step w c).answer

  settled : SettledIn (sizes raised)
  unfolding SettledIn tables_fit
  settled e _ =
      let l = x.legal in
      let r = l.in_range in
      let shape = whole-shape (sized_of raised.device) (rw e at (step_shaped w (parts w.device reached.shaped) (SetRequestedSize mib))) in
      let usable-more : usable w ≤ max (usable w) (new_usable raised) = omega arith in
      let does = granted_does w c addr count a reached x in
      let does' =
      granted_does (sizes raised).world c addr count a (record { shaped = shape; idle = reached.idle; is_placed = refl; fits = reached.fits })
      (record {
        within = omega (arith, x.within);
        host = x.host;
        legal = record {
          in_range = record { aligned = r.aligned; some = r.some; below_top = r.below_top; from_start = r.from_start; offset_is = r.offset_is; in_usable = omega (arith, r.in_usable) };
          first_is = l.first_is;
          not-wanted = l.not-wanted;
          host_at = l.host_at;
          hosted = l.hosted;
        };
      }) in
      rw (does, does')

  at_once : SettledIn (set_requested_size w mib)
  unfolding SettledIn
  at_once =
      size_cases SettledIn w mib (λ _ e. let z : ◌≡◌ {A = ℕ} 0 1 = cc in absurd (omega arith))
      (λ _ _. resized_cases SettledIn raised settled (λ i last size _ _ e. let z : ◌≡◌ {A = ℕ} 0 1 = cc in absurd (omega arith)))

  not_refused : step w (SetRequestedSize mib) ≡ set_requested_size w mib
  unfolding step unless
  not_refused = rw (ready_when w.device (length w.blocks) (length w.rows) reached)

pub raising_by_call : RaisingByCall
unfolding SettledIn
raising_by_call w mib addr count c a more done e =
    let reached = acknowledged_reached w c addr count a e in
    let x = acknowledged_granted w c addr count a e in
    let same = not_refused w mib addr count c a reached x more in
    rw same (at_once w mib addr count c a reached x more same (rw same at done))
