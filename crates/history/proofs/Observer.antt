-- SPDX-License-Identifier: Apache-2.0 AND BSD-3-Clause
-- What an observer of calls and answers holds open is what the record has pending.
use Rattle.std.specs.Prelude.{Ok, Err, Result}
use Prim.Native.Nat.{ℕ, ◌+◌, ◌*◌, ◌<◌}
use mathlib.Core.Path.{◌≡◌, refl, ap, sym}
use mathlib.Core.Bool.{Bool, true, false}
use mathlib.Core.List.{[]}
use native.Mathlib.Omega.{arith}
use native.Mathlib.Nat.{mul-div_cancel}
use lib.Dec.{ltb}
use lib.ListN.{length}
use Rattle.units.specs.Numbers.{top, bytes_of, blocks_in}
use Rattle.chain.specs.declared.Asked.{Asked}
use Rattle.chain.specs.declared.NoRequest.{NoRequest as Unasked}
use Rattle.chain.specs.Chain.{parsed}
use Rattle.record.specs.declared.Pending.{Pending}
use Rattle.record.specs.declared.Pending.TheVariants.{Nothing, Create, Discard, DiscardOne}
use Rattle.record.specs.Shape.{is_idle}
use Rattle.record.specs.Changes.{requested_to}
use Rattle.step.specs.World.{World, Guest, Call, Place, SetRequestedSize, Request, HostAnswer, ReadConfig, WriteConfig, Outcome}
use Rattle.step.specs.Step.{block_size, device_of, cleared, placed, covered_by, step, request, host_answer}
use Rattle.history.specs.History.{NoRequest, UnpluggingAll, opened_by_type, opened_by_request, goes_on, opened_by, asked_by, open_after}
unfoldable pub use Rattle.history.specs.History.{open_of}
use Rattle.record.proofs.Laws.{Parts}
use Rattle.history.proofs.Shaped.{block_is, cleared_shaped, clash}
use Rattle.history.proofs.Cases.{by_cond, Entered, on_ready, on_unplaced, on_pending, plug_cases, unplug_cases, unplug_all_cases, serve_cases, resized_cases, placing_cases, place_cases, size_cases, read_cases, write_cases}

pub idle_open : (p : Pending) → is_idle p ≡ true → open_of p ≡ NoRequest
unfolding open_of
idle_open Nothing e = refl
idle_open (Create first last) e = refl
idle_open (Discard first count status) e = clash e refl
idle_open (DiscardOne block status) e = clash e refl

-- the offset of a block tells the block
offset-block : (w : World) (block offset : ℕ) → Parts w.device → offset ≡ bytes_of (block_size w) block → block ≡ blocks_in (block_size w) offset
offset-block w block offset s e =
    let b = block_is w.device s in
    let positive : 0 < block_size w = omega arith in
    rw e (sym (mul-div_cancel block positive))

module _ (w : World) where
  abbrev Sees : Pending → Call → Outcome → Type 0
  Sees p c o = open_of o.world.device.pending ≡ open_after w (open_of p) c o.answer

  -- the same of a request, by what its chain holds
  abbrev SeesChain : Result Asked Unasked → Guest → (descriptors head : ℕ) → Type 0
  SeesChain p g descriptors head = parsed g.mem g.base descriptors head ≡ p → Entered w.device (length w.blocks) (length w.rows) true
      → Sees w.device.pending (Request g descriptors head) (request p w g)

  sees_request : (p : Result Asked Unasked) (g : Guest) (descriptors head : ℕ) → SeesChain p g descriptors head
  unfolding request open_after asked_by opened_by opened_by_request opened_by_type open_of
  sees_request (Err reason) g descriptors head q e = idle_open w.device.pending e.pending_is_idle
  sees_request (Ok asked) g descriptors head q e =
      let req = asked.request in
      let status = asked.status in
      let quiet = idle_open w.device.pending e.pending_is_idle in
      let P = Sees w.device.pending (Request g descriptors head) in
      serve_cases P w req status.0 g
      (λ _. plug_cases P w e.is_shaped status.0 g req.addr.0 req.nb_blocks (λ _ _ _ _. quiet) (λ _. quiet) quiet)
      (λ t₀ t₁. unplug_cases P w e.is_shaped status.0 g req.addr.0 req.nb_blocks
      (λ first offset host _ l _. rw (q, t₁, l.first_is))
      (λ _ _ _ _. refl)
      (λ _. quiet))
      (λ t₀ t₁ t₂. unplug_all_cases P w e.is_shaped status.0 g 0
      (λ _. refl)
      (λ block offset host _ l. rw (q, t₁) (ap UnpluggingAll (offset-block w block offset e.is_shaped l.offset_is)))
      (λ _. refl))
      (λ _ _ _. quiet)
      quiet

  sees_host : (p : Pending) (g : Guest) (ok : Bool) (host : ℕ) → w.device.pending ≡ p → Entered w.device (length w.blocks) (length w.rows) false
      → Sees p (HostAnswer g ok host) (host_answer p w g ok host)
  unfolding host_answer open_after asked_by opened_by goes_on open_of
  sees_host Nothing g ok host q e = ap open_of q
  sees_host (Create i last) g true host q e =
      by_cond (Sees (Create i last) (HostAnswer g true host)) (ltb top (host + covered_by w i last)) _ _ (λ _. ap open_of q) (λ _. refl)
  sees_host (Create i last) g false host q e = refl
  sees_host (Discard f c status) g true host q e = refl
  sees_host (Discard f c status) g false host q e = refl
  sees_host (DiscardOne j status) g true host q e =
      unplug_all_cases (Sees (DiscardOne j status) (HostAnswer g true host)) (cleared w j) (cleared_shaped w j e.is_shaped) status.0 g (j + 1)
      (λ _. refl)
      (λ block offset _ _ l. ap UnpluggingAll (offset-block w block offset e.is_shaped l.offset_is))
      (λ _. refl)
  sees_host (DiscardOne j status) g false host q e = refl

  pub sees : (c : Call) → Sees w.device.pending c (step w c)
  unfolding step open_after asked_by open_of
  sees (Place at size slots bs rows) =
      let P = Sees w.device.pending (Place at size slots bs rows) in
      on_unplaced P w [] _ (λ r _ _. refl) (length bs) (length rows)
      (λ _ e. place_cases P w at size slots bs rows refl refl
      (λ _ _. placing_cases P (placed w at slots bs rows) (idle_open w.device.pending e.pending_is_idle) (λ _ _ _ _. refl) (λ _. refl)))
  sees (SetRequestedSize mib) =
      let P = Sees w.device.pending (SetRequestedSize mib) in
      on_ready P w [] _ (λ r _ _. refl) (length w.blocks) (length w.rows)
      (λ _ e. size_cases P w mib refl
      (λ _ _. resized_cases P (device_of (requested_to (mib * 1048576) w.device) w) (idle_open w.device.pending e.pending_is_idle) (λ _ _ _ _. refl)))
  sees (Request g descriptors head) =
      on_ready (Sees w.device.pending (Request g descriptors head)) w g.mem _ (λ r _ _. refl) (length w.blocks) (length w.rows)
      (λ _ e. sees_request (parsed g.mem g.base descriptors head) g descriptors head refl e)
  sees (HostAnswer g ok host) =
      on_pending (Sees w.device.pending (HostAnswer g ok host)) w g.mem _ (λ r _ _. refl) (length w.blocks) (length w.rows)
      (λ e. sees_host w.device.pending g ok host refl e)
  sees (ReadConfig offset buffer) = read_cases (Sees w.device.pending (ReadConfig offset buffer)) w offset buffer (λ _. refl) refl
  sees (WriteConfig offset buffer) = write_cases (Sees w.device.pending (WriteConfig offset buffer)) w buffer (λ _. refl) refl
