-- SPDX-License-Identifier: Apache-2.0 AND BSD-3-Clause
-- A ready device acknowledges what the planner proposes.
use Rattle.std.specs.Prelude.{Option, Some, None, Ok}
use Prim.Native.Nat.{ℕ, ◌+◌, ◌*◌, ◌%◌, ◌≤◌, ◌<◌}
use mathlib.Core.Path.{◌≡◌, refl, ap, sym}
use mathlib.Core.Bool.{Bool, true, false, not}
use mathlib.Core.List.{List}
use native.Mathlib.Omega.{arith}
use lib.Dec.{ltb, eqb}
use lib.ListN.{length}
use borrow.Author.Tests.{le-ltb, le-leb, ltb-false, eqb-false}
use Rattle.units.specs.Numbers.{top, bytes_of, blocks_in, map_region}
use Rattle.units.specs.declared.GuestAddr.{GuestAddr}
use Rattle.units.proofs.Tests.{by_test}
use Rattle.bitmap.specs.Blocks.{next_clear}
use Rattle.wire.specs.declared.VirtioMemConfig.{VirtioMemConfig}
use Rattle.chain.specs.Chain.{asked, parsed}
use Rattle.record.specs.Shape.{config_shaped_of}
use Rattle.record.proofs.Laws.{shaped_is}
use Rattle.step.specs.World.{World, Guest, Request}
use Rattle.step.specs.Step.{block_size, usable, plugged, requested, start, several, region_blocks, region_rows, tables_fit, ready_refusal, unless, plug_as, plug, serve, request, step}
use Rattle.driver.specs.declared.Plug.{Plug}
use Rattle.driver.specs.Plan.{plugging, room_of, count_of, plan_at, plan_of}
use Rattle.step.proofs.Entry.{ready_when}
use Rattle.driving.specs.Sound.{Ready, PlugAcknowledged}
use Rattle.driving.proofs.Legal.{proposed, some_count}

-- ---- what a proposal says
pub record Planned (c : VirtioMemConfig) (bs : List Bool) (addr : GuestAddr) (n : ℕ) : Type 0 where
  pub shaped : config_shaped_of c ≡ true
  pub long : blocks_in c.block_size c.region_size ≤ length bs
  pub first : ℕ
  pub lowest : next_clear bs 0 (blocks_in c.block_size c.usable_region_size) ≡ Some first
  pub room : room_of c.block_size c.plugged_size c.requested_size ≡ 0 → ⊥
  pub addr_is : addr.0 ≡ c.addr.0 + bytes_of c.block_size first
  pub count_is : n ≡ count_of c.block_size c.usable_region_size c.plugged_size c.requested_size bs first

pub not-false : (t : Bool) → not t ≡ false → t ≡ true
not-false true e = refl
not-false false e = sym e

module _ (c : VirtioMemConfig) (bs : List Bool) (addr : GuestAddr) (n : ℕ) where
  abbrev b : ℕ
  b = c.block_size

  abbrev end : ℕ
  end = blocks_in b c.usable_region_size

  abbrev room : ℕ
  room = room_of b c.plugged_size c.requested_size

  abbrev short : Bool
  short = ltb (length bs) (blocks_in b c.region_size)

  at_found : (x : Option ℕ) → config_shaped_of c ≡ true → short ≡ false → next_clear bs 0 end ≡ x
      → plan_at x b c.addr.0 c.usable_region_size c.plugged_size c.requested_size bs ≡ plugging addr n → Planned c bs addr n
  unfolding plan_at
  at_found None s l f e = absurd (cc)
  at_found (Some i) s l f e =
      by_test (eqb room 0) (λ t. let q = simp t at e in absurd (cc))
      (λ t.
      let same : ◌≡◌ {A = Plug} (record { addr = record { 0 = c.addr.0 + bytes_of b i }; nb_blocks = count_of b c.usable_region_size c.plugged_size c.requested_size bs i }) (record { addr = addr; nb_blocks = n }) = cc (simp t at e) in
      record {
        shaped = s;
        long = ltb-false (length bs) (blocks_in b c.region_size) l;
        first = i;
        lowest = f;
        room = eqb-false room 0 t;
        addr_is = ap (λ (p : Plug). p.addr.0) (sym same);
        count_is = ap (λ (p : Plug). p.nb_blocks) (sym same);
      })

  pub plan_is : plan_of c bs ≡ plugging addr n → Planned c bs addr n
  unfolding plan_of
  plan_is e =
      by_test (not (config_shaped_of c)) (λ t. let q = simp t at e in absurd (cc))
      (λ t.
      by_test short (λ u. let q = simp (t, u) at e in absurd (cc))
      (λ u. at_found (next_clear bs 0 end) (not-false (config_shaped_of c) t) u refl (simp (t, u) at e)))

-- ---- a ready device is not refused
pub ready_zero : (w : World) → Ready w → region_blocks w ≤ length w.blocks → ready_refusal w.device (length w.blocks) (length w.rows) ≡ Ok tt
unfolding tables_fit
ready_zero w r h =
    ready_when _ _ _
    (record { shaped = r.shaped; idle = r.idle; is_placed = r.placed; fits = rw (le-leb (region_blocks w) (length w.blocks) h) (le-leb (region_rows w) (length w.rows) r.rows_fit) })

-- ---- as many blocks as proposed, or fewer, from the start of the proposal on
module _ (w : World) (r : Ready w) (addr : GuestAddr) (n : ℕ) (e : plan_of w.device.config w.blocks ≡ plugging addr n)
    (g : Guest) (descriptors head : ℕ) (status : GuestAddr) where
  up_to : (m : ℕ) → (n ≡ 0 → ⊥) × (0 < m → m ≤ n → parsed g.mem g.base descriptors head ≡ asked (record { req_type = 0; addr = addr; nb_blocks = m }) status → PlugAcknowledged w addr.0 m status.0 g (step w (Request g descriptors head)))
  unfolding step unless request serve plug plug_as
  up_to m =
      let p = plan_is w.device.config w.blocks addr n e in
      let s = shaped_is w.device r.shaped in
      let z = ready_zero w r p.long in
      let bsz = s.block_size in
      let pos : 0 < block_size w = omega arith in
      let whole : blocks_in (block_size w) map_region * block_size w ≡ map_region = rw bsz in
      let al : start w % block_size w ≡ 0 = rw bsz s.start_blocks in
      let ends : start w + usable w ≤ top = omega (arith, s.start_region, s.usable_in) in
      let some = some_count (block_size w) (start w) (usable w) (plugged w) (requested w) (several w) w.blocks w.rows pos whole al ends r.sound p.first p.lowest p.room in (
        (λ q. omega (arith, some, p.count_is)),
        λ h k q.
            let l = proposed (block_size w) (start w) (usable w) (plugged w) (requested w) (several w) w.blocks w.rows pos whole al ends r.sound p.first p.lowest p.room m h (rw (← p.count_is) k) in
            let legal = rw (← p.addr_is) at l.legal in
            record { first = p.first; addr_is = p.addr_is; outcome = simp (z, q, le-ltb (requested w) (plugged w + bytes_of (block_size w) m) l.within, legal) },
      )

-- ---- R14.9: a device that is ready acknowledges what is proposed
pub acknowledged : (w : World) → Ready w → (addr : GuestAddr) (n : ℕ) → plan_of w.device.config w.blocks ≡ plugging addr n
    → (g : Guest) (descriptors head : ℕ) (status : GuestAddr) → parsed g.mem g.base descriptors head ≡ asked (record { req_type = 0; addr = addr; nb_blocks = n }) status
    → PlugAcknowledged w addr.0 n status.0 g (step w (Request g descriptors head))
acknowledged w r addr n e g descriptors head status q =
    let u = up_to w r addr n e g descriptors head status n in
    let s : 0 < n = omega (arith, u.0) in
    u.1 s (omega arith) q

-- ---- and the plug of one block at its start
pub one_acknowledged : (w : World) → Ready w → (addr : GuestAddr) (n : ℕ) → plan_of w.device.config w.blocks ≡ plugging addr n
    → (g : Guest) (descriptors head : ℕ) (status : GuestAddr) → parsed g.mem g.base descriptors head ≡ asked (record { req_type = 0; addr = addr; nb_blocks = 1 }) status
    → PlugAcknowledged w addr.0 1 status.0 g (step w (Request g descriptors head))
one_acknowledged w r addr n e g descriptors head status q =
    let u = up_to w r addr n e g descriptors head status 1 in
    let s : 1 ≤ n = omega (arith, u.0) in
    u.1 (omega arith) s q
