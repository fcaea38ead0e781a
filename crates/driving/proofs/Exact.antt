-- SPDX-License-Identifier: Apache-2.0 AND BSD-3-Clause
-- 17 is given exactly if no plug of one block is acknowledged, and a proposal is as long as can be.
use Rattle.std.specs.Prelude.{Option, Some, None, Result, Ok, Err}
use Prim.Native.Nat.{ℕ, suc, ◌+◌, ◌-◌, ◌*◌, ◌/◌, ◌%◌, ◌≤◌, ◌<◌}
use mathlib.Core.Path.{◌≡◌, refl, ap, sym}
use mathlib.Core.Bool.{Bool, true, false, not, beq}
use mathlib.Core.List.{List}
use mathlib.Core.Logic.{◌⊎◌, inl, inr, ⊎_elim}
use native.Mathlib.Omega.{arith}
use lib.Dec.{ltb, leb, eqb}
use lib.ListN.{length}
use borrow.Author.Tests.{ltb-false, leb-true, leb-false, eqb-true}
use Rattle.units.specs.Numbers.{bytes_of, blocks_in, map_region}
use Rattle.units.specs.declared.GuestAddr.{GuestAddr}
use Rattle.units.proofs.Tests.{by_test, and_left}
use Rattle.bitmap.specs.Blocks.{block_at, every, all_are, next_set, next_clear}
use Rattle.bitmap.proofs.Laws.{range_step, all_at, next_at, next_nothing}
use Rattle.wire.specs.declared.VirtioMemConfig.{VirtioMemConfig}
use Rattle.chain.specs.Chain.{asked, parsed}
use Rattle.record.specs.Shape.{config_shaped_of}
use Rattle.record.proofs.Laws.{shaped_is, config_shaped_is}
use Rattle.change.specs.declared.Change.{Change}
use Rattle.change.specs.declared.Reason.{Reason}
use Rattle.change.proofs.Laws.{legal_is, whole_blocks}
use Rattle.step.specs.declared.Answer.{Answer}
use Rattle.step.specs.declared.Answer.TheVariants.{Refused, Wants, Sized, Unserved, Served, Done}
use Rattle.step.specs.Answers.{served_with}
use Rattle.step.specs.World.{World, Guest, Request}
use Rattle.step.specs.Step.{block_size, region, usable, plugged, requested, start, several, unless, changing, plug_as, plug, serve, request, step, ack}
use Rattle.driver.specs.Plan.{plugging, no_plug, border_after, limit_of, stop_at, stop_of, room_of, count_of, plan_at, plan_of}
use Rattle.driver.proofs.Laws.{border, per_some}
use Rattle.driving.specs.Sound.{Ready, Stops, Greatest}
use Rattle.driving.proofs.Acks.{plan_is, ready_zero, not-false}

-- ---- what 17 says
pub record Spent (c : VirtioMemConfig) (bs : List Bool) : Type 0 where
  pub shaped : config_shaped_of c ≡ true
  pub long : blocks_in c.block_size c.region_size ≤ length bs
  pub why : (next_clear bs 0 (blocks_in c.block_size c.usable_region_size) ≡ None) ⊎ (room_of c.block_size c.plugged_size c.requested_size ≡ 0)

module _ (c : VirtioMemConfig) (bs : List Bool) where
  abbrev b : ℕ
  b = c.block_size

  abbrev end : ℕ
  end = blocks_in b c.usable_region_size

  abbrev room : ℕ
  room = room_of b c.plugged_size c.requested_size

  abbrev short : Bool
  short = ltb (length bs) (blocks_in b c.region_size)

  at_found : (x : Option ℕ) → config_shaped_of c ≡ true → short ≡ false → next_clear bs 0 end ≡ x
      → plan_at x b c.addr.0 c.usable_region_size c.plugged_size c.requested_size bs ≡ no_plug → Spent c bs
  unfolding plan_at
  at_found None s l f e = record { shaped = s; long = ltb-false (length bs) (blocks_in b c.region_size) l; why = inl f }
  at_found (Some i) s l f e =
      by_test (eqb room 0)
      (λ t. record { shaped = s; long = ltb-false (length bs) (blocks_in b c.region_size) l; why = inr (eqb-true room 0 t) })
      (λ t. let q = simp t at e in absurd (cc))

  pub spent_is : plan_of c bs ≡ no_plug → Spent c bs
  unfolding plan_of
  spent_is e =
      by_test (not (config_shaped_of c)) (λ t. let q = simp t at e in absurd (cc))
      (λ t.
      by_test short (λ u. let q = simp (t, u) at e in absurd (cc))
      (λ u. at_found (next_clear bs 0 end) (not-false (config_shaped_of c) t) u refl (simp (t, u) at e)))

-- ---- no clear block: each is set
none_clear : (bs : List Bool) (e i : ℕ) → next_clear bs 0 e ≡ None → i < e → i < length bs → block_at bs i ≡ true
none_clear bs e i p h l = all_at bs 0 e true i (let z : e - 0 ≡ e = omega arith in rw z at (next_nothing false bs 0 e p)) (omega arith) (omega arith) l

-- a range of one block that is clear
one_clear : (bs : List Bool) (i : ℕ) → i < length bs → all_are bs i 1 false ≡ true → block_at bs i ≡ false
unfolding every
one_clear bs i l e = go (block_at bs i) (and_left (beq (block_at bs i) false) _ (rw (range_step bs i 0 l) at e))
  where
    go : (t : Bool) → beq t false ≡ true → t ≡ false
    go false h = refl
    go true h = sym h

clash : {A : Type 0} {t : Bool} → t ≡ true → t ≡ false → A
clash p q = let z : ◌≡◌ {A = ℕ} 0 1 = cc in absurd (omega arith)

-- the type of a response, of the answers that are one
abbrev type_in : Answer → ℕ
type_in (Served reply) = reply.response.resp_type
type_in (Refused number) = 9
type_in (Wants call) = 9
type_in Sized = 9
type_in (Unserved reason) = 9
type_in Done = 9

-- ---- 17: no address has an acknowledged plug of one block
module _ (w : World) (r : Ready w) (e : plan_of w.device.config w.blocks ≡ no_plug) (addr : GuestAddr) (status : GuestAddr) (g : Guest) where
  not_legal : (x : Result Change Reason) → changing w addr.0 1 true ≡ x → plugged w + bytes_of (block_size w) 1 ≤ requested w → (len : ℕ) → (plug_as x w 1 status.0 g).answer ≡ served_with ack len → ⊥
  unfolding plug_as
  not_legal (Err why) q t len a = let z : ◌≡◌ {A = ℕ} 3 0 = ap type_in a in omega arith
  not_legal (Ok change) q t len a =
      let first : ℕ = change.first in
      let s = shaped_is w.device r.shaped in
      let p = spent_is w.device.config w.blocks e in
      let bsz = s.block_size in
      let pos : 0 < block_size w = omega arith in
      let al : start w % block_size w ≡ 0 = rw bsz s.start_blocks in
      let l = legal_is (block_size w) (start w) (usable w) (several w) addr.0 1 true w.blocks w.rows first change.offset change.host q in
      let k = whole_blocks (block_size w) (start w) (usable w) addr.0 1 change.offset.0 pos al l.in_range in
      let f = l.first_is in
      let below : first < blocks_in (block_size w) (usable w) = omega (arith, k.blocks_in_lem, f) in
      let u : usable w ≤ region w = s.usable_in in
      let fewer : blocks_in (block_size w) (usable w) ≤ blocks_in (block_size w) (region w) = rw bsz (omega arith) in
      let there : first < length w.blocks = omega (arith, p.long, below, fewer) in
      ⊎_elim
      (λ (n : next_clear w.blocks 0 (blocks_in (block_size w) (usable w)) ≡ None). clash {A = ⊥} (none_clear w.blocks (blocks_in (block_size w) (usable w)) first n below there) (one_clear w.blocks first there l.not-wanted))
      (λ (n : room_of (block_size w) (plugged w) (requested w) ≡ 0). let m : (requested w - plugged w) / 4194304 ≡ 0 = rw bsz at n in let t' : plugged w + 1 * 4194304 ≤ requested w = rw bsz at t in omega arith)
      p.why

  pub none_acknowledged : (descriptors head : ℕ) → parsed g.mem g.base descriptors head ≡ asked (record { req_type = 0; addr = addr; nb_blocks = 1 }) status
      → (len : ℕ) → (step w (Request g descriptors head)).answer ≡ served_with ack len → ⊥
  unfolding step unless request serve plug
  none_acknowledged descriptors head q len a =
      let p = spent_is w.device.config w.blocks e in
      let z = ready_zero w r p.long in
      by_test (ltb (requested w) (plugged w + bytes_of (block_size w) 1))
      (λ t. let a' = simp (z, q, t) at a in let y : ◌≡◌ {A = ℕ} 1 0 = ap type_in a' in omega arith)
      (λ t. not_legal (changing w addr.0 1 true) refl (ltb-false (requested w) (plugged w + bytes_of (block_size w) 1) t) len (simp (z, q, t) at a))

-- ---- one block more would meet a plugged block, the border, the usable end or the requested size
module _ (c : VirtioMemConfig) (bs : List Bool) (first n : ℕ) (bsz : c.block_size ≡ 4194304) (f : first < blocks_in c.block_size c.usable_region_size) where
  below : first ≤ limit_of c.block_size c.usable_region_size first
  below =
      let pos : 0 < c.block_size = omega arith in
      let most : c.block_size ≤ map_region = omega arith in
      omega (arith, f, (border first (blocks_in c.block_size map_region) (per_some c.block_size pos most)).above)

  at_stop : (x : Option ℕ) → next_set bs first (limit_of c.block_size c.usable_region_size first) ≡ x → n ≡ stop_at x (limit_of c.block_size c.usable_region_size first) - first → Stops c bs first n
  at_stop (Some i) q k =
      let l = next_at true bs first (limit_of c.block_size c.usable_region_size first) i q in
      let z : first + n ≡ i = omega (arith, l.from_on) in
      inl (rw z l.found)
  at_stop None q k =
      let z : first + n ≡ limit_of c.block_size c.usable_region_size first = omega (arith, below) in
      by_test (leb (blocks_in c.block_size c.usable_region_size) (border_after c.block_size first))
      (λ t. let h = leb-true (blocks_in c.block_size c.usable_region_size) (border_after c.block_size first) t in inr (inr (inl (omega arith))))
      (λ t. let h = leb-false (blocks_in c.block_size c.usable_region_size) (border_after c.block_size first) t in inr (inl (omega arith)))

  stops : n ≡ count_of c.block_size c.usable_region_size c.plugged_size c.requested_size bs first → Stops c bs first n
  stops e =
      let room = room_of c.block_size c.plugged_size c.requested_size in
      let run = stop_of c.block_size c.usable_region_size bs first - first in
      by_test (leb room run)
      (λ t.
      let h = leb-true room run t in
      let k : n ≡ room = omega arith in
      let m : n ≡ (c.requested_size - c.plugged_size) / 4194304 = rw bsz at k in
      let u : c.requested_size < c.plugged_size + suc n * 4194304 = omega arith in
      inr (inr (inr (rw bsz u))))
      (λ t.
      let h = leb-false room run t in
      let k : n ≡ run = omega arith in
      at_stop (next_set bs first (limit_of c.block_size c.usable_region_size first)) refl k)

pub plan_stops : (c : VirtioMemConfig) (bs : List Bool) (addr : GuestAddr) (n : ℕ) (e : plan_of c bs ≡ plugging addr n) → Stops c bs (plan_is c bs addr n e).first n
plan_stops c bs addr n e =
    let p = plan_is c bs addr n e in
    let f = next_at false bs 0 (blocks_in c.block_size c.usable_region_size) p.first p.lowest in
    stops c bs p.first n (config_shaped_is c p.shaped).block_size f.before_end p.count_is

pub greatest : (c : VirtioMemConfig) (bs : List Bool) (addr : GuestAddr) (n : ℕ) → plan_of c bs ≡ plugging addr n → Greatest c bs addr n
greatest c bs addr n e =
    let p = plan_is c bs addr n e in
    let f = next_at false bs 0 (blocks_in c.block_size c.usable_region_size) p.first p.lowest in
    let z : p.first - 0 ≡ p.first = omega arith in
    record { first = p.first; addr_is = p.addr_is; all_below = rw z at f.none_below; is_free = f.found; stops = plan_stops c bs addr n e }
