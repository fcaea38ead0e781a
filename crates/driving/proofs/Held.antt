-- SPDX-License-Identifier: Apache-2.0 AND BSD-3-Clause
-- Guest memory that holds a request is parsed as that request, so the theorems on plugs need no word of the parse; and guest memory can be made to hold any.
use Rattle.std.specs.Prelude.{Some}
use Prim.Native.Nat.{ℕ, ◌+◌, ◌-◌, ◌≤◌, ◌<◌, ◌^◌}
use mathlib.Core.Path.{◌≡◌, refl, sym, ap, ◌∙◌}
use mathlib.Core.Bool.{Bool, true}
use mathlib.Core.List.{List}
use mathlib.Core.Logic.{inl, inr}
use native.Mathlib.Omega.{arith}
use borrow.Author.Tests.{lt-ltb, le-ltb, le-leb, leb-true, leb-false, ltb-true, ltb-false}
use lib.Dec.{leb, ltb}
use lib.ListN.{length}
use Rattle.units.specs.Numbers.{blocks_in, map_region}
use Rattle.units.specs.declared.GuestAddr.{GuestAddr}
use Rattle.units.proofs.Tests.{by_test}
use Rattle.little_endian.specs.Bytes.{little_endian, part, put}
use Rattle.little_endian.proofs.Laws.{length-put, part-part, part-put, part-put_before, part-put_behind}
use Rattle.wire.specs.declared.VirtioMemReq.{VirtioMemReq}
use Rattle.wire.specs.declared.VirtioMemConfig.{VirtioMemConfig}
use Rattle.wire.specs.Layout.{request_at}
use Rattle.wire.proofs.Laws.{request_part}
use Rattle.wire.proofs.Standard.{request as request-laid, request_size}
use Rattle.descriptors.specs.declared.Descriptor.{Descriptor}
use Rattle.descriptors.specs.Standard.{virtq_desc, descriptor_addr}
use Rattle.descriptors.specs.Descriptors.{inside, link_at, link_after}
use Rattle.descriptors.proofs.Laws.{inside_facts}
use Rattle.descriptors.proofs.Standard.{descriptor_laid}
use Rattle.chain.specs.Chain.{asked, with_second, with_first, parsed}
use Rattle.record.proofs.Laws.{config_shaped_is}
use Rattle.step.specs.Answers.{served_with}
use Rattle.step.specs.World.{World, Guest, Request}
use Rattle.step.specs.Step.{step, ack}
use Rattle.driver.specs.Plan.{plugging, no_plug, plan_of}
use Rattle.driver.specs.Text.{request_bytes, Wrote}
use Rattle.driver.proofs.Laws.{count_few, starts}
use Rattle.driving.specs.Sound.{Ready, PlugAcknowledged}
use Rattle.driving.specs.Chain.{BytesAt, RequestFits, HoldsRequest, plug_of, Places, first_addr, second_addr, NoOverlap, PlacesIn, put_at, laid_in, in66}
use Rattle.driving.proofs.Acks.{plan_is, acknowledged, one_acknowledged}
use Rattle.driving.proofs.Exact.{none_acknowledged}

module _ (g : Guest) (descriptors head : ℕ) (q : VirtioMemReq) (status : GuestAddr) (h : HoldsRequest g descriptors head q status) where
  abbrev first : Descriptor
  first = record { addr = record { 0 = h.request_addr }; len = 24; flags = 1; next = h.second_index }

  abbrev second : Descriptor
  second = record { addr = status; len = h.second_len; flags = 2; next = h.second_next }

  first_link : link_at g.mem g.base descriptors head ≡ Some first
  unfolding link_at
  first_link =
      let i = inside_facts (length g.mem) g.base h.request_addr 24 h.request.lies in
      let n = h.second_in_table in
      rw (lt-ltb head 128 h.head_in_table, h.first.lies)
      (ap Some (descriptor_laid g.mem (descriptor_addr descriptors head - g.base) first (record { addr = omega (arith, i.to_last); len = omega arith; flags = omega arith; next = omega arith }) h.first.are))

  second_link_lem : link_at g.mem g.base descriptors h.second_index ≡ Some second
  unfolding link_at
  second_link_lem =
      rw (lt-ltb h.second_index 128 h.second_in_table, h.second.lies)
      (ap Some (descriptor_laid g.mem (descriptor_addr descriptors h.second_index - g.base) second (record { addr = h.status_fits; len = h.len_fits; flags = omega arith; next = h.next_fits }) h.second.are))

  -- the chain is parsed as the request, and its status address is the second descriptor's
  pub held_parses : parsed g.mem g.base descriptors head ≡ asked q status
  unfolding parsed with_first link_after with_second
  held_parses =
      let f = h.request_fits in
      let r = request_part g.mem (h.request_addr - g.base)
      ∙ ap (λ (bytes : List ℕ). request_at bytes 0) h.request.are
      ∙ request-laid q.req_type 0 0 0 q.addr.0 q.nb_blocks 0 0 0 f.type_fits f.addr_fits f.blocks_fit in
      rw (first_link, h.request.lies, second_link_lem, r, le-ltb h.second_len 10 h.len_enough)

-- ---- a chain that was laid is held
length_desc : (addr len flags next : ℕ) → length (virtq_desc addr len flags next) ≡ 16
unfolding virtq_desc little_endian
length_desc addr len flags next = refl

length_request : (q : VirtioMemReq) → length (request_bytes q) ≡ 24
length_request q = request_size q.req_type 0 0 0 q.addr.0 q.nb_blocks 0 0 0

-- bytes that are written where they lie inside stand there
put_stands : (g : Guest) (addr n : ℕ) (bytes : List ℕ) → length bytes ≡ n → inside (length g.mem) g.base addr n ≡ true → BytesAt (put_at g addr bytes) addr n bytes
put_stands g addr n bytes e l =
    let i = inside_facts (length g.mem) g.base addr n l in
    record {
      lies = rw (length-put g.mem (addr - g.base) bytes) l;
      are = rw e at (part-put g.mem (addr - g.base) bytes (omega (arith, i.from_base, i.to_end)));
    }

-- and bytes apart from them stay
part_apart : (xs : List ℕ) (base addr n other m : ℕ) (ys : List ℕ) → length ys ≡ m → base ≤ addr → base ≤ other → NoOverlap addr n other m
    → part (put xs (other - base) ys) (addr - base) n ≡ part xs (addr - base) n
part_apart xs base addr n other m ys e a o (inl h) = part-put_before xs (other - base) ys (addr - base) n (omega arith)
part_apart xs base addr n other m ys e a o (inr h) = part-put_behind xs (other - base) ys (addr - base) n (omega arith)

still_stands : (g : Guest) (addr n : ℕ) (bytes : List ℕ) (other m : ℕ) (more : List ℕ) → length more ≡ m → inside (length g.mem) g.base other m ≡ true → NoOverlap addr n other m
    → BytesAt g addr n bytes → BytesAt (put_at g other more) addr n bytes
still_stands g addr n bytes other m more e l apart s =
    let i = inside_facts (length g.mem) g.base addr n s.lies in
    let j = inside_facts (length g.mem) g.base other m l in
    record {
      lies = rw (length-put g.mem (other - g.base) more) s.lies;
      are = part_apart g.mem g.base addr n other m more e i.from_base j.from_base apart ∙ s.are;
    }

-- the length stays
pub length_laid : (g : Guest) (p : Places) (q : VirtioMemReq) → length (laid_in g p q).mem ≡ length g.mem
length_laid g p q = rw (length-put, length-put, length-put)

module _ (g : Guest) (p : Places) (q : VirtioMemReq) (fit : PlacesIn g p) where
  descs_apart : NoOverlap (first_addr p) 16 (second_addr p) 16
  unfolding descriptor_addr
  descs_apart =
      by_test (ltb p.head p.second)
      (λ t. let h = ltb-true p.head p.second t in inl (omega arith))
      (λ t. let h = ltb-false p.head p.second t in let n = fit.two in inr (omega arith))

  abbrev first_bytes : List ℕ
  first_bytes = virtq_desc p.request 24 1 p.second

  abbrev second_bytes : List ℕ
  second_bytes = virtq_desc p.status.0 p.len 2 0

  abbrev one : Guest
  one = put_at g (first_addr p) first_bytes

  abbrev two : Guest
  two = put_at one (second_addr p) second_bytes

  second_lies : inside (length one.mem) g.base (second_addr p) 16 ≡ true
  second_lies = rw (length-put g.mem (first_addr p - g.base) first_bytes) fit.second_lies

  request_lies : inside (length two.mem) g.base p.request 24 ≡ true
  request_lies = rw (length-put one.mem (second_addr p - g.base) second_bytes, length-put g.mem (first_addr p - g.base) first_bytes) fit.request_lies

  pub laid_holds : RequestFits q → HoldsRequest (laid_in g p q) p.descriptors p.head q p.status
  laid_holds f =
      let d = length_desc p.request 24 1 p.second in
      let e = length_desc p.status.0 p.len 2 0 in
      let r = length_request q in
      let a₁ = put_stands g (first_addr p) 16 first_bytes d fit.first_lies in
      let a₂ = still_stands one (first_addr p) 16 first_bytes (second_addr p) 16 second_bytes e second_lies descs_apart a₁ in
      let a₃ = still_stands two (first_addr p) 16 first_bytes p.request 24 (request_bytes q) r request_lies fit.first_apart a₂ in
      let b₂ = put_stands one (second_addr p) 16 second_bytes e second_lies in
      let b₃ = still_stands two (second_addr p) 16 second_bytes p.request 24 (request_bytes q) r request_lies fit.second_apart b₂ in
      let c₃ = put_stands two p.request 24 (request_bytes q) r request_lies in
      record {
        request_addr = p.request;
        second_index = p.second;
        second_len = p.len;
        second_next = 0;
        head_in_table = fit.head_in_table;
        second_in_table = fit.second_in_table;
        len_enough = fit.len_enough;
        len_fits = fit.len_fits;
        next_fits = omega arith;
        status_fits = fit.status_fits;
        request_fits = f;
        first = a₃;
        second = b₃;
        request = c₃;
      }

-- any 66 bytes of guest memory can hold any request
pub is_inside : (len base addr n : ℕ) → base ≤ addr → addr + n ≤ base + len → addr + n ≤ 2 ^ 64 → inside len base addr n ≡ true
unfolding inside
is_inside len base addr n a b c = simp (le-leb base addr a, le-leb (addr + n) (base + len) b, le-leb (addr + n) (2 ^ 64) c)

pub in_66 : (g : Guest) → 66 ≤ length g.mem → g.base + 66 ≤ 2 ^ 64 → PlacesIn g (in66 g.base)
unfolding descriptor_addr
in_66 g long low =
    let n = length g.mem in
    let b = g.base in
    record {
      head_in_table = omega arith;
      second_in_table = omega arith;
      two = λ e. omega arith;
      first_lies = is_inside n b (descriptor_addr b 0) 16 (omega arith) (omega arith) (omega arith);
      second_lies = is_inside n b (descriptor_addr b 1) 16 (omega arith) (omega arith) (omega arith);
      request_lies = is_inside n b (in66 b).request 24 (omega arith) (omega arith) (omega arith);
      first_apart = inl (omega arith);
      second_apart = inl (omega arith);
      len_enough = omega arith;
      len_fits = omega arith;
      status_fits = omega arith;
    }

-- ---- the request that `write_request` writes
-- a slice that it wrote, 0 being its answer, standing at an address, is a request standing there
pub wrote_stands : (q : VirtioMemReq) (entry exit : List ℕ) → Wrote q entry exit 0 → (g : Guest) (addr : ℕ) → BytesAt g addr (length exit) exit → BytesAt g addr 24 (request_bytes q)
wrote_stands q entry exit w g addr s =
    let long : 24 ≤ length entry = by_test (leb 24 (length entry)) (λ t. leb-true 24 (length entry) t) (λ t. let z = (w.short (leb-false 24 (length entry) t)).0 in absurd (omega arith)) in
    let e = (w.whole long).1 in
    let n : length exit ≡ length entry = ap length e ∙ length-put entry 0 (request_bytes q) in
    let r = length_request q in
    let i = inside_facts (length g.mem) g.base addr (length exit) s.lies in
    let zero : addr - g.base + 0 ≡ addr - g.base = omega arith in
    record {
      lies = is_inside (length g.mem) g.base addr 24 i.from_base (omega (arith, i.to_end)) (omega (arith, i.to_last));
      are = sym (rw zero at (part-part g.mem (addr - g.base) (length exit) 0 24 (omega arith)))
          ∙ ap (λ (bytes : List ℕ). part bytes 0 24) (s.are ∙ e)
          ∙ rw r at (part-put entry 0 (request_bytes q) (omega arith));
    }

-- ---- what the planner proposes fits a request
module _ (c : VirtioMemConfig) (bs : List Bool) (addr : GuestAddr) (n : ℕ) (e : plan_of c bs ≡ plugging addr n) where
  pub proposal_fits : RequestFits (plug_of addr n)
  proposal_fits =
      let p = plan_is c bs addr n e in
      let s = config_shaped_is c p.shaped in
      let b = c.block_size in
      let pos : 0 < b = omega (arith, s.block_size) in
      let f = starts bs b c.usable_region_size p.first pos p.lowest in
      let m : blocks_in b map_region ≡ 512 = rw s.block_size in
      let k = count_few b c.usable_region_size c.plugged_size c.requested_size bs p.first (omega arith) in
      record {
        type_fits = omega arith;
        addr_fits = omega (arith, p.addr_is, f.bytes, s.usable_in, s.start_region);
        blocks_fit = omega (arith, p.count_is, k);
      }

-- ---- the theorems of Acks.antt and Exact.antt, for guest memory that holds the plug
module _ (w : World) (r : Ready w) (addr : GuestAddr) (n : ℕ) (e : plan_of w.device.config w.blocks ≡ plugging addr n)
    (g : Guest) (descriptors head : ℕ) (status : GuestAddr) where
  pub acknowledged_held : HoldsRequest g descriptors head (plug_of addr n) status → PlugAcknowledged w addr.0 n status.0 g (step w (Request g descriptors head))
  acknowledged_held h = acknowledged w r addr n e g descriptors head status (held_parses g descriptors head (plug_of addr n) status h)

  pub one_acknowledged_held : HoldsRequest g descriptors head (plug_of addr 1) status → PlugAcknowledged w addr.0 1 status.0 g (step w (Request g descriptors head))
  one_acknowledged_held h = one_acknowledged w r addr n e g descriptors head status (held_parses g descriptors head (plug_of addr 1) status h)

pub none_acknowledged_held : (w : World) → Ready w → plan_of w.device.config w.blocks ≡ no_plug
    → (addr : GuestAddr) (g : Guest) (descriptors head : ℕ) (status : GuestAddr) → HoldsRequest g descriptors head (plug_of addr 1) status
    → (len : ℕ) → (step w (Request g descriptors head)).answer ≡ served_with ack len → ⊥
none_acknowledged_held w r e addr g descriptors head status h = none_acknowledged w r e addr status g descriptors head (held_parses g descriptors head (plug_of addr 1) status h)
