-- SPDX-License-Identifier: Apache-2.0 AND BSD-3-Clause
-- The device and the clauses M10 to M16: the outcome of each request is as specs/Requests.antt says of its type.
use Rattle.change.specs.Why.{why}
use Rattle.std.specs.Prelude.{Option, Some, None, Ok, Err, Result, is_ok}
use Prim.Native.Nat.{ℕ, zero, suc, ◌+◌, ◌-◌, ◌*◌, ◌%◌, ◌≤◌, ◌<◌}
use mathlib.Core.Path.{◌≡◌, refl, ap, ◌∙◌, sym}
use mathlib.Core.Bool.{Bool, true, false, not, beq}
use mathlib.Core.List.{List, [], ◌∷◌}
use mathlib.Core.Option.{some, none}
use native.Mathlib.Nat.{add-mul-mod_self_right}
use native.Mathlib.Omega.{arith}
use lib.Dec.{leb, ltb}
use lib.ListN.{length}
use borrow.Author.Tests.{leb-true, leb-false, ltb-true, ltb-false, le-leb, le-ltb, lt-ltb, ne_eqb}
use Rattle.units.specs.Numbers.{blocks_in}
use Rattle.units.specs.declared.GuestAddr.{GuestAddr}
use Rattle.units.specs.declared.RegionOffset.{RegionOffset}
use Rattle.units.proofs.Tests.{by_test, and_left}
use Rattle.bitmap.specs.Blocks.{block_at, all_are, range, every, fill, next_set}
use Rattle.bitmap.proofs.Laws.{all_at, at_inside, at_before, at_after, range-take, all_clear_at, next_at, next_nothing}
use Rattle.wire.specs.declared.VirtioMemReq.{VirtioMemReq}
use Rattle.record.specs.declared.Pending.{Pending}
use Rattle.record.specs.declared.Pending.TheVariants.{Discard, DiscardOne}
use Rattle.record.specs.declared.HostCall.{HostCall}
use Rattle.record.specs.declared.HostCall.TheVariants.{Discard as DiscardCall}
use Rattle.record.specs.Shape.{shaped_of, is_idle, pending_ok}
use Rattle.record.specs.Changes.{pending_to}
use Rattle.record.proofs.Laws.{Shaped as Facts, shaped_is as facts-of, parts as parts-of, whole as shaped-when, discard_one_is}
use Rattle.change.specs.declared.Change.{Change}
use Rattle.change.specs.declared.Reason.{Reason}
use Rattle.change.specs.Change.{range_of, legal, state_of, state_in}
use Rattle.chain.specs.declared.NoRequest.TheVariants.{UnknownType}
use Rattle.change.proofs.Laws.{InRange, inside_is, inside_when, host_is, legal_is, legal_when, whole_blocks}
use Rattle.step.specs.declared.Answer.TheVariants.{Refused}
use Rattle.step.specs.Answers.{response}
use Rattle.step.specs.World.{World, Guest, Request, HostAnswer, Outcome}
use Rattle.step.specs.Step.{step, request, unless, pending_refusal, tables_fit, serve, block_size, region, usable, plugged, requested, start, several, region_blocks, device_of, changing, plug_as, plug, plugs, unplug_as, asks_discard, asks_one, one_as, next_as, unplug_all, stops, cleared, state_type, state_verdict, served, unserved, error, host_answer}
use Rattle.step.proofs.Entry.{ready_when, waits_when}
use Rattle.step.proofs.InTable.{cleared_shaped, cleared_fits}
use Rattle.step.proofs.Laws.{one_inside, one_before, one_behind}
use Rattle.history.proofs.Shaped.{clash, awaiting}
use Rattle.history.proofs.Cases.{by_cond}
use Rattle.standard.specs.Requests.{OfEvery, OfEveryUnknown, Unknown, Hears, Awaits, Valid, Covers, Responds, response_of, among, AsksFor, size_of, offset_of, IsPlugged, IsUnplugged, OneMapping, WholeOrNothing, CanPlug, Plug, CanUnplug, UnplugAnswered, Unplug, UnplugAll, UnplugsFrom, Lowest, NoneFrom, AsksLowest, OneUnplugged, OneAnswered, OfEveryOne, CanDiscard, address_of, StateRequest, Unchanged, VIRTIO_MEM_REQ_PLUG, VIRTIO_MEM_REQ_UNPLUG, VIRTIO_MEM_REQ_UNPLUG_ALL, VIRTIO_MEM_REQ_STATE}

-- ---- the blocks that a request covers
-- block i begins in the bytes from addr on: it is one of the `count` blocks from `first` on
block_of : (b at first count addr i : ℕ) → b ≡ 4194304 → addr ≡ at + first * b → addr ≤ at + i * b → at + i * b < addr + count * b → (first ≤ i) × (i < first + count)
block_of b at first count addr i e p q r = let p' = rw e at p in let q' = rw e at q in let r' = rw e at r in (omega arith, omega arith)

bytes_of_lem : (b at first count addr i : ℕ) → b ≡ 4194304 → addr ≡ at + first * b → first ≤ i → i < first + count → (addr ≤ at + i * b) × (at + i * b < addr + count * b)
bytes_of_lem b at first count addr i e p q r = let p' = rw e at p in rw e (omega arith, omega arith)

-- a range whose every block is in the state v
pub all_when : (bs : List Bool) (first count : ℕ) (v : Bool) → ((i : ℕ) → first ≤ i → i < first + count → block_at bs i ≡ v) → first + count ≤ length bs → all_are bs first count v ≡ true
unfolding every
all_when bs zero zero v h l = refl
all_when (b ∷ bs) zero (suc count) v h l =
    rw (h 0 (omega arith) (omega arith), beq_same v) (all_when bs zero count v (λ i p q. h (suc i) (omega arith) (omega arith)) (omega arith))
  where
    beq_same : (v : Bool) → beq v v ≡ true
    beq_same true = refl
    beq_same false = refl
all_when (b ∷ bs) (suc first) count v h l = all_when bs first count v (λ i p q. h (suc i) (omega arith) (omega arith)) (omega arith)
all_when [] zero (suc count) v h l = absurd (omega arith)
all_when [] (suc first) count v h l = absurd (omega arith)

-- a response of one type is no other
only_type : (types : List ℕ) (given type : ℕ) → among types given ≡ true → some given ≡ some type → among types type ≡ true
only_type types given type e q = let same : given ≡ type = cc in rw (← same) e

state_among : (r : Result RegionOffset Reason) → among (0 ∷ 3 ∷ []) (state_type r) ≡ true
unfolding among state_type
state_among (Ok o) = refl
state_among (Err why) = refl

-- ---- a record of the shape, and tables of its length
pub record Sound (w : World) : Type 0 where
  pub shaped : shaped_of w.device ≡ true
  pub fits : tables_fit w.device (length w.blocks) (length w.rows) ≡ true

module _ (w : World) (sound : Sound w) where
  pub facts : Facts w.device
  facts = facts-of w.device sound.shaped

  pub long : region_blocks w ≤ length w.blocks
  unfolding tables_fit
  long = leb-true (region_blocks w) (length w.blocks) (and_left _ _ sound.fits)

  -- with another pending call
  awaits : (p : Pending) → pending_ok p (block_size w) (region w) (several w) (plugged w) ≡ true → Awaits (device_of (pending_to p w.device) w) p
  unfolding tables_fit
  awaits p ok = record { shaped = shaped-when _ (awaiting w.device (parts-of w.device sound.shaped) p ok); waits = refl; fits = sound.fits }

-- the host's answer to a call that waits for it
not_refused : (w : World) (p : Pending) → Awaits w p → is_idle p ≡ false → pending_refusal w.device (length w.blocks) (length w.rows) ≡ Ok tt
not_refused w p a busy = waits_when _ _ _ (record { shaped = a.shaped; not_idle = rw a.waits busy; fits = a.fits })

pub answered : (w : World) (p : Pending) → Awaits w p → is_idle p ≡ false → (g : Guest) (ok : Bool) (host : ℕ) → step w (HostAnswer g ok host) ≡ host_answer p w g ok host
unfolding step unless
answered w p a busy g ok host = rw (not_refused w p a busy, a.waits)

module _ (w : World) (req : VirtioMemReq) (sound : Sound w) where
  -- the request covers the `nb_blocks` blocks from `first` on, and they lie in the region
  record Spans (first : ℕ) : Type 0 where
    pub valid : Valid w req
    pub ends : first + req.nb_blocks ≤ region_blocks w
    pub covered : (i : ℕ) → Covers w req i → (first ≤ i) × (i < first + req.nb_blocks)
    pub covers : (i : ℕ) → first ≤ i → i < first + req.nb_blocks → Covers w req i

  spans_of : (offset : ℕ) → InRange (block_size w) (start w) (usable w) req.addr.0 req.nb_blocks offset → Spans (blocks_in (block_size w) offset)
  spans_of offset r =
      let s = facts w sound in
      let b = s.block_size in
      let positive : 0 < block_size w = omega arith in
      let blocks = whole_blocks (block_size w) (start w) (usable w) req.addr.0 req.nb_blocks offset positive (rw b s.start_blocks) r in
      let first = blocks_in (block_size w) offset in
      let addr_is : req.addr.0 ≡ start w + first * block_size w = omega (arith, r.from_start, r.offset_is, blocks.offset_of_lem) in
      record {
        valid = record { aligned = r.aligned; some_blocks = r.some; from_start = r.from_start; to_usable = omega (arith, r.from_start, r.offset_is, r.in_usable) };
        ends = in_region (block_size w) (usable w) (region w) (first + req.nb_blocks) b blocks.bytes_in s.usable_in;
        covered = λ i c. block_of (block_size w) (start w) first req.nb_blocks req.addr.0 i b addr_is c.begins c.ends;
        covers = λ i p q. let t = bytes_of_lem (block_size w) (start w) first req.nb_blocks req.addr.0 i b addr_is p q in record { begins = t.0; ends = t.1 };
      }
    where
      in_region : (b usable region n : ℕ) → b ≡ 4194304 → n * b ≤ usable → usable ≤ region → n ≤ blocks_in b region
      in_region b usable region n e p q = let p' = rw e at p in rw e (omega arith)

  in_range : Valid w req → InRange (block_size w) (start w) (usable w) req.addr.0 req.nb_blocks (offset_of w req)
  in_range v =
      let s = facts w sound in
      record {
        aligned = v.aligned;
        some = v.some_blocks;
        below_top = omega (arith, v.to_usable, s.usable_in, s.start_region);
        from_start = v.from_start;
        offset_is = refl;
        in_usable = omega (arith, v.to_usable, v.from_start);
      }

  -- a valid range whose every block is in the other state, in one mapping, is legal to change
  legal_change : (wanted : Bool) (v : Valid w req) → ((i : ℕ) → Covers w req i → block_at w.blocks i ≡ not wanted) → (m : OneMapping w (offset_of w req) (size_of w req))
      → changing w req.addr.0 req.nb_blocks wanted ≡ legal (blocks_in (block_size w) (offset_of w req)) (record { 0 = offset_of w req }) m.host
  legal_change wanted v all m =
      let b = (facts w sound).block_size in
      let enough = long w sound in
      let first = blocks_in (block_size w) (offset_of w req) in
      let sp = spans_of (offset_of w req) (in_range v) in
      legal_when (block_size w) (start w) (usable w) (several w) req.addr.0 req.nb_blocks wanted w.blocks w.rows first _ m.host (omega arith)
      (record {
        in_range = in_range v;
        first_is = refl;
        not-wanted = all_when w.blocks first req.nb_blocks (not wanted) (λ i p q. all i (sp.covers i p q)) (omega (arith, sp.ends));
        host_at = m.maps;
        hosted = host_is (several w) w.rows (offset_of w req) (size_of w req) m.host m.maps;
      })

  -- and what is legal to change is such a range
  record Opened (wanted : Bool) (change : Change) : Type 0 where
    pub spans : Spans change.first
    pub blocks_are : (i : ℕ) → Covers w req i → block_at w.blocks i ≡ not wanted
    pub offset_is : change.offset ≡ record { 0 = offset_of w req }
    pub mapped : OneMapping w (offset_of w req) (size_of w req)
    pub host_is : mapped.host ≡ change.host

  opened : (wanted : Bool) (change : Change) → changing w req.addr.0 req.nb_blocks wanted ≡ Ok change → Opened wanted change
  opened wanted change e =
      let first = change.first in
      let l = legal_is (block_size w) (start w) (usable w) (several w) req.addr.0 req.nb_blocks wanted w.blocks w.rows first change.offset change.host e in
      let sp : Spans first = rw (← l.first_is) at (spans_of change.offset.0 l.in_range) in
      let o = l.in_range.offset_is in
      let enough = long w sound in
      record {
        spans = sp;
        blocks_are = λ i c. all_at w.blocks first req.nb_blocks (not wanted) i l.not-wanted (sp.covered i c).0 (sp.covered i c).1 (omega (arith, sp.ends, (sp.covered i c).1));
        offset_is = ap (λ (n : ℕ). record { 0 = n }) o;
        mapped = record { host = change.host; maps = rw o at l.host_at };
        host_is = refl;
      }

  -- the blocks of a range put in a state: those that the request covers, and no other
  filled_covered : (first : ℕ) → Spans first → (v : Bool) (i : ℕ) → Covers w req i → block_at (fill w.blocks first req.nb_blocks v) i ≡ v
  filled_covered first sp v i c =
      let enough = long w sound in
      at_inside w.blocks first req.nb_blocks v i (sp.covered i c).0 (sp.covered i c).1 (omega (arith, sp.ends, (sp.covered i c).1))

  filled_others : (first : ℕ) → Spans first → (v : Bool) (i : ℕ) → (Covers w req i → ⊥) → block_at (fill w.blocks first req.nb_blocks v) i ≡ block_at w.blocks i
  filled_others first sp v i not_covered =
      let end = first + req.nb_blocks in
      by_test (leb first i)
      (λ t. by_test (ltb i end) (λ u. absurd (not_covered (sp.covers i (leb-true first i t) (ltb-true i end u)))) (λ u. at_after w.blocks first req.nb_blocks v i (ltb-false i end u)))
      (λ t. at_before w.blocks first req.nb_blocks v i (leb-false first i t))

  -- ---- PLUG
  plug_at : req.req_type ≡ VIRTIO_MEM_REQ_PLUG → (status : ℕ) (g : Guest) → Plug w req (plug w req.addr.0 req.nb_blocks status g)
  unfolding plug plug_as response among
  plug_at t status g =
      by_cond (Plug w req) (ltb (requested w) (plugged w + size_of w req)) _ _
      (λ u.
      let more = ltb-true (requested w) (plugged w + size_of w req) u in
      record {
        over = λ _. refl;
        only_over = λ _. more;
        bad_range = λ h _. absurd (omega arith);
        already = λ h i _ _. absurd (omega arith);
        granted = λ can. let h = can.within_requested in absurd (omega arith);
        only_granted = λ e. let z : ◌≡◌ {A = ℕ} 0 1 = cc in absurd (omega arith);
        whole = record { acknowledged = λ e. let z : ◌≡◌ {A = ℕ} 0 1 = cc in absurd (omega arith); otherwise = λ _. record { same_blocks = refl; same_config = refl } };
        responses = λ type e. only_type (0 ∷ 1 ∷ 3 ∷ []) 1 type refl e;
      })
      (λ u. go (changing w req.addr.0 req.nb_blocks true) refl (ltb-false (requested w) (plugged w + size_of w req) u))
    where
      good : (change : Change) → Opened true change → plugged w + size_of w req ≤ requested w → Plug w req (plugs w change.first req.nb_blocks status g)
      good change o fits =
          let first = change.first in
          let sp = o.spans in
          record {
            over = λ h. absurd (omega arith);
            only_over = λ e. let z : ◌≡◌ {A = ℕ} 0 1 = cc in absurd (omega arith);
            bad_range = λ _ bad. absurd (bad sp.valid);
            already = λ _ i c p. clash p (o.blocks_are i c);
            granted = λ _. refl;
            only_granted = λ _. record { within_requested = fits; valid = sp.valid; each_unplugged = o.blocks_are; mapped = o.mapped };
            whole = record {
              acknowledged = λ _.
                  record {
                    plugs = λ _. (λ i c. filled_covered first sp true i c, refl);
                    unplugs = λ u. absurd (omega arith);
                    tells = λ u. absurd (omega arith);
                    others = λ i c. filled_others first sp true i c;
                    same_usable = refl;
                    same_requested = refl;
                  };
              otherwise = λ h. absurd (h refl);
            };
            responses = λ type e. only_type (0 ∷ 1 ∷ 3 ∷ []) 0 type refl e;
          }

      bad : (reason : Reason) → changing w req.addr.0 req.nb_blocks true ≡ Err reason → plugged w + size_of w req ≤ requested w → Plug w req (served (error (why reason)) status w g)
      bad reason e fits =
          record {
            over = λ h. absurd (omega arith);
            only_over = λ e. let z : ◌≡◌ {A = ℕ} 0 1 = cc in absurd (omega arith);
            bad_range = λ _ _. refl;
            already = λ _ i _ _. refl;
            granted = λ can. clash (ap is_ok (sym e ∙ legal_change true can.valid can.each_unplugged can.mapped)) refl;
            only_granted = λ e. let z : ◌≡◌ {A = ℕ} 0 1 = cc in absurd (omega arith);
            whole = record { acknowledged = λ e. let z : ◌≡◌ {A = ℕ} 0 1 = cc in absurd (omega arith); otherwise = λ _. record { same_blocks = refl; same_config = refl } };
            responses = λ type e. only_type (0 ∷ 1 ∷ 3 ∷ []) 3 type refl e;
          }

      go : (c : Result Change Reason) → changing w req.addr.0 req.nb_blocks true ≡ c → plugged w + size_of w req ≤ requested w → Plug w req (plug_as c w req.nb_blocks status g)
      go (Ok change) e fits = good change (opened true change e) fits
      go (Err reason) e fits = bad reason e fits

  -- ---- UNPLUG
  unplug_at : req.req_type ≡ VIRTIO_MEM_REQ_UNPLUG → (status : ℕ) (g : Guest) → Unplug w req (unplug_as (changing w req.addr.0 req.nb_blocks false) w req.nb_blocks status g)
  unfolding unplug_as response among host_answer pending_ok
  unplug_at t status g = go (changing w req.addr.0 req.nb_blocks false) refl
    where
      unchanged : (o : Outcome) → (Responds o 0 → ⊥) → Unchanged w o.world → WholeOrNothing w req o
      unchanged o no-ack same = record { acknowledged = λ e. absurd (no-ack e); otherwise = λ _. same }

      bad : (reason : Reason) → changing w req.addr.0 req.nb_blocks false ≡ Err reason → Unplug w req (served (error (why reason)) status w g)
      bad reason e =
          let never : (call : HostCall) → AsksFor (served (error (why reason)) status w g) call → ⊥ = λ call f. let z : ◌≡◌ {A = ℕ} 0 1 = cc in omega arith in
          let not-can : CanUnplug w req → ⊥ = λ can. clash (ap is_ok (sym e ∙ legal_change false can.valid can.all_plugged can.mapped)) refl in
          record {
            bad_range = λ _. refl;
            already = λ i _ _. refl;
            granted = λ can _. absurd (not-can can);
            spoiled = λ can _. absurd (not-can can);
            only_granted = λ call f. absurd (never call f);
            responses = λ type e. only_type (3 ∷ []) 3 type refl e;
            whole = unchanged _ (λ f. let z : ◌≡◌ {A = ℕ} 0 1 = cc in omega arith) (record { same_blocks = refl; same_config = refl });
            answered = λ call f _ _ _. absurd (never call f);
          }

      -- nothing is wrong with the request: there is no response yet
      waits : (change : Change) → Opened false change → (o : Outcome) → response_of o.answer ≡ none → Unchanged w o.world
          → ((can : CanUnplug w req) → size_of w req ≤ plugged w → AsksFor o (DiscardCall (record { 0 = offset_of w req }) (size_of w req) can.mapped.host))
          → (plugged w < size_of w req → o.answer ≡ Refused 12)
          → ((call : HostCall) → AsksFor o call → (g : Guest) (ok : Bool) (host : ℕ) → UnplugAnswered w req ok (step o.world (HostAnswer g ok host))) → Unplug w req o
      waits change found o silent same asks spoils ends =
          record {
            bad_range = λ wrong. absurd (wrong found.spans.valid);
            already = λ i c u. clash (found.blocks_are i c) u;
            granted = asks;
            spoiled = λ _ less. spoils less;
            only_granted = λ _ _. record { valid = found.spans.valid; all_plugged = found.blocks_are; mapped = found.mapped };
            responses = λ type e. let z : ◌≡◌ {A = ℕ} 0 1 = cc in absurd (omega arith);
            whole = unchanged o (λ e. let z : ◌≡◌ {A = ℕ} 0 1 = cc in omega arith) same;
            answered = ends;
          }

      ends : (change : Change) → Opened false change → size_of w req ≤ plugged w → (g' : Guest) (ok : Bool) (h : ℕ)
          → UnplugAnswered w req ok (step (asks_discard w change.first req.nb_blocks change.offset.0 change.host.0 status g).world (HostAnswer g' ok h))
      ends change found enough g' ok h =
          let first = change.first in
          let p = Discard first req.nb_blocks (record { 0 = status }) in
          let fine : pending_ok p (block_size w) (region w) (several w) (plugged w) ≡ true =
          rw (le-leb (first + req.nb_blocks) (region_blocks w) found.spans.ends) (le-leb (size_of w req) (plugged w) enough) in
          rw (answered _ p (awaits w sound p fine) refl g' ok h) (by_ok ok)
        where
          by_ok : (ok : Bool) → UnplugAnswered w req ok (host_answer (Discard change.first req.nb_blocks (record { 0 = status })) (asks_discard w change.first req.nb_blocks change.offset.0 change.host.0 status g).world g' ok h)
          by_ok true =
              record {
                ok_acknowledged = λ _. refl;
                no_rejected = λ e. clash refl e;
                whole = record {
                  acknowledged = λ _.
                      record {
                        plugs = λ u. absurd (omega arith);
                        unplugs = λ _. (λ i c. filled_covered change.first found.spans false i c, omega arith);
                        tells = λ u. absurd (omega arith);
                        others = λ i c. filled_others change.first found.spans false i c;
                        same_usable = refl;
                        same_requested = refl;
                      };
                  otherwise = λ h. absurd (h refl);
                };
              }
          by_ok false =
              record {
                ok_acknowledged = λ e. clash e refl;
                no_rejected = λ _. refl;
                whole = unchanged _ (λ f. let z : ◌≡◌ {A = ℕ} 0 1 = cc in omega arith) (record { same_blocks = refl; same_config = refl });
              }

      go : (c : Result Change Reason) → changing w req.addr.0 req.nb_blocks false ≡ c → Unplug w req (unplug_as c w req.nb_blocks status g)
      go (Ok change) e =
          let o = opened false change e in
          by_cond (Unplug w req) (ltb (plugged w) (size_of w req)) _ _
          (λ u.
          let less = ltb-true (plugged w) (size_of w req) u in
          waits change o _ refl (record { same_blocks = refl; same_config = refl }) (λ _ h. absurd (omega arith)) (λ _. refl)
          (λ call f _ _ _. let z : ◌≡◌ {A = ℕ} 0 1 = cc in absurd (omega arith)))
          (λ u.
          let enough = ltb-false (plugged w) (size_of w req) u in
          waits change o _ refl (record { same_blocks = refl; same_config = refl })
          (λ can _. let same : change.host ≡ can.mapped.host = cc in rw (o.offset_is, same)) (λ less. absurd (omega arith))
          (λ call f g' ok h. ends change o enough g' ok h))
      go (Err reason) e = bad reason e

  -- ---- STATE
  state_type_lem : (r : Result RegionOffset Reason) → range_of (block_size w) (start w) (usable w) req.addr.0 req.nb_blocks ≡ r → (Valid w req → ⊥) → state_type r ≡ 3
  unfolding state_type
  state_type_lem (Ok o) e bad = absurd (bad (spans_of o.0 (inside_is (block_size w) (start w) (usable w) req.addr.0 req.nb_blocks o e)).valid)
  state_type_lem (Err why) e bad = refl

  valid_type : Valid w req → state_type (range_of (block_size w) (start w) (usable w) req.addr.0 req.nb_blocks) ≡ 0
  unfolding state_type
  valid_type v =
      let b = (facts w sound).block_size in
      rw (inside_when (block_size w) (start w) (usable w) req.addr.0 req.nb_blocks (offset_of w req) (omega arith) (in_range v))

  -- the state is worked out over the blocks that the request covers
  state_over : Valid w req → state_of (block_size w) (start w) (region w) req.addr.0 req.nb_blocks w.blocks
      ≡ state_in (range w.blocks (blocks_in (block_size w) (offset_of w req)) req.nb_blocks)
  unfolding state_of
  state_over v =
      let sp = spans_of (offset_of w req) (in_range v) in
      rw (le-ltb req.addr.0 (start w) v.from_start, range-take (region_blocks w) w.blocks (blocks_in (block_size w) (offset_of w req)) req.nb_blocks sp.ends)

  state_at : req.req_type ≡ VIRTIO_MEM_REQ_STATE → (status : ℕ) (g : Guest) → StateRequest w req (served (state_verdict w req.addr.0 req.nb_blocks) status w g)
  unfolding response state_in
  state_at t status g =
      let enough = long w sound in
      let first = blocks_in (block_size w) (offset_of w req) in
      let count = req.nb_blocks in
      let bs = w.blocks in
      let not-all-plugged : (v : Valid w req) (i : ℕ) → Covers w req i → IsUnplugged w i → all_are bs first count true ≡ false = λ v i c u.
      let sp = spans_of (offset_of w req) (in_range v) in
      by_test (all_are bs first count true)
      (λ t. clash (all_at bs first count true i t (sp.covered i c).0 (sp.covered i c).1 (omega (arith, sp.ends, (sp.covered i c).1))) u) (λ t. t) in
      let not-all-unplugged : (v : Valid w req) (i : ℕ) → Covers w req i → IsPlugged w i → all_are bs first count false ≡ false = λ v i c u.
      let sp = spans_of (offset_of w req) (in_range v) in
      by_test (all_are bs first count false)
      (λ t. clash u (all_at bs first count false i t (sp.covered i c).0 (sp.covered i c).1 (omega (arith, sp.ends, (sp.covered i c).1)))) (λ t. t) in
      record {
        bad_range = λ bad. ap some (state_type_lem _ refl bad);
        acknowledged = λ v. ap some (valid_type v);
        all_plugged = λ v all.
            let sp = spans_of (offset_of w req) (in_range v) in
            ap some (state_over v ∙ rw (all_when bs first count true (λ i p q. all i (sp.covers i p q)) (omega (arith, sp.ends))));
        each_unplugged = λ v all.
            let sp = spans_of (offset_of w req) (in_range v) in
            let c = sp.covers first (omega arith) (omega (arith, v.some_blocks)) in
            ap some (state_over v ∙ rw (not-all-plugged v first c (all first c), all_when bs first count false (λ i p q. all i (sp.covers i p q)) (omega (arith, sp.ends))));
        mixed = λ v i j c p d u. ap some (state_over v ∙ rw (not-all-plugged v j d u, not-all-unplugged v i c p));
        whole = record {
          acknowledged = λ _.
              record {
                plugs = λ u. absurd (omega arith);
                unplugs = λ u. absurd (omega arith);
                tells = λ _. record { same_blocks = refl; same_config = refl };
                others = λ i _. refl;
                same_usable = refl;
                same_requested = refl;
              };
          otherwise = λ _. record { same_blocks = refl; same_config = refl };
        };
        responses = λ type e. only_type (0 ∷ 3 ∷ []) _ type (state_among (range_of (block_size w) (start w) (usable w) req.addr.0 req.nb_blocks)) e;
      }

-- ---- UNPLUG ALL: each block is an unplug of one block
abbrev one_block : World → (i : ℕ) → VirtioMemReq
one_block w i = record { req_type = VIRTIO_MEM_REQ_UNPLUG; addr = record { 0 = address_of w i }; nb_blocks = 1 }

lowest_same : (w : World) (from i j : ℕ) → Lowest w from i → Lowest w from j → i ≡ j
lowest_same w from i j p q =
    by_test (ltb i j) (λ t. clash p.is_plugged (q.none_below i p.from_there (ltb-true i j t)))
    (λ t. by_test (ltb j i) (λ u. clash q.is_plugged (p.none_below j q.from_there (ltb-true j i u)))
    (λ u. omega (arith, ltb-false i j t, ltb-false j i u)))

-- a block that begins in a size of whole blocks ends in it
pub whole_block : (b n i : ℕ) → b ≡ 4194304 → n % 4194304 ≡ 0 → i * b < n → i * b + b ≤ n
whole_block b n i e u h = let h' = rw e at h in rw e (omega arith)

module _ (w : World) (sound : Sound w) where
  -- a block that is plugged can be discarded exactly if its unplug is legal
  one_legal : (i : ℕ) → IsPlugged w i → (can : CanDiscard w i)
      → changing w (address_of w i) 1 false ≡ legal (blocks_in (block_size w) (offset_of w (one_block w i))) (record { 0 = offset_of w (one_block w i) }) can.mapped.host
  one_legal i plugged-there can =
      let s = facts w sound in
      let b = s.block_size in
      let there : offset_of w (one_block w i) ≡ i * block_size w = omega arith in
      let one : 1 * block_size w ≡ block_size w = omega arith in
      legal_change w (one_block w i) sound false
      (record {
        aligned = add-mul-mod_self_right (start w) i (block_size w) ∙ rw b s.start_blocks;
        some_blocks = omega arith;
        from_start = omega arith;
        to_usable = omega (arith, whole_block (block_size w) (usable w) i b s.usable_blocks_lem can.in_usable);
      })
      (λ k c. let t = block_of (block_size w) (start w) i 1 (address_of w i) k b refl c.begins c.ends in let e : k ≡ i = omega arith in rw e plugged-there)
      (record { host = can.mapped.host; maps = rw (there, one) can.mapped.maps })

  can_discard : (i : ℕ) (change : Change) → changing w (address_of w i) 1 false ≡ Ok change → CanDiscard w i
  can_discard i change e =
      let o = opened w (one_block w i) sound false change e in
      let b = (facts w sound).block_size in
      let there : offset_of w (one_block w i) ≡ i * block_size w = omega arith in
      let one : 1 * block_size w ≡ block_size w = omega arith in
      record { in_usable = omega (arith, o.spans.valid.to_usable); mapped = record { host = o.mapped.host; maps = rw (there, one) at o.mapped.maps } }

  unplugs_from : (from status : ℕ) (g : Guest) → UnplugsFrom w from (unplug_all w from status g)
  unfolding next_as one_as response among pending_ok
  unplugs_from from status g = go (next_set w.blocks from (region_blocks w)) refl
    where
      lowest : (block : ℕ) → next_set w.blocks from (region_blocks w) ≡ Some block → Lowest w from block
      lowest block e =
          let l = next_at true w.blocks from (region_blocks w) block e in
          record {
            from_there = l.from_on;
            in_region = l.before_end;
            is_plugged = l.found;
            none_below = λ j p q. all_clear_at w.blocks from (block - from) j l.none_below p (omega arith);
          }

      all_clear : next_set w.blocks from (region_blocks w) ≡ None → NoneFrom w from
      all_clear e i p q = all_clear_at w.blocks from (region_blocks w - from) i (next_nothing true w.blocks from (region_blocks w) e) p (omega arith)

      stopped : (n : ℕ) (block : ℕ) → Lowest w from block → (CanDiscard w block → ⊥) → UnplugsFrom w from (stops n w status g)
      stopped n block l cannot-be =
          let not-acknowledged : Responds (stops n w status g) 0 → ⊥ = λ r. let z : ◌≡◌ {A = ℕ} 0 1 = cc in omega arith in
          record {
            none_left = λ all. clash l.is_plugged (all block l.from_there l.in_region);
            only_none_left = λ r. absurd (not-acknowledged r);
            size_zero = λ r. absurd (not-acknowledged r);
            asks_lowest = λ i p can. absurd (cannot-be (rw (lowest_same w from i block p l) at can));
            only_lowest = λ call f. let z : ◌≡◌ {A = ℕ} 0 1 = cc in absurd (omega arith);
            not_yet = λ _. record { same_blocks = refl; same_config = refl };
            cannot = λ i p _. refl;
            only_cannot = λ _. (block, l, cannot-be);
            responses = λ type r. only_type (0 ∷ 3 ∷ []) 3 type refl r;
          }

      asks_for : (block : ℕ) (change : Change) → Lowest w from block → CanDiscard w block → changing w (address_of w block) 1 false ≡ Ok change
          → AsksLowest w from (asks_one w block change.offset.0 change.host.0 status g)
      asks_for block change l found e =
          let by_one = one_legal block l.is_plugged found in
          let same : change ≡ record { first = blocks_in (block_size w) (offset_of w (one_block w block)); offset = record { 0 = offset_of w (one_block w block) }; host = found.mapped.host } = cc in
          let at_offset : change.offset ≡ record { 0 = offset_of w (one_block w block) } = ap (λ (c : Change). c.offset) same in
          let at-host : change.host ≡ found.mapped.host = ap (λ (c : Change). c.host) same in
          let there : offset_of w (one_block w block) ≡ block * block_size w = omega arith in
          let one_size : 1 * block_size w ≡ block_size w = omega arith in
          record {
            block = block;
            lowest = l;
            can = found;
            asks = rw (at_offset, at-host, there, one_size);
            status = record { 0 = status };
            awaits = awaits w sound (DiscardOne block (record { 0 = status })) (lt-ltb block (region_blocks w) l.in_region);
          }

      asked : (block : ℕ) (change : Change) → Lowest w from block → changing w (address_of w block) 1 false ≡ Ok change
          → UnplugsFrom w from (asks_one w block change.offset.0 change.host.0 status g)
      asked block change l e =
          let silent : (type : ℕ) → none ≡ some type → ⊥ = λ type r. let z : ◌≡◌ {A = ℕ} 0 1 = cc in omega arith in
          let found = can_discard block change e in
          let asks = asks_for block change l found e in
          record {
            none_left = λ all. clash l.is_plugged (all block l.from_there l.in_region);
            only_none_left = λ r. absurd (silent 0 r);
            size_zero = λ r. absurd (silent 0 r);
            asks_lowest = λ _ _ _. asks;
            only_lowest = λ _ _. asks;
            not_yet = λ _. record { same_blocks = refl; same_config = refl };
            cannot = λ i p h. absurd (h (rw (lowest_same w from i block p l) found));
            only_cannot = λ r. absurd (silent 3 r);
            responses = λ type r. absurd (silent type r);
          }

      illegal : (reason : Reason) (block : ℕ) → Lowest w from block → changing w (address_of w block) 1 false ≡ Err reason → CanDiscard w block → ⊥
      illegal reason block l e can = clash (ap is_ok (sym e ∙ one_legal block l.is_plugged can)) refl

      one : (block : ℕ) (c : Result Change Reason) → Lowest w from block → changing w (address_of w block) 1 false ≡ c → UnplugsFrom w from (one_as c w block status g)
      one block (Ok change) l e = asked block change l e
      one block (Err reason) l e = stopped (why reason) block l (illegal reason block l e)

      go : (f : Option ℕ) → next_set w.blocks from (region_blocks w) ≡ f → UnplugsFrom w from (next_as f w status g)
      go None e =
          record {
            none_left = λ _. refl;
            only_none_left = λ _. all_clear e;
            size_zero = λ _. (refl, refl);
            asks_lowest = λ i p _. clash p.is_plugged (all_clear e i p.from_there p.in_region);
            only_lowest = λ call f. let z : ◌≡◌ {A = ℕ} 0 1 = cc in absurd (omega arith);
            not_yet = λ h. absurd (h refl);
            cannot = λ i p _. clash p.is_plugged (all_clear e i p.from_there p.in_region);
            only_cannot = λ r. let z : ◌≡◌ {A = ℕ} 0 1 = cc in absurd (omega arith);
            responses = λ type r. only_type (0 ∷ 3 ∷ []) 0 type refl r;
          }
      go (Some block) e = one block (changing w (address_of w block) 1 false) (lowest block e) refl

-- ---- a request that is heard is served
module _ (w : World) (g : Guest) (descriptors head : ℕ) (req : VirtioMemReq) (status : GuestAddr) (h : Hears w g descriptors head req status) where
  pub hearing : Sound w
  hearing = record { shaped = h.shaped; fits = h.fits }

  pub heard : step w (Request g descriptors head) ≡ serve w req status.0 g
  unfolding step unless request
  heard = rw (ready_when w.device (length w.blocks) (length w.rows) (record { shaped = h.shaped; idle = h.pending_is_idle; is_placed = h.is_placed; fits = h.fits }), h.reads)

  pub to_plug : req.req_type ≡ VIRTIO_MEM_REQ_PLUG → step w (Request g descriptors head) ≡ plug w req.addr.0 req.nb_blocks status.0 g
  unfolding serve
  to_plug t = heard ∙ rw t

  to_unplug : req.req_type ≡ VIRTIO_MEM_REQ_UNPLUG → step w (Request g descriptors head) ≡ unplug_as (changing w req.addr.0 req.nb_blocks false) w req.nb_blocks status.0 g
  unfolding serve
  to_unplug t = heard ∙ rw t

  pub to_state : req.req_type ≡ VIRTIO_MEM_REQ_STATE → step w (Request g descriptors head) ≡ served (state_verdict w req.addr.0 req.nb_blocks) status.0 w g
  unfolding serve
  to_state t = heard ∙ rw t

  to_unplug_all : req.req_type ≡ VIRTIO_MEM_REQ_UNPLUG_ALL → step w (Request g descriptors head) ≡ unplug_all w 0 status.0 g
  unfolding serve
  to_unplug_all t = heard ∙ rw t

  to_none : 3 < req.req_type → step w (Request g descriptors head) ≡ unserved UnknownType w g
  unfolding serve
  to_none t =
      heard
      ∙ rw (ne_eqb req.req_type 0 (λ e. omega arith), ne_eqb req.req_type 1 (λ e. omega arith), ne_eqb req.req_type 2 (λ e. omega arith), ne_eqb req.req_type 3 (λ e. omega arith))

pub plug_standard : OfEvery VIRTIO_MEM_REQ_PLUG Plug
plug_standard w g descriptors head req status h t =
    rw (to_plug w g descriptors head req status h t) (plug_at w req (hearing w g descriptors head req status h) t status.0 g)

pub unplug_standard : OfEvery VIRTIO_MEM_REQ_UNPLUG Unplug
unplug_standard w g descriptors head req status h t =
    rw (to_unplug w g descriptors head req status h t) (unplug_at w req (hearing w g descriptors head req status h) t status.0 g)

pub state_standard : OfEvery VIRTIO_MEM_REQ_STATE StateRequest
state_standard w g descriptors head req status h t =
    rw (to_state w g descriptors head req status h t) (state_at w req (hearing w g descriptors head req status h) t status.0 g)

pub unplug_all_standard : OfEvery VIRTIO_MEM_REQ_UNPLUG_ALL UnplugAll
unplug_all_standard w g descriptors head req status h t =
    rw (to_unplug_all w g descriptors head req status h t) (unplugs_from w (hearing w g descriptors head req status h) 0 status.0 g)

pub unknown_unserved : OfEveryUnknown Unknown
unknown_unserved w g descriptors head req status h t = rw (to_none w g descriptors head req status h t) (record { no_response = refl; not_changed = record { same_blocks = refl; same_config = refl } })

-- ---- the host's answer for one block of an unplug-all
one_unplugged : (w : World) (j : ℕ) → j < length w.blocks → OneUnplugged w j (cleared w j)
one_unplugged w j l =
    record {
      is_unplugged = one_inside w j l;
      others = λ i apart. by_test (ltb i j) (λ t. one_before w j i (ltb-true i j t)) (λ t. one_behind w j i (after i apart (ltb-false i j t)));
      shrinks = refl;
    }
  where
    after : (i : ℕ) → (i ≡ j → ⊥) → j ≤ i → j < i
    after i apart h = omega (arith, apart)

pub one_standard : OfEveryOne
unfolding host_answer response
one_standard w j status a g ok host = rw (answered w (DiscardOne j status) a refl g ok host) (by_ok ok)
  where
    sound : Sound w
    sound = record { shaped = a.shaped; fits = a.fits }

    taken : pending_refusal w.device (length w.blocks) (length w.rows) ≡ Ok tt
    taken = not_refused w (DiscardOne j status) a refl

    unplugs_one : OneUnplugged w j (cleared w j)
    unplugs_one =
        let b = (facts w sound).block_size in
        let inside : j < blocks_in 4194304 (region w) = discard_one_is w.device a.shaped j status a.waits in
        let same : region_blocks w ≡ blocks_in 4194304 (region w) = rw b in
        one_unplugged w j (omega (arith, long w sound))

    by_ok : (ok : Bool) → OneAnswered w j ok (host_answer (DiscardOne j status) w g ok host)
    by_ok true =
        record {
          no_rejected = λ e. clash refl e;
          no_unchanged = λ e. clash refl e;
          ok_unplugs = unplugs_one;
          ok_goes_on = λ _. unplugs_from (cleared w j) (record { shaped = cleared_shaped w taken j; fits = cleared_fits w taken j }) (j + 1) status.0 g;
        }
    by_ok false =
        record {
          no_rejected = λ _. refl;
          no_unchanged = λ _. record { same_blocks = refl; same_config = refl };
          ok_unplugs = unplugs_one;
          ok_goes_on = λ e. clash e refl;
        }

-- ---- tried against M11, M14 and M15: a device that answers ERROR always
module _ (w : World) (req : VirtioMemReq) (why status : ℕ) (g : Guest) where
  pub error_always_no_plug : CanPlug w req → Plug w req (served (error why) status w g) → ⊥
  unfolding response
  error_always_no_plug can p = let e = p.granted can in let z : ◌≡◌ {A = ℕ} 0 1 = cc in omega arith

  pub error_always_no_unplug : CanUnplug w req → size_of w req ≤ plugged w → Unplug w req (served (error why) status w g) → ⊥
  error_always_no_unplug can enough p = let e = p.granted can enough in let z : ◌≡◌ {A = ℕ} 0 1 = cc in omega arith

  pub error_always_no_unplug_all : (from i : ℕ) → Lowest w from i → CanDiscard w i → UnplugsFrom w from (served (error why) status w g) → ⊥
  error_always_no_unplug_all from i l can u = let e = (u.asks_lowest i l can).asks in let z : ◌≡◌ {A = ℕ} 0 1 = cc in omega arith
