-- SPDX-License-Identifier: Apache-2.0 AND BSD-3-Clause
-- Which call changes which block, in every world; and the clause M6: no block outside of the usable region is plugged.
use Prim.Native.Nat.{ℕ, ◌+◌, ◌*◌, ◌≤◌, ◌<◌}
use mathlib.Core.Path.{◌≡◌, refl, ap, ◌∙◌, sym}
use mathlib.Core.Bool.{Bool, true, false}
use mathlib.Core.Option.{Option, some, none}
use native.Mathlib.Omega.{arith}
use lib.Dec.{leb, ltb, eqb}
use borrow.Author.Tests.{leb-true, leb-false, ltb-true, ltb-false, eqb-true, eqb-false}
use Rattle.units.specs.declared.GuestAddr.{GuestAddr}
use Rattle.units.proofs.Tests.{by_test}
use Rattle.bitmap.specs.Blocks.{block_at, fill}
use Rattle.bitmap.proofs.Laws.{at_before, at_after, all_clear_at, all_filled}
use Rattle.wire.specs.declared.VirtioMemReq.{VirtioMemReq}
use Rattle.record.specs.declared.Pending.TheVariants.{Discard, DiscardOne}
use Rattle.step.specs.World.{World, Guest, Call, Request, HostAnswer, Outcome}
use Rattle.step.specs.Step.{step, host_answer, block_size, usable, cleared}
use Rattle.history.specs.Rules.{FromEveryGood, FromEveryWorld, is_place}
use Rattle.history.proofs.Shaped.{clash}
use Rattle.standard.specs.Config.{OutsideIsUnplugged}
use Rattle.standard.specs.Requests.{Responds, response_of, among, address_of, size_of, IsPlugged, IsUnplugged, SameBlock, Covers, Awaits, Brings, CarriedOut, WholeOrNothing, UnplugsFrom, OneAnswered, VIRTIO_MEM_REQ_PLUG, VIRTIO_MEM_RESP_ACK}
use Rattle.standard.specs.Runs.{host_agrees, PluggedByRequest}
use Rattle.standard.proofs.Config.{facts_at}
use Rattle.standard.proofs.Requests.{whole_block, plug_standard, unplug_standard, unplug_all_standard, state_standard, unknown_unserved}
use Rattle.standard.proofs.EveryCall.{Ways, each_way}
use Rattle.standard.proofs.Responses.{by_type}

-- ---- what can be decided
-- there is an ACK, or none
or_ack : {A : Type 0} (o : Outcome) → (Responds o VIRTIO_MEM_RESP_ACK → A) → ((Responds o VIRTIO_MEM_RESP_ACK → ⊥) → A) → A
or_ack {A} o ack other = go (response_of o.answer) refl
  where
    go : (r : Option ℕ) → response_of o.answer ≡ r → A
    go none e = other (λ f. let z : ◌≡◌ {A = ℕ} 0 1 = cc in omega arith)
    go (some n) e = by_test (eqb n 0) (λ t. let same = eqb-true n 0 t in ack (rw same at e)) (λ t. other (λ f. let same : n ≡ 0 = cc in eqb-false n 0 t same))

-- the request covers block i, or not
or_covers : {A : Type 0} (w : World) (req : VirtioMemReq) (i : ℕ) → (Covers w req i → A) → ((Covers w req i → ⊥) → A) → A
or_covers w req i covered other =
    by_test (leb req.addr.0 (address_of w i))
    (λ t. by_test (ltb (address_of w i) (req.addr.0 + size_of w req))
    (λ u. covered (record { begins = leb-true _ _ t; ends = ltb-true _ _ u }))
    (λ u. other (λ c. let past = ltb-false (address_of w i) (req.addr.0 + size_of w req) u in omega (arith, c.ends))))
    (λ t. other (λ c. let before = leb-false req.addr.0 (address_of w i) t in omega (arith, c.begins)))

-- ---- a block that a call changes
pub data Changed (w : World) (c : Call) (o : Outcome) (i : ℕ) : Type 0 where
  ByPlug : (b : Brings w c VIRTIO_MEM_REQ_PLUG) → Covers w b.req i → Responds o VIRTIO_MEM_RESP_ACK → IsPlugged o.world i → Changed w c o i
  ByUnplug : (first count : ℕ) (status : GuestAddr) → w.device.pending ≡ Discard first count status → first ≤ i → i < first + count → host_agrees c ≡ true → IsUnplugged o.world i → Changed w c o i
  ByUnplugAll : (status : GuestAddr) → w.device.pending ≡ DiscardOne i status → host_agrees c ≡ true → IsUnplugged o.world i → Changed w c o i

-- but for a placing of a device that is not placed
abbrev pub Changes : World → Call → Outcome → Type 0
Changes w c o = (is_place c ≡ true → w.device.placed ≡ true) → (i : ℕ) → (SameBlock w o.world i → ⊥) → Changed w c o i

-- a request that is carried out as a whole changes a block by an ACK alone, and one that it covers
record IsWhole (w : World) (req : VirtioMemReq) (o : Outcome) (i : ℕ) : Type 0 where
  pub acknowledged : Responds o VIRTIO_MEM_RESP_ACK
  pub covers : Covers w req i
  pub carried : CarriedOut w req o.world

changed_whole : (w : World) (req : VirtioMemReq) (o : Outcome) → WholeOrNothing w req o → (i : ℕ) → (SameBlock w o.world i → ⊥) → IsWhole w req o i
changed_whole w req o h i moved =
    or_ack o
    (λ r. or_covers w req i (λ c. record { acknowledged = r; covers = c; carried = h.acknowledged r }) (λ c. absurd (moved ((h.acknowledged r).others i c))))
    (λ r. absurd (moved (ap (λ bs. block_at bs i) (h.otherwise r).same_blocks)))

-- an unplug-all changes no block but by an answer of the host
pub all_same : (w : World) (from : ℕ) (o : Outcome) → UnplugsFrom w from o → o.world.blocks ≡ w.blocks
all_same w from o u = or_ack o (λ r. (u.size_zero r).0) (λ r. (u.not_yet r).same_blocks)

unplug_changes : (w : World) (first count : ℕ) (status : GuestAddr) → Awaits w (Discard first count status) → (g : Guest) (ok : Bool) (host : ℕ) (i : ℕ)
    → (SameBlock w (host_answer (Discard first count status) w g ok host).world i → ⊥) → Changed w (HostAnswer g ok host) (host_answer (Discard first count status) w g ok host) i
unfolding host_answer host_agrees
unplug_changes w first count status a g true host i moved =
    by_test (leb first i)
    (λ t. by_test (ltb i (first + count))
    (λ u.
    let p = leb-true first i t in
    let q = ltb-true i (first + count) u in
    ByUnplug first count status a.waits p q refl (all_clear_at (fill w.blocks first count false) first count i (all_filled w.blocks first count false) p q))
    (λ u. absurd (moved (at_after w.blocks first count false i (ltb-false i (first + count) u)))))
    (λ t. absurd (moved (at_before w.blocks first count false i (leb-false first i t))))
unplug_changes w first count status a g false host i moved = absurd (moved refl)

one_changes : (w : World) (j : ℕ) (status : GuestAddr) → Awaits w (DiscardOne j status) → (g : Guest) (ok : Bool) (host : ℕ) (o : Outcome) → OneAnswered w j ok o → (i : ℕ)
    → (SameBlock w o.world i → ⊥) → Changed w (HostAnswer g ok host) o i
unfolding host_agrees
one_changes w j status a g true host o h i moved =
    let blocks = all_same (cleared w j) (j + 1) o (h.ok_goes_on refl) in
    by_test (eqb i j)
    (λ t.
    let same = eqb-true i j t in
    rw same (ByUnplugAll status a.waits refl (ap (λ bs. block_at bs j) blocks ∙ h.ok_unplugs.is_unplugged)))
    (λ t. absurd (moved (ap (λ bs. block_at bs i) blocks ∙ h.ok_unplugs.others i (eqb-false i j t))))
one_changes w j status a g false host o h i moved = absurd (moved (ap (λ bs. block_at bs i) (h.no_unchanged refl).same_blocks))

changes : (w : World) → Ways w (Changes w)
unfolding among
changes w =
    record {
      quiet = λ c o q there i moved. absurd (moved (ap (λ bs. block_at bs i) (q.same_blocks there)));
      hears = λ g descriptors head req status h l _ i moved.
          let o = step w (Request g descriptors head) in
          by_type req.req_type
          (λ t.
          let x = changed_whole w req o (plug_standard w g descriptors head req status h t).whole i moved in
          ByPlug (record { guest = g; descriptors = descriptors; head = head; req = req; status = status; is_request = refl; hears = h; is_type = t }) x.covers x.acknowledged
          ((x.carried.plugs t).0 i x.covers))
          (λ t.
          let u = unplug_standard w g descriptors head req status h t in
          clash (u.responses 0 (changed_whole w req o u.whole i moved).acknowledged) refl)
          (λ t. absurd (moved (ap (λ bs. block_at bs i) (all_same w 0 o (unplug_all_standard w g descriptors head req status h t)))))
          (λ t.
          let x = changed_whole w req o (state_standard w g descriptors head req status h t).whole i moved in
          absurd (moved (ap (λ bs. block_at bs i) (x.carried.tells t).same_blocks)))
          (λ t. absurd (moved (ap (λ bs. block_at bs i) (unknown_unserved w g descriptors head req status h t).not_changed.same_blocks)));
      unplug_ends = λ first count status a g ok host _ i moved. unplug_changes w first count status a g ok host i moved;
      one_ends = λ j status a g ok host o h l _ i moved. one_changes w j status a g ok host o h i moved;
    }

pub changed : FromEveryWorld Changes
changed w c = each_way w (Changes w) (changes w) c

-- ---- M18: a block is plugged by a plug request alone
pub plugged_by_request : FromEveryWorld PluggedByRequest
plugged_by_request w c there i was is = go (changed w c (λ _. there) i (λ same. clash (sym same ∙ is) was))
  where
    go : Changed w c (step w c) i → (b : Brings w c VIRTIO_MEM_REQ_PLUG) × Covers w b.req i × Responds (step w c) VIRTIO_MEM_RESP_ACK
    go (ByPlug b covers r p) = (b, covers, r)
    go (ByUnplug first count status q low high agrees p) = clash is p
    go (ByUnplugAll status q agrees p) = clash is p

-- ---- M6: in a good story every plugged block lies in the usable region
pub outside_is_unplugged : FromEveryGood OutsideIsUnplugged
outside_is_unplugged s g c i l past =
    let w = s.world in
    let f = facts_at s g in
    by_test (block_at w.blocks i) (λ t. let end = whole_block (block_size w) (usable w) i f.block_size f.usable_blocks_lem (g.inside i l t) in let next-block : (i + 1) * block_size w ≡ i * block_size w + block_size w = omega arith in absurd (omega arith)) (λ t. t)
