-- SPDX-License-Identifier: Apache-2.0 AND BSD-3-Clause
-- The device and the clauses M11, M14, M15 and M18 over every run.
use Prim.Native.Nat.{ℕ, ◌+◌, ◌*◌, ◌%◌, ◌≤◌, ◌<◌}
use mathlib.Core.Path.{◌≡◌, refl, ap, ◌∙◌, sym}
use mathlib.Core.Bool.{Bool, true, false, cond}
use mathlib.Core.List.{List, [], ◌∷◌}
use mathlib.Core.Option.{Option, some, none}
use native.Mathlib.Nat.{mul-pos}
use native.Mathlib.Omega.{arith}
use lib.Dec.{ltb}
use borrow.Author.Tests.{ltb-true, ltb-false}
use Rattle.units.specs.Numbers.{map_region}
use Rattle.units.specs.declared.GuestAddr.{GuestAddr}
use Rattle.units.specs.declared.HostAddr.{HostAddr}
use Rattle.units.specs.declared.RegionOffset.{RegionOffset}
use Rattle.units.proofs.Tests.{by_test, and_right}
use Rattle.bitmap.specs.Blocks.{block_at}
use Rattle.bitmap.proofs.Laws.{all_clear_at}
use Rattle.wire.specs.declared.VirtioMemReq.{VirtioMemReq}
use Rattle.wire.specs.declared.VirtioMemResp.{VirtioMemResp}
use Rattle.step.specs.declared.Verdict.{Verdict}
use Rattle.record.specs.declared.HostCall.{HostCall}
use Rattle.record.specs.declared.HostCall.TheVariants.{Discard as DiscardCall}
use Rattle.record.specs.declared.Pending.TheVariants.{Discard, DiscardOne}
use Rattle.record.proofs.Laws.{shaped_is as facts-of, parts as parts-of}
use Rattle.step.specs.declared.Answer.TheVariants.{Wants}
use Rattle.step.specs.Answers.{served_with, question, response}
use Rattle.step.specs.World.{World, Guest, Call, Place, SetRequestedSize, Request, HostAnswer, ReadConfig, WriteConfig, Outcome}
use Rattle.step.specs.Step.{step, host_answer, usable, block_size, plugged, region_blocks, cleared}
use Rattle.history.specs.History.{Event, UnplugAllAck, Open, acknowledges, ack_to_request, ack_to_type, ack_to_host, is_ack, events_of, Story, next}
use Rattle.history.specs.Reached.{marks, counts, could, marked, counted, all_could}
use Rattle.history.specs.Good.{InMemory}
use Rattle.history.specs.Rules.{FromEveryGood, Whole, is_place}
use Rattle.history.proofs.Shaped.{clash}
use Rattle.history.proofs.Cases.{plug_cases}
use Rattle.history.proofs.Observer.{open_of}
use Rattle.history.proofs.Good.{in_every_run}
use Rattle.history.proofs.Sizes.{never_12}
use Rattle.history.proofs.Whole.{whole_or_not_at_all}
use Rattle.standard.specs.Config.{Constant, FieldsLaidOut, PluggedSizeIsOfBlocks, OutsideIsUnplugged}
use Rattle.standard.specs.Requests.{Responds, type_field, response_of, among, AsksFor, CanDiscard, IsPlugged, IsUnplugged, Covers, size_of, offset_of, Hears, CanUnplug, Unplug, UnplugsFrom, AsksLowest, OneAnswered, Awaits, VIRTIO_MEM_REQ_UNPLUG, VIRTIO_MEM_RESP_ACK, VIRTIO_MEM_RESP_ERROR}
use Rattle.standard.specs.Runs.{UsableIsMapped, FreeBlocksPlug, PluggedBlocksUnplug, NonePlugged, UnplugAllAcknowledged, PluggedCanBeDiscarded, UnplugAllFailsByHost, AsksToUnplug, ByUnplug, ByUnplugAll, ByOpenUnplug, ByOpenUnplugAll, host_agrees, UnpluggedByRequest, DiscardsByRequest, CreatesOutside, ClausesInRuns}
use Rattle.standard.proofs.Config.{constant_fields, facts_at, fields_laid_out, plugged_size_is_of_blocks}
use Rattle.standard.proofs.Requests.{whole_block, plug_standard, unplug_standard, unplug_all_standard, unknown_unserved, to_plug, to_state}
use Rattle.standard.proofs.EveryCall.{speaks, CreatesPast, leaf_unplug, Ways, each_way}
use Rattle.standard.proofs.Memory.{usable_mapped}
use Rattle.standard.proofs.Responses.{by_type, mute}
use Rattle.standard.proofs.Changed.{Changed, ByPlug, ByUnplug as ByHeldUnplug, ByUnplugAll as ByHeldAll, changed, all_same, outside_is_unplugged}

-- ---- M11, M14: the host has memory for the usable region
pub usable_is_mapped : FromEveryGood UsableIsMapped
usable_is_mapped s g c req p =
    let w = s.world in
    let f = facts_at s g in
    let v = p.valid in
    let some : 0 < size_of w req = mul-pos v.some_blocks (omega (arith, f.block_size)) in
    usable_mapped w g.mapped f (offset_of w req) (size_of w req) some (omega (arith, v.from_start, v.to_usable)) p.no_border

pub free_blocks_plug : FromEveryGood FreeBlocksPlug
free_blocks_plug s g c b p within free =
    let w = s.world in
    let counted = g.told.count in
    rw b.is_request
    ((plug_standard w b.guest b.descriptors b.head b.req b.status b.hears b.is_type).granted
    (record { within_requested = omega arith; valid = p.valid; each_unplugged = free; mapped = usable_is_mapped s g c b.req p }))

pub plugged_blocks_unplug : FromEveryGood PluggedBlocksUnplug
plugged_blocks_unplug s g c b p all =
    let w = s.world in
    let u = unplug_standard w b.guest b.descriptors b.head b.req b.status b.hears b.is_type in
    let can : CanUnplug w b.req = record { valid = p.valid; all_plugged = all; mapped = usable_is_mapped s g c b.req p } in
    by_test (ltb (plugged w) (size_of w b.req))
    (λ t. absurd (never_12 s g c (rw b.is_request (u.spoiled can (ltb-true _ _ t)))))
    (λ t. (can.mapped.host, ap (λ x. (step w x).answer) b.is_request ∙ u.granted can (ltb-false _ _ t)))

-- ---- M15: an ACK to an unplug-all
-- an ACK tells what the call acknowledges
ack_tells : (r : Option VirtioMemResp) (es : List Event) → type_field r ≡ some VIRTIO_MEM_RESP_ACK → cond (is_ack r) es [] ≡ es
ack_tells none es e = let z : ◌≡◌ {A = ℕ} 0 1 = cc in absurd (omega arith)
ack_tells (some resp) es e = let t : resp.resp_type ≡ 0 = cc in rw t

no_place : (w : World) (o : Open) (c : Call) → acknowledges w o c ≡ UnplugAllAck ∷ [] → is_place c ≡ false
unfolding acknowledges is_place
no_place w o (Place at size slots blocks rows) e = let z : ◌≡◌ {A = ℕ} 0 1 = cc in absurd (omega arith)
no_place w o (SetRequestedSize mib) e = refl
no_place w o (Request g descriptors head) e = refl
no_place w o (HostAnswer g ok host) e = refl
no_place w o (ReadConfig offset buffer) e = refl
no_place w o (WriteConfig offset buffer) e = refl

none_plugged_lem : (w w' : World) (rest : List Event) → Constant w w' → Whole w (UnplugAllAck ∷ rest) w' → NonePlugged w'
unfolding marked marks counted counts all_could could
none_plugged_lem w w' rest k h =
    let found = and_right (all_could rest w.blocks (region_blocks w)) _ h.could_all in
    let same : region_blocks w' ≡ region_blocks w = rw (k.same_region, k.same_block_size) in
    record {
      each_unplugged = λ i l. rw h.blocks_by (all_clear_at (marked rest w.blocks) 0 (region_blocks w) i found (omega arith) (omega arith));
      size_zero = h.size_by;
    }

pub unplug_all_acknowledged : FromEveryGood UnplugAllAcknowledged
unfolding events_of next
unplug_all_acknowledged s g c e responds =
    let whole = whole_or_not_at_all s g c (no_place s.world s.«open» c e) in
    none_plugged_lem s.world _ _ (constant_fields s.world c) (rw (e, ack_tells _ (UnplugAllAck ∷ []) responds) at whole)

-- ---- M15: an ERROR to an unplug-all
pub plugged_can_be_discarded : FromEveryGood PluggedCanBeDiscarded
plugged_can_be_discarded s g c i l p =
    let w = s.world in
    let f = facts_at s g in
    let inside = g.inside i l p in
    let end = whole_block (block_size w) (usable w) i f.block_size f.usable_blocks_lem inside in
    record { in_usable = inside; mapped = usable_mapped w g.mapped f (i * block_size w) (block_size w) (omega (arith, f.block_size)) end (λ _. in_one (block_size w) f.block_size) }
  where
    in_one : (b : ℕ) → b ≡ 4194304 → i * b % map_region + b ≤ map_region
    in_one b e = rw e (omega arith)

-- where every plugged block can be discarded
abbrev FailsByHost : World → Call → Outcome → Type 0
FailsByHost w c o = ((i : ℕ) → i < region_blocks w → IsPlugged w i → CanDiscard w i) → acknowledges w (open_of w.device.pending) c ≡ UnplugAllAck ∷ []
    → Responds o VIRTIO_MEM_RESP_ERROR → (guest : Guest) × (host : ℕ) × (c ≡ HostAnswer guest false host)

no_error : (w : World) (from : ℕ) (o : Outcome) → ((i : ℕ) → i < region_blocks w → IsPlugged w i → CanDiscard w i) → UnplugsFrom w from o → Responds o VIRTIO_MEM_RESP_ERROR → ⊥
no_error w from o can u r = let x = u.only_cannot r in x.2 (can x.0 x.1.in_region x.1.is_plugged)

one_fails : (w : World) (j : ℕ) (g : Guest) (ok : Bool) (host : ℕ) (o : Outcome) → OneAnswered w j ok o → ((i : ℕ) → i < region_blocks w → IsPlugged w i → CanDiscard w i)
    → Responds o VIRTIO_MEM_RESP_ERROR → (guest : Guest) × (at : ℕ) × (HostAnswer g ok host ≡ HostAnswer guest false at)
one_fails w j g false host o h can r = (g, host, refl)
one_fails w j g true host o h can r = absurd (no_error (cleared w j) (j + 1) o still (h.ok_goes_on refl) r)
  where
    still : (i : ℕ) → i < region_blocks w → IsPlugged (cleared w j) i → CanDiscard (cleared w j) i
    still i l p =
        let one = h.ok_unplugs in
        let there = can i l (sym (one.others i (λ e. clash (rw e at p) one.is_unplugged)) ∙ p) in
        record { in_usable = there.in_usable; mapped = record { host = there.mapped.host; maps = there.mapped.maps } }

fails : (w : World) → Ways w (FailsByHost w)
unfolding acknowledges ack_to_request ack_to_type ack_to_host open_of response
fails w =
    record {
      quiet = λ c o q can e r. let y : ◌≡◌ {A = Option ℕ} none (some 3) = sym (mute o.answer q.silent) ∙ r in let z : ◌≡◌ {A = ℕ} 0 1 = cc in absurd (omega arith);
      hears = λ g descriptors head req status h l can e r.
          let asked : ack_to_type w req ≡ UnplugAllAck ∷ [] = rw h.reads at e in
          by_type req.req_type
          (λ t. let plug = rw t at asked in let z : ◌≡◌ {A = ℕ} 0 1 = cc in absurd (omega arith))
          (λ t. let unplug = rw t at asked in let z : ◌≡◌ {A = ℕ} 0 1 = cc in absurd (omega arith))
          (λ t. absurd (no_error w 0 _ can (unplug_all_standard w g descriptors head req status h t) r))
          (λ t. let state = rw t at asked in let z : ◌≡◌ {A = ℕ} 0 1 = cc in absurd (omega arith))
          (λ t. let y : ◌≡◌ {A = Option ℕ} none (some 3) = sym (ap response_of (unknown_unserved w g descriptors head req status h t).no_response) ∙ r in let z : ◌≡◌ {A = ℕ} 0 1 = cc in absurd (omega arith));
      unplug_ends = λ first count status a g ok host can e r. let unplug = rw a.waits at e in let z : ◌≡◌ {A = ℕ} 0 1 = cc in absurd (omega arith);
      one_ends = λ j status a g ok host o h l can e r. one_fails w j g ok host o h can r;
    }

pub unplug_all_fails_by_host : FromEveryGood UnplugAllFailsByHost
unplug_all_fails_by_host s g c e responds =
    let w = s.world in
    each_way w (FailsByHost w) (fails w) c (plugged_can_be_discarded s g c) (rw g.opened e) responds

-- ---- M18: a block is unplugged by what the driver asks for
unplugged_by : (s : Story) (c : Call) (i : ℕ) → open_of s.world.device.pending ≡ s.«open» → IsUnplugged (step s.world c).world i → Changed s.world c (step s.world c) i
    → AsksToUnplug s.world s.«open» c i × (host_agrees c ≡ true)
unfolding open_of
unplugged_by s c i seen is (ByPlug b covers r p) = clash p is
unplugged_by s c i seen is (ByHeldUnplug first count status q low high agrees p) = (ByOpenUnplug first count (sym seen ∙ ap open_of q) low high, agrees)
unplugged_by s c i seen is (ByHeldAll status q agrees p) = (ByOpenUnplugAll i (sym seen ∙ ap open_of q), agrees)

pub unplugged_by_request : FromEveryGood UnpluggedByRequest
unfolding next
unplugged_by_request s g c there i was is =
    unplugged_by s c i g.opened is (changed s.world c (λ _. there) i (λ same. clash was (sym same ∙ is)))

-- ---- M18: what is asked of the host
-- in a world where this is open
abbrev Discards : World → Call → Outcome → Type 0
Discards w c o = (offset : RegionOffset) (size : ℕ) (host : HostAddr) → AsksFor o (DiscardCall offset size host) → (i : ℕ) → offset.0 ≤ i * block_size w → i * block_size w < offset.0 + size
    → AsksToUnplug w (open_of w.device.pending) c i × IsPlugged o.world i

-- a response asks for nothing
no_question : (v : Verdict) (n : ℕ) (call : HostCall) → served_with v n ≡ Wants call → ⊥
no_question resp n call e = let z : ◌≡◌ {A = ℕ} 0 1 = cc in omega arith

-- the block of an unplug-all that the host is asked for is plugged
lowest_plugged : (w : World) (from : ℕ) (o : Outcome) → block_size w ≡ 4194304 → UnplugsFrom w from o → (offset : RegionOffset) (size : ℕ) (host : HostAddr) → AsksFor o (DiscardCall offset size host)
    → (i : ℕ) → offset.0 ≤ i * block_size w → i * block_size w < offset.0 + size → IsPlugged o.world i
lowest_plugged w from o b u offset size host e i low high = go (u.only_lowest _ e)
  where
    only_one : (b block : ℕ) → b ≡ 4194304 → block * b ≤ i * b → i * b < block * b + b → i ≡ block
    only_one b block e p q = let p' = rw e at p in let q' = rw e at q in omega arith

    go : AsksLowest w from o → IsPlugged o.world i
    go x =
        let asks = x.asks in
        let at_offset : offset ≡ record { 0 = x.block * block_size w } = cc in
        let one : size ≡ block_size w = cc in
        let same = only_one (block_size w) x.block b (rw at_offset at low) (rw (at_offset, one) at high) in
        rw (all_same w from o u, same) x.lowest.is_plugged

unplug_discards : (w : World) (g : Guest) (descriptors head : ℕ) (req : VirtioMemReq) (status : GuestAddr) (h : Hears w g descriptors head req status) → req.req_type ≡ VIRTIO_MEM_REQ_UNPLUG
    → Discards w (Request g descriptors head) (step w (Request g descriptors head))
unfolding among
unplug_discards w g descriptors head req status h t offset size host e i low high = go (u.only_granted _ e)
  where
    o : Outcome
    o = step w (Request g descriptors head)

    u : Unplug w req o
    u = unplug_standard w g descriptors head req status h t

    go : CanUnplug w req → AsksToUnplug w (open_of w.device.pending) (Request g descriptors head) i × IsPlugged o.world i
    go can =
        by_test (ltb (plugged w) (size_of w req)) (λ s. let refusal = u.spoiled can (ltb-true _ _ s) in let z : ◌≡◌ {A = ℕ} 0 1 = cc in absurd (omega arith))
        (λ s.
        let asked = u.granted can (ltb-false _ _ s) in
        let at_offset : offset ≡ record { 0 = offset_of w req } = cc in
        let bytes : size ≡ size_of w req = cc in
        let valid = can.valid in
        let covers : Covers w req i = record { begins = omega (arith, rw at_offset at low); ends = omega (arith, rw (at_offset, bytes) at high) } in
        let no-ack : Responds o 0 → ⊥ = λ r. clash (u.responses 0 r) refl in (
          ByUnplug (record { guest = g; descriptors = descriptors; head = head; req = req; status = status; is_request = refl; hears = h; is_type = t }) covers,
          ap (λ bs. block_at bs i) (u.whole.otherwise no-ack).same_blocks ∙ can.all_plugged i covers,
        ))

answer_discards : (w : World) (first count : ℕ) (status : GuestAddr) (g : Guest) (ok : Bool) (host : ℕ) (call : HostCall) → AsksFor (host_answer (Discard first count status) w g ok host) call → ⊥
unfolding host_answer
answer_discards w first count status g true host call e = no_question _ _ call e
answer_discards w first count status g false host call e = no_question _ _ call e

one_discards : (w : World) (j : ℕ) (status : GuestAddr) → Awaits w (DiscardOne j status) → (g : Guest) (ok : Bool) (host : ℕ) (o : Outcome) → OneAnswered w j ok o → Discards w (HostAnswer g ok host) o
unfolding open_of response
one_discards w j status a g true host o h offset size at e i low high =
    (ByOpenUnplugAll j (ap open_of a.waits), lowest_plugged (cleared w j) (j + 1) o (facts-of w.device a.shaped).block_size (h.ok_goes_on refl) offset size at e i low high)
one_discards w j status a g false host o h offset size at e i low high =
    let y : ◌≡◌ {A = Option ℕ} none (some 3) = sym (ap response_of e) ∙ h.no_rejected refl in
    let z : ◌≡◌ {A = ℕ} 0 1 = cc in absurd (omega arith)

discards : (w : World) → Ways w (Discards w)
unfolding response question
discards w =
    record {
      quiet = λ c o q offset size host e i low high. clash (ap speaks e) q.silent;
      hears = λ g descriptors head req status h l offset size host e i low high.
          by_type req.req_type
          (λ t.
          absurd (plug_cases (λ o. AsksFor o (DiscardCall offset size host) → ⊥) w (parts-of w.device h.shaped) status.0 g req.addr.0 req.nb_blocks
          (λ _ _ _ _. no_question _ _ _) (λ _. no_question _ _ _) (no_question _ _ _) (rw (to_plug w g descriptors head req status h t) at e)))
          (λ t. unplug_discards w g descriptors head req status h t offset size host e i low high)
          (λ t. (
            ByUnplugAll (record { guest = g; descriptors = descriptors; head = head; req = req; status = status; is_request = refl; hears = h; is_type = t }),
            lowest_plugged w 0 _ (facts-of w.device h.shaped).block_size (unplug_all_standard w g descriptors head req status h t) offset size host e i low high,
          ))
          (λ t. absurd (no_question _ _ _ (rw (to_state w g descriptors head req status h t) at e)))
          (λ t. let unserved = (unknown_unserved w g descriptors head req status h t).no_response in let z : ◌≡◌ {A = ℕ} 0 1 = cc in absurd (omega arith));
      unplug_ends = λ first count status a g ok host offset size at e i low high. absurd (answer_discards w first count status g ok host _ e);
      one_ends = λ j status a g ok host o h l. one_discards w j status a g ok host o h;
    }

pub discards_by_request : FromEveryGood DiscardsByRequest
unfolding next
discards_by_request s g c offset size host e i low high =
    let w = s.world in
    rw g.opened at (each_way w (Discards w) (discards w) c offset size host e i (omega arith) (omega arith))

-- ---- M18: a creation lies outside of the usable region
abbrev Creates : World → Call → Outcome → Type 0
Creates w c o = InMemory w → CreatesPast w o

outside : (w : World) → Ways w (Creates w)
outside w =
    record {
      quiet = λ c o q. q.creates_outside;
      hears = λ g descriptors head req status h l _ guest size slot e. absurd (l.no_creation guest size slot e);
      unplug_ends = λ first count status a g ok host _ guest size slot e. absurd ((leaf_unplug w g first count status ok host).no_creation guest size slot e);
      one_ends = λ j status a g ok host o h l _ guest size slot e. absurd (l.no_creation guest size slot e);
    }

pub creates_outside : FromEveryGood CreatesOutside
unfolding next
creates_outside s g c guest size slot e = let w = s.world in each_way w (Creates w) (outside w) c g.mapped guest size slot e

-- ---- in every run
pub clauses_in_runs : ClausesInRuns
clauses_in_runs =
    record {
      fields_laid_out = in_every_run FieldsLaidOut fields_laid_out;
      plugged_size_is_of_blocks = in_every_run PluggedSizeIsOfBlocks plugged_size_is_of_blocks;
      outside_is_unplugged = in_every_run OutsideIsUnplugged outside_is_unplugged;
      usable_is_mapped = in_every_run UsableIsMapped usable_is_mapped;
      free_blocks_plug = in_every_run FreeBlocksPlug free_blocks_plug;
      plugged_blocks_unplug = in_every_run PluggedBlocksUnplug plugged_blocks_unplug;
      unplug_all_acknowledged = in_every_run UnplugAllAcknowledged unplug_all_acknowledged;
      plugged_can_be_discarded = in_every_run PluggedCanBeDiscarded plugged_can_be_discarded;
      unplug_all_fails_by_host = in_every_run UnplugAllFailsByHost unplug_all_fails_by_host;
      unplugged_by_request = in_every_run UnpluggedByRequest unplugged_by_request;
      discards_by_request = in_every_run DiscardsByRequest discards_by_request;
      creates_outside = in_every_run CreatesOutside creates_outside;
    }
