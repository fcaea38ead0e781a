-- SPDX-License-Identifier: Apache-2.0 AND BSD-3-Clause
-- The device and the clauses M8, M12 and M17, of every call in every world; and that nothing changes while a request waits for the host.
use Rattle.std.specs.Prelude.{Option, Some, None, Err, Result}
use Prim.Native.Nat.{ℕ, ◌+◌, ◌^◌, ◌≤◌, ◌<◌}
use mathlib.Core.Path.{◌≡◌, refl, ap, ◌∙◌, sym}
use mathlib.Core.Bool.{Bool, true, false, cond, not, ◌||◌}
use mathlib.Core.List.{List, [], ◌∷◌}
use mathlib.Core.Option.{Option as Maybe, some, none}
use native.Mathlib.Omega.{arith}
use lib.Dec.{ltb, eqb}
use lib.ListN.{length}
use borrow.Author.Tests.{eqb-true, eqb-false, le-leb, ltb-false, not-false}
use Rattle.units.specs.declared.GuestAddr.{GuestAddr}
use Rattle.units.proofs.Tests.{by_test}
use Rattle.wire.specs.declared.VirtioMemReq.{VirtioMemReq}
use Rattle.wire.specs.declared.VirtioMemResp.{VirtioMemResp}
use Rattle.step.specs.declared.Verdict.{Verdict}
use Rattle.wire.proofs.Standard.{response as response-bytes}
use Rattle.descriptors.specs.Descriptors.{inside, link_at, link_after}
use Rattle.descriptors.proofs.Laws.{inside_facts}
use Rattle.descriptors.specs.declared.Descriptor.{Descriptor}
use Rattle.descriptors.specs.Standard.{is_write_only, is_indirect}
use Rattle.chain.specs.declared.Asked.{Asked}
use Rattle.chain.specs.declared.NoRequest.{NoRequest}
use Rattle.chain.specs.Chain.{asked, with_second, with_first, parsed, reaches, delivered}
use Rattle.chain.proofs.Laws.{length-delivered, delivered_reads, undelivered, delivered_before, delivered_behind}
use Rattle.record.specs.declared.Pending.TheVariants.{Discard}
use Rattle.step.specs.declared.Answer.{Answer}
use Rattle.step.specs.declared.Answer.TheVariants.{Served}
use Rattle.step.specs.declared.Reply.{Reply}
use Rattle.step.specs.Answers.{response}
use Rattle.step.specs.World.{World, Guest, Call, Place, SetRequestedSize, Request, HostAnswer, ReadConfig, WriteConfig, Outcome}
use Rattle.step.specs.Step.{step, host_answer}
use Rattle.history.specs.History.{present}
use Rattle.history.specs.Rules.{FromEveryWorld}
use Rattle.history.proofs.Shaped.{clash}
use Rattle.history.proofs.Cases.{on_ready, on_unplaced, read_cases, write_cases}
use Rattle.standard.specs.Requests.{Responds, type_field, response_of, among, is_host_answer, WaitingStays, lent_by, status_of_chain, status_of_pending, status_for, ResponseWritten, Delivered, ResponseIsDelivered, WritableAt, StatusIsWritable, StatusIsKept, SilenceWritesNothing, OneAnswered, NackOnlyPastRequested, PlugPastRequested, NeverBusy, VIRTIO_MEM_REQ_PLUG, VIRTIO_MEM_REQ_UNPLUG, VIRTIO_MEM_REQ_UNPLUG_ALL, VIRTIO_MEM_REQ_STATE, VIRTIO_MEM_RESP_NACK, VIRTIO_MEM_RESP_BUSY}
use Rattle.standard.proofs.Requests.{plug_standard, unplug_standard, unplug_all_standard, state_standard, unknown_unserved}
use Rattle.standard.proofs.EveryCall.{speaks, is_config_call, Says, Responded, Silent, leaf_unplug, Ways, each_way}

-- ---- M8: the response in the guest's bytes
laid : (g : Guest) (status : ℕ) (resp : VirtioMemResp) → reaches g.mem g.base status ≡ true → ResponseWritten g status resp (delivered g.mem g.base status resp)
unfolding reaches
laid g status resp t =
    let i = inside_facts (length g.mem) g.base status 10 t in
    record {
      from_base = i.from_base;
      to_end = i.to_end;
      laid_out = delivered_reads g.mem g.base status resp t ∙ response-bytes resp;
      same_before = λ at n h. delivered_before g.mem g.base status resp at n (omega arith);
      same_behind = λ at n h. delivered_behind g.mem g.base status resp at n (omega arith);
      same_length = length-delivered g.mem g.base status resp;
    }

room : (g : Guest) (status : ℕ) → g.base ≤ status → status + 10 ≤ g.base + length g.mem → status + 10 ≤ 2 ^ 64 → reaches g.mem g.base status ≡ true
unfolding reaches inside
room g status p q r = rw (le-leb g.base status p, le-leb (status + 10) (g.base + length g.mem) q, le-leb (status + 10) (2 ^ 64) r)

delivery : (g : Guest) (status : ℕ) (v : Verdict) → Delivered g status (record { response = v.response; used = cond (reaches g.mem g.base status) 10 0; why = v.why }) (delivered g.mem g.base status v.response)
unfolding among
delivery g status v =
    let resp = v.response in
    by_test (reaches g.mem g.base status)
    (λ t. record { whole = λ _. laid g status resp t; nothing = λ e. let z = rw t at e in absurd (omega arith); no_other = rw t; with_room = λ _ _ _. rw t })
    (λ t. record { whole = λ e. let z = rw t at e in absurd (omega arith); nothing = λ _. undelivered g.mem g.base status resp t; no_other = rw t; with_room = λ p q r. clash (room g status p q r) t })

delivers : (g : Guest) (status : ℕ) (o : Outcome) → Says g status o → (reply : Reply) → o.answer ≡ Served reply → Delivered g status reply o.bytes
unfolding response
delivers g status o (Responded given a b) reply e =
    let same : record { response = given.response; used = cond (reaches g.mem g.base status) 10 0; why = given.why } ≡ reply = cc in
    rw (b, ← same) (delivery g status given)
delivers g status o (Silent n b) reply e = let z : none ≡ some reply.response.resp_type = sym n ∙ ap response_of e in let y : ◌≡◌ {A = ℕ} 0 1 = cc in absurd (omega arith)

-- what says nothing is no response, and no question for a discard
pub mute : (a : Answer) → speaks a ≡ false → response_of a ≡ none
mute a e = go (response a) _ e
  where
    go : (r : Maybe VirtioMemResp) (more : Bool) → (present r || more) ≡ false → type_field r ≡ none
    go none more q = refl
    go (some resp) more q = clash refl q

response_by : (w : World) → Ways w (ResponseIsDelivered w)
unfolding lent_by status_for status_of_chain status_of_pending response
response_by w =
    record {
      quiet = λ c o q reply e. let y : none ≡ some reply.response.resp_type = sym (mute o.answer q.silent) ∙ ap response_of e in let z : ◌≡◌ {A = ℕ} 0 1 = cc in absurd (omega arith);
      hears = λ g descriptors head req status h l reply e. record { status = status.0; goes_to = rw h.reads; delivered = delivers g status.0 _ l.says reply e };
      unplug_ends = λ first count status a g ok host reply e.
          record { status = status.0; goes_to = rw a.waits; delivered = delivers g status.0 _ (leaf_unplug w g first count status ok host).says reply e };
      one_ends = λ j status a g ok host o _ l reply e. record { status = status.0; goes_to = rw a.waits; delivered = delivers g status.0 o l.says reply e };
    }

pub response_is_delivered : FromEveryWorld ResponseIsDelivered
response_is_delivered w c = each_way w (ResponseIsDelivered w) (response_by w) c

status_by : (w : World) → Ways w (StatusIsKept w)
unfolding status_for status_of_chain status_of_pending
status_by w =
    record {
      quiet = λ c o q. q.keeps_status;
      hears = λ g descriptors head req status h l call e. rw h.reads (l.keeps_status call e);
      unplug_ends = λ first count status a g ok host call e. (leaf_unplug w g first count status ok host).keeps_status call e ∙ sym (ap status_of_pending a.waits);
      one_ends = λ j status a g ok host o _ l call e. l.keeps_status call e ∙ sym (ap status_of_pending a.waits);
    }

pub status_is_kept : FromEveryWorld StatusIsKept
status_is_kept w c = each_way w (StatusIsKept w) (status_by w) c

-- ---- Q4: where a response goes the driver lets the device write
-- a test that must have failed, or nothing is found
past : (t : Bool) (reason : NoRequest) (p : Result Asked NoRequest) (req : VirtioMemReq) (status : GuestAddr) → cond t (Err reason) p ≡ asked req status → (t ≡ false) × (p ≡ asked req status)
past true reason p req status e = let z : ◌≡◌ {A = ℕ} 0 1 = cc in absurd (omega arith)
past false reason p req status e = (refl, e)

module _ (g : Guest) (descriptors head : ℕ) (req : VirtioMemReq) (status : GuestAddr) where
  second_writable : (first : Descriptor) (found : VirtioMemReq) (l : Option Descriptor) → link_at g.mem g.base descriptors head ≡ Some first → link_after g.mem g.base descriptors first ≡ l
      → with_second found l ≡ asked req status → WritableAt g descriptors head status
  unfolding with_second
  second_writable first found None h f e = let z : ◌≡◌ {A = ℕ} 0 1 = cc in absurd (omega arith)
  second_writable first found (Some second) h f e =
      let direct = past (is_indirect second) _ _ req status e in
      let writable = past (not (is_write_only second)) _ _ req status direct.1 in
      let long = past (ltb second.len 10) _ _ req status writable.1 in
      let same : record { request = found; status = second.addr } ≡ record { request = req; status = status } = cc long.1 in
      record { first = first; second = second; heads = h; follows = f; is_writable = not-false (is_write_only second) writable.0; is_long = ltb-false second.len 10 long.0; is_there = ap (λ (a : Asked). a.status) same }

  first_writable : (l : Option Descriptor) → link_at g.mem g.base descriptors head ≡ l → with_first g.mem g.base descriptors l ≡ asked req status → WritableAt g descriptors head status
  unfolding with_first
  first_writable None h e = let z : ◌≡◌ {A = ℕ} 0 1 = cc in absurd (omega arith)
  first_writable (Some first) h e =
      let direct = past (is_indirect first) _ _ req status e in
      let readable = past (is_write_only first) _ _ req status direct.1 in
      let whole = past (not (eqb first.len 24)) _ _ req status readable.1 in
      let there = past (not (inside (length g.mem) g.base first.addr.0 24)) _ _ req status whole.1 in
      second_writable first _ (link_after g.mem g.base descriptors first) h refl there.1

pub status_is_writable : StatusIsWritable
unfolding parsed
status_is_writable g descriptors head req status e = first_writable g descriptors head req status (link_at g.mem g.base descriptors head) refl e

-- ---- no response, and no byte of guest memory has changed
abbrev NoByte : Call → Outcome → Type 0
NoByte c o = is_config_call c ≡ false → response_of o.answer ≡ none → o.bytes ≡ (lent_by c).mem

says_nothing : (g : Guest) (status : ℕ) (o : Outcome) → Says g status o → response_of o.answer ≡ none → o.bytes ≡ g.mem
unfolding response
says_nothing g status o (Responded v a b) n = let y : some v.response.resp_type ≡ none = sym (ap response_of a) ∙ n in let z : ◌≡◌ {A = ℕ} 0 1 = cc in absurd (omega arith)
says_nothing g status o (Silent _ b) n = b

no_byte : (w : World) → Ways w NoByte
unfolding lent_by
no_byte w =
    record {
      quiet = λ c o q guest _. q.same_bytes guest;
      hears = λ g descriptors head req status h l _ n. says_nothing g status.0 _ l.says n;
      unplug_ends = λ first count status a g ok host _ n. says_nothing g status.0 _ (leaf_unplug w g first count status ok host).says n;
      one_ends = λ j status a g ok host o _ l _ n. says_nothing g status.0 o l.says n;
    }

pub silence_writes_nothing : SilenceWritesNothing
unfolding lent_by is_config_call
silence_writes_nothing w g =
    (λ descriptors head n. each_way w NoByte (no_byte w) (Request g descriptors head) refl n, λ ok host n. each_way w NoByte (no_byte w) (HostAnswer g ok host) refl n)

-- ---- M12, M17: of which type a response is
pub by_type : {A : Type 0} (n : ℕ) → (n ≡ VIRTIO_MEM_REQ_PLUG → A) → (n ≡ VIRTIO_MEM_REQ_UNPLUG → A) → (n ≡ VIRTIO_MEM_REQ_UNPLUG_ALL → A) → (n ≡ VIRTIO_MEM_REQ_STATE → A) → (3 < n → A) → A
by_type n plug unplug all state other =
    by_test (eqb n 0) (λ t. plug (eqb-true n 0 t))
    (λ t₀. by_test (eqb n 1) (λ t. unplug (eqb-true n 1 t))
    (λ t₁. by_test (eqb n 2) (λ t. all (eqb-true n 2 t))
    (λ t₂. by_test (eqb n 3) (λ t. state (eqb-true n 3 t))
    (λ t₃. other (more (eqb-false n 0 t₀) (eqb-false n 1 t₁) (eqb-false n 2 t₂) (eqb-false n 3 t₃))))))
  where
    more : (n ≡ 0 → ⊥) → (n ≡ 1 → ⊥) → (n ≡ 2 → ⊥) → (n ≡ 3 → ⊥) → 3 < n
    more a b c d = omega arith

-- every response is ACK or ERROR, but for the NACK to a plug that would go past the requested size
data Given (w : World) (c : Call) (type : ℕ) : Type 0 where
  AckOrError : among (0 ∷ 3 ∷ []) type ≡ true → Given w c type
  Nack : type ≡ VIRTIO_MEM_RESP_NACK → PlugPastRequested w c → Given w c type

abbrev IsGiven : World → Call → Outcome → Type 0
IsGiven w c o = (type : ℕ) → Responds o type → Given w c type

among_more : (m : ℕ) (ms : List ℕ) (n : ℕ) → among ms n ≡ true → among (m ∷ ms) n ≡ true
unfolding among
among_more m ms n e = by_test (eqb m n) (λ t. rw t) (λ t. rw t e)

by_ok : (w : World) (first count : ℕ) (status : GuestAddr) (g : Guest) (ok : Bool) (host : ℕ) (type : ℕ) → Responds (host_answer (Discard first count status) w g ok host) type → among (0 ∷ 3 ∷ []) type ≡ true
unfolding host_answer response among
by_ok w first count status g true host type r = let e : 0 ≡ type = cc in rw (← e)
by_ok w first count status g false host type r = let e : 3 ≡ type = cc in rw (← e)

one_by_ok : (w : World) (j : ℕ) (ok : Bool) (o : Outcome) → OneAnswered w j ok o → (type : ℕ) → Responds o type → among (0 ∷ 3 ∷ []) type ≡ true
unfolding among
one_by_ok w j true o a type r = (a.ok_goes_on refl).responses type r
one_by_ok w j false o a type r = let rejected = a.no_rejected refl in let e : 3 ≡ type = cc in rw (← e)

given_by : (w : World) → Ways w (IsGiven w)
unfolding among response
given_by w =
    record {
      quiet = λ c o q type r. let y : none ≡ some type = sym (mute o.answer q.silent) ∙ r in let z : ◌≡◌ {A = ℕ} 0 1 = cc in absurd (omega arith);
      hears = λ g descriptors head req status h l type r.
          by_type req.req_type
          (λ t.
          let p = plug_standard w g descriptors head req status h t in
          by_test (eqb 1 type)
          (λ u.
          let e : 1 ≡ type = eqb-true 1 type u in
          Nack (sym e) (record { brings = record { guest = g; descriptors = descriptors; head = head; req = req; status = status; is_request = refl; hears = h; is_type = t }; over = omega (arith, p.only_over (rw e r)) }))
          (λ u. AckOrError (rw u at (p.responses type r))))
          (λ t. AckOrError (among_more 0 (3 ∷ []) type ((unplug_standard w g descriptors head req status h t).responses type r)))
          (λ t. AckOrError ((unplug_all_standard w g descriptors head req status h t).responses type r))
          (λ t. AckOrError ((state_standard w g descriptors head req status h t).responses type r))
          (λ t.
          let y : none ≡ some type = sym (ap response_of (unknown_unserved w g descriptors head req status h t).no_response) ∙ r in
          let z : ◌≡◌ {A = ℕ} 0 1 = cc in absurd (omega arith));
      unplug_ends = λ first count status a g ok host type r. AckOrError (by_ok w first count status g ok host type r);
      one_ends = λ j status a g ok host o answered l type r. AckOrError (one_by_ok w j ok o answered type r);
    }

pub nack_only_past_requested : FromEveryWorld NackOnlyPastRequested
unfolding among
nack_only_past_requested w c r = go (each_way w (IsGiven w) (given_by w) c _ r)
  where
    go : Given w c VIRTIO_MEM_RESP_NACK → PlugPastRequested w c
    go (AckOrError e) = clash e refl
    go (Nack e p) = p

pub never_busy : FromEveryWorld NeverBusy
unfolding among
never_busy w c r = go (each_way w (IsGiven w) (given_by w) c _ r)
  where
    go : Given w c VIRTIO_MEM_RESP_BUSY → ⊥
    go (AckOrError e) = clash e refl
    go (Nack e p) = omega arith

-- ---- while a request waits for the host
pub waiting_stays : FromEveryWorld WaitingStays
unfolding step is_host_answer
waiting_stays w (Place at size slots bs rows) busy no_answer =
    on_unplaced (λ o. o.world ≡ w) w [] _ (λ r _ _. refl) (length bs) (length rows) (λ p e. clash e.pending_is_idle busy)
waiting_stays w (SetRequestedSize mib) busy no_answer =
    on_ready (λ o. o.world ≡ w) w [] _ (λ r _ _. refl) (length w.blocks) (length w.rows) (λ p e. clash e.pending_is_idle busy)
waiting_stays w (Request g descriptors head) busy no_answer =
    on_ready (λ o. o.world ≡ w) w g.mem _ (λ r _ _. refl) (length w.blocks) (length w.rows) (λ p e. clash e.pending_is_idle busy)
waiting_stays w (HostAnswer g ok host) busy no_answer = clash refl no_answer
waiting_stays w (ReadConfig offset buffer) busy no_answer = read_cases (λ o. o.world ≡ w) w offset buffer (λ _. refl) refl
waiting_stays w (WriteConfig offset buffer) busy no_answer = write_cases (λ o. o.world ≡ w) w buffer (λ _. refl) refl
