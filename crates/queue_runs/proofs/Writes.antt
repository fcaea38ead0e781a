-- SPDX-License-Identifier: Apache-2.0 AND BSD-3-Clause
-- The device and the clauses Q4, Q6 and Q7: only the used ring and the response are written, the index last, and a length counts the response's bytes.
use Rattle.std.specs.Prelude.{Option, Some, None, Ok, Err, Result}
use Prim.Native.Nat.{ℕ, ◌+◌, ◌-◌, ◌*◌, ◌%◌}
use mathlib.Core.Path.{◌≡◌, refl, ◌∙◌, sym}
use mathlib.Core.Bool.{Bool, true, false}
use mathlib.Core.List.{List, [], ◌∷◌}
use mathlib.Core.Option.{some, none}
use Rattle.refusal.specs.declared.Refusal.{Refusal}
use Rattle.little_endian.specs.Bytes.{part}
use Rattle.record.specs.declared.Pending.{Pending}
use Rattle.record.specs.declared.Pending.TheVariants.{Nothing as Idle, Create, Discard, DiscardOne}
use Rattle.rings.specs.declared.Queue.{Queue}
use Rattle.rings.specs.Standard.{Apart}
use Rattle.rings.specs.Rings.{next_head, reported}
use Rattle.rings.proofs.Laws.{report_apart}
use Rattle.step.specs.declared.Answer.{Answer}
use Rattle.step.specs.declared.Answer.TheVariants.{Refused, Wants, Sized, Unserved, Served, Done}
use Rattle.step.specs.declared.Reply.{Reply}
use Rattle.step.specs.Answers.{response}
use Rattle.step.specs.World.{World, Guest, Call, Request, HostAnswer}
use Rattle.step.specs.Step.{step}
use Rattle.queue.specs.declared.Ending.{Ending}
use Rattle.queue.specs.declared.Ending.TheVariants.{Stays, Out, Used}
use Rattle.queue.specs.Queue.{QueueOutcome, took_head, discarding, ending_of, bytes_by, about, next_of, takes, answers}
use Rattle.standard.specs.Requests.{response_of, lent_by, status_of_pending, status_for}
use Rattle.standard.proofs.Responses.{response_is_delivered}
use Rattle.history.proofs.Shaped.{clash}
use Rattle.queue_runs.specs.Runs.{QueueCall, TakeNext, Host, PastIt, queue_step, lent_to, requests_of, device_calls, ending_told, used_by, head_of, out_of, newly_reported, FromEveryQueue, InEveryQueueRun}
use Rattle.queue_runs.specs.Heads.{is_out}
use Rattle.queue_runs.specs.Standard.{on_guest, WritesOnly, UnreportedWritesNothing, Written, ReportIsWritten}
use Rattle.queue_runs.proofs.Cases.{impossible, next_cases, answer_cases}
use Rattle.queue_runs.proofs.Open.{out_while_open}
use Rattle.queue_runs.proofs.Bytes.{Keeps, request_keeps, answer_keeps}

-- ---- which bytes
module _ (w : World) (q : Queue) (g : Guest) where
  -- byte i lies outside of the response to each call of these, and then is as it was
  abbrev Outside : (i : ℕ) → List Call → Type 0
  Outside i calls = (call : Call) (status : ℕ) → calls ≡ call ∷ [] → status_for w call ≡ some status → Apart i (status - g.base) 10

  abbrev Kept : (i : ℕ) → List ℕ → Type 0
  Kept i bytes = part bytes i 1 ≡ part g.mem i 1

  module _ (i : ℕ) (a : Apart i (q.used.0 - g.base + 2) 2) (b : Apart i (q.used.0 - g.base + 4 + 8 * (q.next_used % 128)) 8) where
    ending_only : (e : Ending) (head : ℕ) (out : Queue) → out.used ≡ q.used → out.next_used ≡ q.next_used → (bytes : List ℕ) → part (bytes_by e out head g.base bytes) i 1 ≡ part bytes i 1
    unfolding bytes_by
    ending_only Stays head out u n bytes = refl
    ending_only Out head out u n bytes = refl
    ending_only (Used len) head out u n bytes = rw (u, n) (report_apart bytes g.base q.used.0 q.next_used head len i a b)

    about_only : (head : ℕ) (out : Queue) → out.used ≡ q.used → out.next_used ≡ q.next_used → (call : Call) → let o = step w call in
        Keeps w call g o.answer o.bytes → Outside i (call ∷ []) → Kept i (about head g.base q out o).bytes
    about_only head out u n call k far =
        let o = step w call in
        ending_only (ending_of o.answer) head out u n o.bytes ∙ k.others i (λ status e. far call status refl e)

    taken_only : (x : Result (Option ℕ) Refusal) → Outside i (requests_of x q g) → Kept i (takes x w q g).bytes
    unfolding takes requests_of
    taken_only (Ok (Some h)) far = about_only h (took_head q h) refl refl (Request g q.descriptors.0 h) (request_keeps w g q.descriptors.0 h) far
    taken_only (Ok None) far = refl
    taken_only (Err refusal) far = refl

    heard_only : (ok : Bool) (host : ℕ) (t : Option ℕ) → Outside i (HostAnswer g ok host ∷ []) → Kept i (answers t q g.base (step w (HostAnswer g ok host))).bytes
    unfolding answers
    heard_only ok host None far = (answer_keeps w g ok host).others i (λ status e. far (HostAnswer g ok host) status refl e)
    heard_only ok host (Some h) far = about_only h q refl refl (HostAnswer g ok host) (answer_keeps w g ok host) far

pub writes_only : FromEveryQueue WritesOnly
unfolding queue_step device_calls lent_to on_guest
writes_only w q (TakeNext g) guest i far (a, b) = taken_only w q g i a b (next_of w q g) far
writes_only w q (Host g ok host) guest i far (a, b) =
    answer_cases w q g ok host (λ calls o. Outside w q g i calls → Kept w q g i o.bytes)
    (λ _ outside. heard_only w q g i a b ok host q.taken outside)
    (λ r _ outside. refl)
    far
writes_only w q (PastIt b) guest i far _ = clash guest refl

-- ---- a head that is reported
module _ (w : World) (q : Queue) (g : Guest) where
  -- what is written for a call of the device that ended, and its length
  pub record Ended (call : Call) (bytes : List ℕ) (head len : ℕ) : Type 0 where
    pub counts : (reply : Reply) → (step w call).answer ≡ Served reply → len ≡ reply.used
    pub none_counted : response_of (step w call).answer ≡ none → len ≡ 0
    pub in_turn : bytes ≡ reported (step w call).bytes g.base q.used.0 q.next_used head len

  length_of_lem : (a : Answer) (len : ℕ) → ending_of a ≡ Used len → ((reply : Reply) → a ≡ Served reply → len ≡ reply.used) × (response_of a ≡ none → len ≡ 0)
  unfolding response
  length_of_lem (Refused n) len e = impossible cc
  length_of_lem (Wants call) len e = impossible cc
  length_of_lem Sized len e = impossible cc
  length_of_lem (Unserved reason) len e = (λ reply f. impossible cc, λ _. cc)
  length_of_lem (Served given) len e = (λ reply f. let same : given ≡ reply = cc in rw (← same) (let z : given.used ≡ len = cc in sym z), λ f. impossible cc)
  length_of_lem Done len e = impossible cc

  about_ended : (head : ℕ) (out : Queue) → out.used ≡ q.used → out.next_used ≡ q.next_used → (call : Call) (len : ℕ) → ending_of (step w call).answer ≡ Used len
      → Ended call (about head g.base q out (step w call)).bytes head len
  unfolding bytes_by
  about_ended head out u n call len e =
      let l = length_of_lem (step w call).answer len e in
      record { counts = l.0; none_counted = l.1; in_turn = rw (e, u, n) }

  record WrittenBy (calls : List Call) (bytes : List ℕ) (head len : ℕ) : Type 0 where
    pub call : Call
    pub made : calls ≡ call ∷ []
    pub lends : lent_by call ≡ g
    pub keeps : Keeps w call g (step w call).answer (step w call).bytes
    pub ended : Ended call bytes head len

  -- taking: the head that stands next
  abbrev TakenWritten : (there x : Result (Option ℕ) Refusal) → Type 0
  TakenWritten there x = (head len : ℕ) → used_by (ending_told (takes x w q g).answer) (head_of there) ≡ head ∷ [] → ending_told (takes x w q g).answer ≡ Used len
      → WrittenBy (requests_of x q g) (takes x w q g).bytes head len

  stays_not : {len : ℕ} {A : Type 0} → Stays ≡ Used len → A
  stays_not e = impossible cc

  taken_written : (x : Result (Option ℕ) Refusal) → TakenWritten x x
  unfolding takes requests_of ending_told head_of used_by lent_by
  taken_written (Ok None) head len r e = stays_not e
  taken_written (Err refusal) head len r e = stays_not e
  taken_written (Ok (Some h)) head len r e =
      let same : h ≡ head = cc_head (rw e at r) in
      let call = Request g q.descriptors.0 h in
      record { call = call; made = refl; lends = refl; keeps = request_keeps w g q.descriptors.0 h; ended = rw (← same) (about_ended h (took_head q h) refl refl call len e) }
    where
      cc_head : h ∷ [] ≡ head ∷ [] → h ≡ head
      cc_head f = cc

  refused_written : (there : Result (Option ℕ) Refusal) (refusal : Refusal) → TakenWritten there (Err refusal)
  unfolding takes ending_told
  refused_written there refusal head len r e = stays_not e

  -- a host's answer: the head that is out
  heard_written : (ok : Bool) (host : ℕ) (t : Option ℕ) (head len : ℕ) → let call = HostAnswer g ok host in let o = answers t q g.base (step w call) in
      used_by (ending_told o.answer) (out_of t) ≡ head ∷ [] → ending_told o.answer ≡ Used len → WrittenBy (call ∷ []) o.bytes head len
  unfolding answers ending_told out_of used_by lent_by
  heard_written ok host None head len r e = let f : [] ≡ head ∷ [] = rw e at r in impossible cc
  heard_written ok host (Some h) head len r e =
      let call = HostAnswer g ok host in
      let f : h ∷ [] ≡ head ∷ [] = rw e at r in
      let same : h ≡ head = cc in
      record { call = call; made = refl; lends = refl; keeps = answer_keeps w g ok host; ended = rw (← same) (about_ended h q refl refl call len e) }

  whole : (c : QueueCall) → lent_to c ≡ g → (o : QueueOutcome) (head len : ℕ) → WrittenBy (device_calls w q c) o.bytes head len → Written w q c o head len
  whole c lent o head len b =
      record {
        call = b.call;
        made = b.made;
        counts = λ reply e. (b.ended.counts reply e, response_is_delivered w b.call reply e);
        none_counted = λ e. (b.ended.none_counted e, rw lent (b.keeps.silent e));
        in_turn = rw lent b.ended.in_turn;
      }

pub report_is_written : FromEveryQueue ReportIsWritten
unfolding queue_step device_calls lent_to newly_reported ending_told
report_is_written w q (TakeNext g) head len r =
    whole w q g (TakeNext g) refl (queue_step w q (TakeNext g)) head len
    (let there = next_head g.mem g.base q in
    next_cases w q g (TakenWritten w q g there) (refused_written w q g there) (λ _. taken_written w q g there) head len r.reported r.ended)
report_is_written w q (Host g ok host) head len r =
    whole w q g (Host g ok host) refl (queue_step w q (Host g ok host)) head len
    (answer_cases w q g ok host
    (λ calls (o : QueueOutcome). used_by (ending_told o.answer) (out_of q.taken) ≡ head ∷ [] → ending_told o.answer ≡ Used len → WrittenBy w q g calls o.bytes head len)
    (λ _. heard_written w q g ok host q.taken head len)
    (λ refusal _ _ e. stays_not w q g e)
    r.reported
    r.ended)
report_is_written w q (PastIt b) head len r = let e = r.reported in impossible cc

-- ---- a call that reports no head
unused : (a : Answer) (h : ℕ) → used_by (ending_of a) (h ∷ []) ≡ [] → (out : Queue) (head base : ℕ) (bytes : List ℕ) → (response_of a ≡ none) × (bytes_by (ending_of a) out head base bytes ≡ bytes)
unfolding used_by response bytes_by
unused (Refused n) h e out head base bytes = (refl, refl)
unused (Wants call) h e out head base bytes = (refl, refl)
unused Sized h e out head base bytes = (refl, refl)
unused (Unserved reason) h e out head base bytes = impossible cc
unused (Served reply) h e out head base bytes = impossible cc
unused Done h e out head base bytes = (refl, refl)

-- with no discard pending there is nowhere to put a response
no_status : (p : Pending) → discarding p ≡ false → status_of_pending p ≡ none
unfolding status_of_pending
no_status Idle e = refl
no_status (Create first last) e = refl
no_status (Discard first count status) e = clash refl e
no_status (DiscardOne block status) e = clash refl e

module _ (w : World) (q : Queue) (g : Guest) where
  about_unused : (head : ℕ) (out : Queue) (call : Call) → Keeps w call g (step w call).answer (step w call).bytes → used_by (ending_of (step w call).answer) (head ∷ []) ≡ []
      → (about head g.base q out (step w call)).bytes ≡ g.mem
  about_unused head out call k e =
      let u = unused (step w call).answer head e out head g.base (step w call).bytes in
      u.1 ∙ k.silent u.0

  taken_unused : (x : Result (Option ℕ) Refusal) → used_by (ending_told (takes x w q g).answer) (head_of x) ≡ [] → (takes x w q g).bytes ≡ g.mem
  unfolding takes ending_told head_of
  taken_unused (Ok None) e = refl
  taken_unused (Err refusal) e = refl
  taken_unused (Ok (Some h)) e = about_unused h (took_head q h) (Request g q.descriptors.0 h) (request_keeps w g q.descriptors.0 h) e

  heard_unused : (ok : Bool) (host : ℕ) (t : Option ℕ) → is_out t ≡ discarding w.device.pending → let o = answers t q g.base (step w (HostAnswer g ok host)) in
      used_by (ending_told o.answer) (out_of t) ≡ [] → o.bytes ≡ g.mem
  unfolding answers ending_told out_of is_out status_for
  heard_unused ok host None k e = (answer_keeps w g ok host).nowhere (no_status w.device.pending (sym k))
  heard_unused ok host (Some h) k e = about_unused h q (HostAnswer g ok host) (answer_keeps w g ok host) e

unreported : (w : World) (q : Queue) → is_out q.taken ≡ discarding w.device.pending → (c : QueueCall) → on_guest c ≡ true
    → newly_reported q c (queue_step w q c).answer ≡ [] → (queue_step w q c).bytes ≡ (lent_to c).mem
unfolding queue_step newly_reported lent_to on_guest takes ending_told
unreported w q k (TakeNext g) guest =
    let there = next_head g.mem g.base q in
    next_cases w q g (λ x. used_by (ending_told (takes x w q g).answer) (head_of there) ≡ [] → (takes x w q g).bytes ≡ g.mem) (λ n e. refl) (λ _. taken_unused w q g there)
unreported w q k (Host g ok host) guest =
    answer_cases w q g ok host (λ _ (o : QueueOutcome). used_by (ending_told o.answer) (out_of q.taken) ≡ [] → o.bytes ≡ g.mem)
    (λ _. heard_unused w q g ok host q.taken k) (λ r _ e. refl)
unreported w q k (PastIt b) guest = clash guest refl

pub unreported_writes_nothing : InEveryQueueRun UnreportedWritesNothing
unreported_writes_nothing s r c guest = unreported s.world s.queue (out_while_open s r c) c guest
