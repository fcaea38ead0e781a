-- SPDX-License-Identifier: Apache-2.0 AND BSD-3-Clause
-- What holds of every response: a used length is 10 or 0, and an ERROR has its reason (R10.18). One walk over the requests shows each.
use Rattle.std.specs.Prelude.{Option, Some, None, Ok, Err, Result, ⊤}
use Prim.Native.Nat.{ℕ, ◌+◌, ◌*◌}
use mathlib.Core.Path.{◌≡◌, refl}
use mathlib.Core.Bool.{Bool, true, false, cond, not}
use mathlib.Core.List.{List, []}
use native.Mathlib.Omega.{arith}
use lib.Dec.{ltb, eqb}
use Rattle.units.specs.Numbers.{top, bytes_of, MiB}
use Rattle.wire.specs.declared.VirtioMemReq.{VirtioMemReq}
use Rattle.chain.specs.declared.Asked.{Asked}
use Rattle.chain.specs.declared.NoRequest.{NoRequest}
use Rattle.chain.specs.Chain.{parsed, reaches}
use Rattle.record.specs.Shape.{shaped_of, size_ok}
use Rattle.resize.specs.declared.Creation.{Creation}
use Rattle.units.specs.declared.RegionOffset.{RegionOffset}
use Rattle.change.specs.declared.Change.{Change}
use Rattle.change.specs.declared.Reason.{Reason}
use Rattle.std.specs.Result.{result_err}
use Rattle.refusal.specs.declared.Refusal.{Refusal}
use Rattle.change.specs.declared.Reason.TheVariants.{FailedDiscard}
use Rattle.change.specs.Why.{why, why_number, Reasoned}
use Rattle.change.proofs.Why.{Failed, change_failed, reasoned as why_reasoned}
use Rattle.record.specs.declared.Pending.{Pending}
use Rattle.record.specs.declared.Pending.TheVariants.{Nothing, Create, Discard, DiscardOne}
use Rattle.step.specs.declared.Verdict.{Verdict}
use Rattle.step.specs.declared.Reply.{Reply}
use Rattle.step.specs.declared.Answer.{Answer}
use Rattle.step.specs.Answers.{OfReply, SaysWhy}
use Rattle.step.specs.World.{World, Guest, Call, Place, SetRequestedSize, Request, HostAnswer, ReadConfig, WriteConfig, Outcome}
use Rattle.step.specs.Step.{block_size, region, plugged, requested, several, ack, nack, error, changing, cleared, covered_by, served, step, unless, plug_as, plug, unplug_as, one_as, next_as, state_type, state_verdict, serve, request, resizes, placing, place, set_requested_size, host_answer, read_config, write_config}

-- K holds of the reply, and of guest memory then
pub record Of (K : Reply → List ℕ → Type 0) (o : Outcome) : Type 0 where
  pub of : OfReply (λ reply. K reply o.bytes) o.answer

-- what is known of the verdicts in a world: P of each, whichever test fails; and a block that an unplug-all clears leaves it known
pub record Known (P : Verdict → Type 0) (W : World → Type 0) : Type 0 where
  pub acks : P ack
  pub nacks : P nack
  pub states : (w : World) → W w → (addr count : ℕ) → P (state_verdict w addr count)
  pub changes : (w : World) → W w → (addr count : ℕ) (wanted : Bool) → Failed (λ reason. P (error (why reason))) (changing w addr count wanted)
  pub discards : P (error (why FailedDiscard))
  pub clears : (w : World) (block : ℕ) → W w → W (cleared w block)

module _ (K : Reply → List ℕ → Type 0) where
  pub either : (t : Bool) (x y : Outcome) → Of K x → Of K y → Of K (cond t x y)
  either true x y p q = p
  either false x y p q = q

  unless_of : (x : Result ⊤ Refusal) (w : World) (bytes : List ℕ) (o : Outcome) → Of K o → Of K (unless x w bytes o)
  unfolding unless OfReply
  unless_of (Ok admitted) w bytes o p = p
  unless_of (Err refusal) w bytes o p = record { of = tt }

  grown : (r : Option Creation) (w : World) → Of K (resizes r w)
  unfolding resizes OfReply
  grown None w = record { of = tt }
  grown (Some made) w = record { of = tt }

-- of every call, where it is so of every request and every answer of the host: no other has a reply
pub each_call : (K : Call → Reply → List ℕ → Type 0) (w : World)
    → ((g : Guest) (descriptors head : ℕ) → Of (K (Request g descriptors head)) (request (parsed g.mem g.base descriptors head) w g))
    → ((g : Guest) (ok : Bool) (host : ℕ) → Of (K (HostAnswer g ok host)) (host_answer w.device.pending w g ok host))
    → (c : Call) → Of (K c) (step w c)
unfolding step place placing set_requested_size read_config write_config OfReply
each_call K w requests answers (Place at size slots bs rows) =
    unless_of _ _ w [] _ (unless_of _ _ w [] _ (either _ (several w) _ _ (grown _ _ _) (record { of = tt })))
each_call K w requests answers (SetRequestedSize mib) =
    unless_of _ _ w [] _ (either _ (not (size_ok (block_size w) (mib * MiB) (region w))) _ _ (record { of = tt }) (grown _ _ _))
each_call K w requests answers (Request g descriptors head) = unless_of _ _ w g.mem _ (requests g descriptors head)
each_call K w requests answers (HostAnswer g ok host) = unless_of _ _ w g.mem _ (answers g ok host)
each_call K w requests answers (ReadConfig offset buffer) = either _ (not (shaped_of w.device)) _ _ (record { of = tt }) (record { of = tt })
each_call K w requests answers (WriteConfig offset buffer) = either _ (not (shaped_of w.device)) _ _ (record { of = tt }) (record { of = tt })

-- what holds of every such verdict, delivered or not, holds of every reply to a request whose status address this is
abbrev pub SaysAt : (P : Verdict → Type 0) (K : Reply → List ℕ → Type 0) (g : Guest) (status : ℕ) → Type 0
SaysAt P K g status = (v : Verdict) (w : World) → P v → Of K (served v status w g)

module _ (P : Verdict → Type 0) (W : World → Type 0) (k : Known P W) (K : Reply → List ℕ → Type 0) (g : Guest) (status : ℕ) (says : SaysAt P K g status) where
  plug_of_lem : (ch : Result Change Reason) → Failed (λ reason. P (error (why reason))) ch → (w : World) (count : ℕ) → Of K (plug_as ch w count status g)
  unfolding plug_as Failed
  plug_of_lem (Ok change) f w count = says _ _ k.acks
  plug_of_lem (Err why) f w count = says _ _ f

  unplug_of : (ch : Result Change Reason) → Failed (λ reason. P (error (why reason))) ch → (w : World) (count : ℕ) → Of K (unplug_as ch w count status g)
  unfolding unplug_as OfReply Failed
  unplug_of (Ok change) f w count = either K (ltb (plugged w) (bytes_of (block_size w) count)) _ _ (record { of = tt }) (record { of = tt })
  unplug_of (Err why) f w count = says _ _ f

  one_of : (ch : Result Change Reason) → Failed (λ reason. P (error (why reason))) ch → (w : World) (block : ℕ) → Of K (one_as ch w block status g)
  unfolding one_as OfReply Failed
  one_of (Ok change) f w block = record { of = tt }
  one_of (Err why) f w block = says _ _ f

  next_of : (f : Option ℕ) (w : World) → W w → Of K (next_as f w status g)
  unfolding next_as
  next_of None w u = says _ _ k.acks
  next_of (Some block) w u = one_of _ (k.changes w u _ _ _) w block

  pub serve_of : (w : World) → W w → (req : VirtioMemReq) → Of K (serve w req status g)
  unfolding serve plug OfReply
  serve_of w u req =
      let type = req.req_type in
      let count = req.nb_blocks in
      either K (eqb type 0) _ _ (either K (ltb (requested w) (plugged w + bytes_of (block_size w) count)) _ _ (says _ _ k.nacks) (plug_of_lem _ (k.changes w u _ _ _) w count))
      (either K (eqb type 1) _ _ (unplug_of _ (k.changes w u _ _ _) w count)
      (either K (eqb type 2) _ _ (next_of _ w u)
      (either K (eqb type 3) _ _ (says _ _ (k.states w u _ _)) (record { of = tt }))))

  pub unplug_ends : (w : World) (first count : ℕ) (ok : Bool) (host : ℕ) → Of K (host_answer (Discard first count (record { 0 = status })) w g ok host)
  unfolding host_answer
  unplug_ends w first count ok host = either K ok _ _ (says _ _ k.acks) (says _ _ k.discards)

  pub one_ends : (w : World) → W w → (block : ℕ) (ok : Bool) (host : ℕ) → Of K (host_answer (DiscardOne block (record { 0 = status })) w g ok host)
  unfolding host_answer
  one_ends w u block ok host = either K ok _ _ (next_of _ _ (k.clears w block u)) (says _ _ k.discards)

-- a creation's answer has no reply
pub create_of : (K : Reply → List ℕ → Type 0) (w : World) (g : Guest) (i last : ℕ) (ok : Bool) (host : ℕ) → Of K (host_answer (Create i last) w g ok host)
unfolding host_answer OfReply
create_of K w g i last ok host =
    either K ok _ _ (either K (ltb top (host + covered_by w i last)) _ _ (record { of = tt }) (record { of = tt })) (record { of = tt })

-- what holds at every status address holds of every call
module _ (P : Verdict → Type 0) (W : World → Type 0) (k : Known P W) (K : Reply → List ℕ → Type 0) (says : (g : Guest) (status : ℕ) → SaysAt P K g status) where
  request_of_lem : (w : World) → W w → (g : Guest) (p : Result Asked NoRequest) → Of K (request p w g)
  unfolding request OfReply
  request_of_lem w u g (Err reason) = record { of = tt }
  request_of_lem w u g (Ok asked) = serve_of P W k K g asked.status.0 (says g asked.status.0) w u asked.request

  answer_of_lem : (w : World) → W w → (g : Guest) (p : Pending) (ok : Bool) (host : ℕ) → Of K (host_answer p w g ok host)
  unfolding host_answer OfReply
  answer_of_lem w u g Nothing ok host = record { of = tt }
  answer_of_lem w u g (Create i last) ok host = create_of K w g i last ok host
  answer_of_lem w u g (Discard first count status) ok host = unplug_ends P W k K g status.0 (says g status.0) w first count ok host
  answer_of_lem w u g (DiscardOne block status) ok host = one_ends P W k K g status.0 (says g status.0) w u block ok host

  pub every_call : (w : World) → W w → (c : Call) → Of K (step w c)
  every_call w u = each_call (λ c. K) w (λ g descriptors head. request_of_lem w u g (parsed g.mem g.base descriptors head)) (λ g ok host. answer_of_lem w u g w.device.pending ok host)

-- P of what every reply says
abbrev verdict_of : Reply → Verdict
verdict_of reply = record { response = reply.response; why = reply.why }

pub of_every_reply : (P : Verdict → Type 0) (W : World → Type 0) → Known P W → (w : World) → W w → (c : Call) → OfReply (λ reply. P (verdict_of reply)) (step w c).answer
unfolding OfReply
of_every_reply P W k w u c = (every_call P W k (λ reply bytes. P (verdict_of reply)) (λ g status v w' p. record { of = p }) w u c).of

-- ---- R10.18: in any world
abbrev AnyWorld : World → Type 0
AnyWorld w = Prim.Unit {0}

abbrev ReasonedVerdict : Verdict → Type 0
ReasonedVerdict v = Reasoned v.response.resp_type v.why

state_reasoned : (r : Result RegionOffset Reason) → Reasoned (state_type r) (why_number (result_err r))
unfolding state_type
state_reasoned (Ok offset) = record { exactly = refl; most = omega arith }
state_reasoned (Err why) = why_reasoned why

reasoned : Known ReasonedVerdict AnyWorld
reasoned =
    record {
      acks = record { exactly = refl; most = omega arith };
      nacks = record { exactly = refl; most = omega arith };
      states = λ w u addr count. state_reasoned _;
      changes = λ w u addr count wanted. change_failed (changing w addr count wanted);
      discards = record { exactly = refl; most = omega arith };
      clears = λ w block u. tt;
    }

pub says_why : (w : World) (c : Call) → SaysWhy (step w c).answer
says_why w = of_every_reply ReasonedVerdict AnyWorld reasoned w tt

-- ---- a used length is 10 or 0: a response is written whole or not at all
abbrev pub Short : Answer → Type 0
Short answer = OfReply (λ reply. (t : Bool) × (reply.used ≡ cond t 10 0)) answer

pub always_short : (w : World) (c : Call) → Short (step w c).answer
unfolding OfReply
always_short w c =
    (every_call ReasonedVerdict AnyWorld reasoned (λ reply bytes. (t : Bool) × (reply.used ≡ cond t 10 0))
    (λ g status v w' p. record { of = (reaches g.mem g.base status, refl) }) w tt c).of
