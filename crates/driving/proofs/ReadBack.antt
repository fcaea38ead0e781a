-- SPDX-License-Identifier: Apache-2.0 AND BSD-3-Clause
-- Every response and every config that the device gives is read back by the driver: by one walk over `step`, of what a response leaves.
use Rattle.change.specs.Why.{why}
use Rattle.std.specs.Prelude.{Result, Ok, Err}
use Prim.Native.Nat.{ℕ, ◌+◌, ◌≤◌, ◌<◌, ◌^◌}
use mathlib.Core.Path.{◌≡◌, refl, sym, ap, ◌∙◌}
use mathlib.Core.Bool.{Bool, true, false, cond}
use mathlib.Core.List.{List}
use native.Mathlib.Omega.{arith}
use lib.Dec.{ltb}
use lib.ListN.{length}
use Rattle.units.specs.Numbers.{blocks_in}
use Rattle.units.specs.declared.GuestAddr.{GuestAddr}
use Rattle.units.proofs.Tests.{by_test}
use Rattle.bitmap.specs.Blocks.{every}
use Rattle.wire.specs.declared.VirtioMemReq.{VirtioMemReq}
use Rattle.wire.specs.declared.VirtioMemResp.{VirtioMemResp}
use Rattle.wire.specs.declared.VirtioMemConfig.{VirtioMemConfig}
use Rattle.chain.specs.declared.Asked.{Asked}
use Rattle.chain.specs.declared.NoRequest.{NoRequest}
use Rattle.chain.specs.Chain.{asked, parsed, reaches}
use Rattle.chain.proofs.Laws.{delivered_reads}
use Rattle.record.specs.declared.Device.{Device}
use Rattle.record.specs.declared.Pending.{Pending}
use Rattle.record.specs.declared.Pending.TheVariants.{Nothing, Create, Discard, DiscardOne}
use Rattle.record.specs.Shape.{shaped_of}
use Rattle.record.proofs.Laws.{shaped_is, config-shaped_of}
use Rattle.units.specs.declared.RegionOffset.{RegionOffset}
use Rattle.change.specs.declared.Change.{Change}
use Rattle.change.specs.declared.Reason.{Reason}
use Rattle.change.specs.Change.{state_in, state_of}
use Rattle.change.proofs.Why.{Failed}
use Rattle.step.specs.declared.Answer.TheVariants.{Served}
use Rattle.step.specs.declared.Reply.{Reply}
use Rattle.step.specs.declared.Verdict.{Verdict}
use Rattle.step.specs.Answers.{served_with, OfReply}
use Rattle.step.specs.World.{World, Guest, Call, Request, HostAnswer, ReadConfig, Outcome}
use Rattle.step.specs.Step.{region, ack, error, served, state_type, request, host_answer, read_config, step}
use Rattle.step.proofs.Served.{Of, Known, SaysAt, each_call, serve_of, unplug_ends, one_ends, create_of}
use Rattle.refusal.specs.declared.Refusal.{Refusal}
use Rattle.refusal.specs.declared.Refusal.TheVariants.{NoShape}
use Rattle.driver.specs.Text.{ReadsConfig, ConfigFits}
use Rattle.driver.specs.Plan.{plugging, plan_of}
use Rattle.driver.proofs.Trips.{config_back}
use Rattle.driving.specs.Sound.{Ready, PlugAcknowledged}
use Rattle.driving.specs.Chain.{HoldsRequest, plug_of, laid_in, in66, GoesTo, OfChain, OfUnplug, OfUnplugAll, ReadAt, ReadBack}
use Rattle.driving.proofs.Settles.{found_17}
use Rattle.driving.proofs.Held.{held_parses, acknowledged_held, proposal_fits, length_laid, laid_holds, is_inside, in_66}

-- ---- the known types and states
at_most : (t : Bool) (a b n : ℕ) → a ≤ n → b ≤ n → cond t a b ≤ n
at_most true a b n h k = h
at_most false a b n h k = k

type_known : (x : Result RegionOffset Reason) → state_type x ≤ 3
unfolding state_type
type_known (Ok offset) = omega arith
type_known (Err why) = omega arith

state_in_known : (bs : List Bool) → state_in bs ≤ 2
unfolding state_in
state_in_known bs = at_most (every true bs) 0 _ 2 (omega arith) (at_most (every false bs) 1 2 2 (omega arith) (omega arith))

state_known : (b start region addr count : ℕ) (bs : List Bool) → state_of b start region addr count bs ≤ 2
unfolding state_of
state_known b start region addr count bs = at_most (ltb addr start) 0 _ 2 (omega arith) (state_in_known _)

-- ---- so every verdict's are known
abbrev KnownVerdict : Verdict → Type 0
KnownVerdict v = (v.response.resp_type ≤ 3) × (v.response.state ≤ 2)

abbrev AnyWorld : World → Type 0
AnyWorld w = Prim.Unit {0}

any_failed : (x : Result Change Reason) → Failed (λ reason. KnownVerdict (error (why reason))) x
unfolding Failed
any_failed (Ok change) = tt
any_failed (Err why) = (omega arith, omega arith)

known : Known KnownVerdict AnyWorld
known =
    record {
      acks = (omega arith, omega arith);
      nacks = (omega arith, omega arith);
      states = λ w u addr count. (type_known _, state_known _ _ _ _ _ _);
      changes = λ w u addr count wanted. any_failed _;
      discards = (omega arith, omega arith);
      clears = λ w block u. tt;
    }

-- ---- a response that is delivered is read back
read_at : (g : Guest) (status : GuestAddr) (v : Verdict) (w : World) → v.response.resp_type ≤ 3 → v.response.state ≤ 2
    → ◌≡◌ {A = ℕ} (cond (reaches g.mem g.base status.0) 10 0) 10 → ReadAt g status (served v status.0 w g).bytes v.response
read_at g status v w t s ten xs same r reads =
    let resp = v.response in
    by_test (reaches g.mem g.base status.0)
    (λ u. reads.only resp (record { text = same ∙ delivered_reads g.mem g.base status.0 resp u; type_known = t; state_known = s }))
    (λ u. let z : ◌≡◌ {A = ℕ} 0 10 = rw u at ten in absurd (omega arith))

module _ (w : World) where
  goes_back : (c : Call) (g : Guest) (status : GuestAddr) → GoesTo w c g status → SaysAt KnownVerdict (ReadBack w c) g status.0
  unfolding OfReply
  goes_back c g status goes v w' k =
      record { of = record { type_known = k.0; state_known = k.1; guest = g; status = status; goes = goes; read = read_at g status v w' k.0 k.1 } }

  request_told : (g : Guest) (descriptors head : ℕ) (p : Result Asked NoRequest) → parsed g.mem g.base descriptors head ≡ p → Of (ReadBack w (Request g descriptors head)) (request p w g)
  unfolding request OfReply
  request_told g descriptors head (Err reason) e = record { of = tt }
  request_told g descriptors head (Ok found) e =
      let c = Request g descriptors head in
      serve_of KnownVerdict AnyWorld known (ReadBack w c) g found.status.0 (goes_back c g found.status (OfChain descriptors head found.request refl e)) w tt found.request

  answer_told : (g : Guest) (ok : Bool) (host : ℕ) (p : Pending) → w.device.pending ≡ p → Of (ReadBack w (HostAnswer g ok host)) (host_answer p w g ok host)
  unfolding host_answer OfReply
  answer_told g ok host Nothing e = record { of = tt }
  answer_told g ok host (Create i last) e = create_of _ w g i last ok host
  answer_told g ok host (Discard first count status) e =
      let c = HostAnswer g ok host in
      unplug_ends KnownVerdict AnyWorld known (ReadBack w c) g status.0 (goes_back c g status (OfUnplug ok host first count refl e)) w first count ok host
  answer_told g ok host (DiscardOne block status) e =
      let c = HostAnswer g ok host in
      one_ends KnownVerdict AnyWorld known (ReadBack w c) g status.0 (goes_back c g status (OfUnplugAll ok host block refl e)) w tt block ok host

  -- ---- every response, of every call in every world
  pub read_back : (c : Call) (reply : Reply) → (step w c).answer ≡ Served reply → ReadBack w c reply (step w c).bytes
  unfolding OfReply
  read_back c reply e =
      let told = each_call (ReadBack w) w (λ g descriptors head. request_told g descriptors head (parsed g.mem g.base descriptors head) refl) (λ g ok host. answer_told g ok host w.device.pending refl) in
      rw e at (told c).of

-- the place is one: that of the chain
goes_once : (w : World) (g g' : Guest) (descriptors head : ℕ) (q : VirtioMemReq) (status status' : GuestAddr) → parsed g.mem g.base descriptors head ≡ asked q status
    → GoesTo w (Request g descriptors head) g' status' → (g ≡ g') × (status ≡ status')
goes_once w g g' descriptors head q status status' e (OfChain descriptors' head' q' is e') =
    let a : g ≡ g' = cc in
    let b : asked q status ≡ asked q' status' = cc in
    let same : ◌≡◌ {A = Asked} (record { request = q; status = status }) (record { request = q'; status = status' }) = cc b in
    (a, ap (λ (x : Asked). x.status) same)
goes_once w g g' descriptors head q status status' e (OfUnplug ok host first count is _) = let z : ◌≡◌ {A = ℕ} 0 1 = cc in absurd (omega arith)
goes_once w g g' descriptors head q status status' e (OfUnplugAll ok host block is _) = let z : ◌≡◌ {A = ℕ} 0 1 = cc in absurd (omega arith)

moved : {g g' : Guest} {status status' : GuestAddr} (bytes : List ℕ) (resp : VirtioMemResp) → g ≡ g' → status ≡ status' → ReadAt g' status' bytes resp → ReadAt g status bytes resp
moved bytes resp a b x = rw (a, b) x

-- the response to a request that guest memory holds
pub held_read : (w : World) (g : Guest) (descriptors head : ℕ) (q : VirtioMemReq) (status : GuestAddr) → HoldsRequest g descriptors head q status
    → (v : Verdict) → (step w (Request g descriptors head)).answer ≡ served_with v 10 → ReadAt g status (step w (Request g descriptors head)).bytes v.response
held_read w g descriptors head q status h v e =
    let b = read_back w (Request g descriptors head) _ e in
    let o = goes_once w g b.guest descriptors head q status b.status (held_parses g descriptors head q status h) b.goes in
    moved (step w (Request g descriptors head)).bytes v.response o.0 o.1 (b.read refl)

-- ---- the config
config_fits : (d : Device) → shaped_of d ≡ true → d.config.node_id < 65536 → ConfigFits d.config
config_fits d e n =
    let s = shaped_is d e in
    record {
      block = omega (arith, s.block_size);
      node = n;
      start = omega (arith, s.start_region);
      region = omega (arith, s.region_top);
      usable = omega (arith, s.usable_in, s.region_top);
      plugged = omega (arith, s.plugged_in_lem, s.region_top);
      requested = omega (arith, s.requested_in, s.region_top);
    }

-- a whole read of it is read back; the node is a u16
pub config_read_back : (w : World) → shaped_of w.device ≡ true → w.device.config.node_id < 65536 → (buffer : List ℕ) → 56 ≤ length buffer
    → (r : Result VirtioMemConfig Refusal) → ReadsConfig (step w (ReadConfig 0 buffer)).bytes r → r ≡ Ok w.device.config
unfolding step read_config
config_read_back w e n buffer long r reads = config_back buffer w.device.config long (config_fits w.device e n) r (simp e at reads)

-- the planner takes it: 12 is never its answer
module _ (d : Device) (e : shaped_of d ≡ true) (bs : List Bool) where
  pub never_12 : plan_of d.config bs ≡ Err NoShape → ⊥
  unfolding plan_of
  never_12 q =
      by_test (ltb (length bs) (blocks_in d.config.block_size d.config.region_size))
      (λ t. let y = simp (config-shaped_of d e, t) at q in cc)
      (λ t. let z = found_17 _ _ _ _ _ _ bs NoShape (simp (config-shaped_of d e, t) at q) in cc)

-- ---- a whole turn
-- the plug that is proposed, held by guest memory with room for the response, is acknowledged, and the driver reads the ACK
pub ack_read : (w : World) → Ready w → (addr : GuestAddr) (n : ℕ) → plan_of w.device.config w.blocks ≡ plugging addr n
    → (g : Guest) (descriptors head : ℕ) (status : GuestAddr) → HoldsRequest g descriptors head (plug_of addr n) status → reaches g.mem g.base status.0 ≡ true
    → ReadAt g status (step w (Request g descriptors head)).bytes ack.response
ack_read w r addr n e g descriptors head status h room =
    let a = acknowledged_held w r addr n e g descriptors head status h in
    held_read w g descriptors head (plug_of addr n) status h ack (ap (λ (o : Outcome). o.answer) a.outcome ∙ rw room)

-- the driver reads the config, plans, lays the plug into any 66 bytes of guest memory, and reads the ACK
pub turn : (w : World) → Ready w → w.device.config.node_id < 65536
    → (buffer : List ℕ) → 56 ≤ length buffer → (r : Result VirtioMemConfig Refusal) → ReadsConfig (step w (ReadConfig 0 buffer)).bytes r → (c : VirtioMemConfig) → r ≡ Ok c
    → (addr : GuestAddr) (n : ℕ) → plan_of c w.blocks ≡ plugging addr n
    → (g : Guest) → 66 ≤ length g.mem → g.base + 66 ≤ 2 ^ 64
    → let p = in66 g.base in
    let g' = laid_in g p (plug_of addr n) in
    let o = step w (Request g' p.descriptors p.head) in
    PlugAcknowledged w addr.0 n p.status.0 g' o × ReadAt g' p.status o.bytes ack.response
unfolding reaches
turn w r node buffer long got reads c is addr n e g room low =
    let p = in66 g.base in
    let g' = laid_in g p (plug_of addr n) in
    let d = w.device.config in
    let back : ◌≡◌ {A = Result VirtioMemConfig Refusal} (Ok c) (Ok d) = sym is ∙ config_read_back w r.shaped node buffer long got reads in
    let same : d ≡ c = cc in
    let plans : plan_of d w.blocks ≡ plugging addr n = ap (λ (k : VirtioMemConfig). plan_of k w.blocks) same ∙ e in
    let h = laid_holds g p (plug_of addr n) (in_66 g room low) (proposal_fits d w.blocks addr n plans) in
    let l = length_laid g p (plug_of addr n) in
    let lies = is_inside (length g'.mem) g.base p.status.0 10 (omega arith) (omega arith) (omega arith) in
    (acknowledged_held w r addr n plans g' p.descriptors p.head p.status h, ack_read w r addr n plans g' p.descriptors p.head p.status h lies)
