-- SPDX-License-Identifier: Apache-2.0 AND BSD-3-Clause
-- The planner and the device over every run: each theorem of the crate `driving`, in a good story.
use Rattle.std.specs.Prelude.{Ok, Err}
use Prim.Native.Nat.{ℕ, zero, suc, ◌+◌, ◌-◌, ◌≤◌, ◌<◌}
use mathlib.Core.Path.{◌≡◌, refl, ap, ◌∙◌, sym}
use mathlib.Core.Bool.{true}
use mathlib.Core.List.{List, [], ◌∷◌}
use native.Mathlib.Omega.{arith}
use lib.ListN.{length}
use borrow.Author.Tests.{le-leb}
use Rattle.units.specs.Numbers.{blocks_in, map_region}
use Rattle.units.specs.declared.GuestAddr.{GuestAddr}
use Rattle.refusal.specs.Refusal.{number}
use Rattle.driver.specs.Plan.{Proposal, plugging, no_plug}
use Rattle.driver.proofs.Laws.{count_few, starts}
use Rattle.record.proofs.Laws.{shaped_is as facts-of, parts as parts-of}
use Rattle.chain.specs.Chain.{asked, parsed}
use Rattle.step.specs.Answers.{served_with, response}
use Rattle.step.specs.World.{World, Guest, Call, Request, Outcome}
use Rattle.step.specs.Step.{step, tables_fit, block_size, usable, plugged, requested, region_blocks, region_rows, ack}
use Rattle.driving.specs.Sound.{Ready, planned, drive_at, drives, Counted, free_runs}
use Rattle.driving.proofs.Acks.{plan_is, acknowledged, one_acknowledged}
use Rattle.driving.proofs.Exact.{none_acknowledged}
use Rattle.driving.proofs.Settles.{only_17, stays, gets_there, drive_keeps, step_drives}
use Rattle.history.specs.History.{Story, next, after}
use Rattle.history.specs.Rules.{FromEveryGood}
use Rattle.history.proofs.Cases.{plug_cases}
use Rattle.history.proofs.Good.{in_every_run}
use Rattle.standard.specs.Requests.{Responds, response_of, Hears, VIRTIO_MEM_RESP_ACK}
use Rattle.standard.proofs.Requests.{to_plug}
use Rattle.in_parts.specs.InParts.{plug_request, Askable}
use Rattle.in_parts.proofs.Asking.{any_up_to_65535}
use Rattle.driving_runs.specs.Runs.{ReadyAndCounted, ProposalAcknowledged, NothingToPlug, SeventeenExactly, Proposed, FollowsPlanner, PlannerGetsThere, FollowingGetsThere, PlannerInRuns}
use Rattle.driving_runs.proofs.Ready.{ready_in_run, ready_and_counted}

-- ---- what is proposed is acknowledged
pub run_acknowledges : FromEveryGood ProposalAcknowledged
run_acknowledges s good c t addr count e =
    let w = s.world in
    let r = ready_in_run s good t in (
      (λ a. let q = ap (step w) a.is_request in rw q (acknowledged w r addr count e a.guest a.descriptors a.head a.status a.reads)),
      λ a. let q = ap (step w) a.is_request in rw q (one_acknowledged w r addr count e a.guest a.descriptors a.head a.status a.reads),
    )

-- ---- 17 exactly
-- an ACK to a plug is the ACK of state 0
plain_ack : (w : World) → Ready w → (g : Guest) (descriptors head addr count : ℕ) (status : GuestAddr) → parsed g.mem g.base descriptors head ≡ asked (plug_request addr count) status
    → Responds (step w (Request g descriptors head)) VIRTIO_MEM_RESP_ACK → (len : ℕ) × ((step w (Request g descriptors head)).answer ≡ served_with ack len)
unfolding response tables_fit
plain_ack w r g descriptors head addr count status q =
    let P : Outcome → Type 0 = λ o. Responds o VIRTIO_MEM_RESP_ACK → (len : ℕ) × (o.answer ≡ served_with ack len) in
    let fit : tables_fit w.device (length w.blocks) (length w.rows) ≡ true = rw (le-leb (region_blocks w) (length w.blocks) r.blocks_fit) (le-leb (region_rows w) (length w.rows) r.rows_fit) in
    let h : Hears w g descriptors head (plug_request addr count) status = record { shaped = r.shaped; pending_is_idle = r.idle; is_placed = r.placed; fits = fit; reads = q } in
    rw (to_plug w g descriptors head (plug_request addr count) status h refl)
    (plug_cases P w (parts-of w.device r.shaped) status.0 g addr count (λ _ _ _ _ _. (_, refl))
    (λ _ e. let z : ◌≡◌ {A = ℕ} 0 1 = cc in absurd (omega arith))
    (λ e. let z : ◌≡◌ {A = ℕ} 0 1 = cc in absurd (omega arith)))

-- a request can ask for what is proposed, and for less
askable : (w : World) → Ready w → (addr : GuestAddr) (n : ℕ) → planned w ≡ plugging addr n → (count : ℕ) → count ≤ 512 → Askable addr.0 count
askable w r addr n e count few =
    let p = plan_is w.device.config w.blocks addr n e in
    let s = facts-of w.device r.shaped in
    let pos : 0 < block_size w = omega (arith, s.block_size) in
    let l = starts w.blocks (block_size w) (usable w) p.first pos p.lowest in
    any_up_to_65535 addr.0 count (omega (arith, p.addr_is, l.bytes, s.usable_in, s.start_region)) (omega arith)

few_enough : (w : World) → Ready w → (addr : GuestAddr) (n : ℕ) → planned w ≡ plugging addr n → n ≤ 512
few_enough w r addr n e =
    let p = plan_is w.device.config w.blocks addr n e in
    let bsz = (facts-of w.device r.shaped).block_size in
    let per : blocks_in (block_size w) map_region ≡ 512 = rw bsz in
    omega (arith, per, p.count_is, count_few (block_size w) (usable w) (plugged w) (requested w) w.blocks p.first (omega arith))

pub run_17_exactly : FromEveryGood SeventeenExactly
unfolding response
run_17_exactly s good c t =
    let w = s.world in
    let r = ready_in_run s good t in
    record {
      says = λ e call addr a k.
          let q = ap (step w) a.is_request in
          let k' = rw q at k in
          let x = plain_ack w r a.guest a.descriptors a.head addr 1 a.status a.reads k' in
          none_acknowledged w r e (record { 0 = addr }) a.status a.guest a.descriptors a.head a.reads x.0 x.1;
      said = λ none. go w r none (planned w) refl;
      no_other = λ why e. ap number (only_17 w r why e);
    }
  where
    go : (w : World) → Ready w → NothingToPlug w → (x : Proposal) → planned w ≡ x → planned w ≡ no_plug
    go w r none (Err why) e = e ∙ ap Err (only_17 w r why e)
    go w r none (Ok plug) e =
        let addr = plug.addr in
        let n : ℕ = plug.nb_blocks in
        let x = askable w r addr n e 1 (omega arith) in
        let a = x.asks in
        let o = (one_acknowledged w r addr n e a.guest a.descriptors a.head a.status a.reads).outcome in
        absurd (none x.call addr.0 a (ap (λ (o : Outcome). response_of o.answer) (ap (step w) a.is_request ∙ o)))

-- ---- it gets there
-- a call that follows the planner leads where the plug of the proposal leads, and there the planner can go on
followed : (w : World) → Ready w → (c : Call) → Proposed w c → (step w c).world ≡ drive_at (planned w) w
followed w r c p =
    let a = p.asks in
    ap (λ (x : Call). (step w x).world) a.is_request ∙ step_drives w r p.addr p.count p.proposes a.guest a.descriptors a.head a.status a.reads

goes_on : (w : World) → Ready w → Counted w → (c : Call) → Proposed w c → Ready (step w c).world × Counted (step w c).world
goes_on w r k c p = rw (followed w r c p) (drive_keeps w r k p.addr p.count p.proposes)

follow_drives : (plugs : List Call) (s : Story) → Ready s.world → Counted s.world → FollowsPlanner s.world plugs → (after s plugs).world ≡ drives (length plugs) s.world
unfolding after next FollowsPlanner drives
follow_drives [] s r k f = refl
follow_drives (c ∷ cs) s r k f =
    let more = goes_on s.world r k c f.0 in
    follow_drives cs (next s c) more.0 more.1 f.1 ∙ ap (drives (length cs)) (followed s.world r c f.0)

-- no more calls follow it than it takes to 17
no_more : (plugs : List Call) (k : ℕ) (w : World) → Ready w → Counted w → FollowsPlanner w plugs → planned (drives k w) ≡ no_plug → length plugs ≤ k
unfolding FollowsPlanner drives
no_more [] k w r c f e = omega arith
no_more (call ∷ cs) zero w r c f e = let proposes = f.0.proposes in let z : ◌≡◌ {A = ℕ} 0 1 = cc in absurd (omega arith)
no_more (call ∷ cs) (suc k) w r c f e =
    let more = goes_on w r c call f.0 in
    omega (arith, no_more cs k (step w call).world more.0 more.1 f.1 (rw (followed w r call f.0) e))

drives_add : (n m : ℕ) (w : World) → drives (n + m) w ≡ drives m (drives n w)
unfolding drives
drives_add zero m w = let z : 0 + m ≡ m = omega arith in rw z
drives_add (suc n) m w = let z : suc n + m ≡ suc (n + m) = omega arith in rw z (drives_add n m (drive_at (planned w) w))

-- calls that follow it, k of them or to 17
record Plugs (k : ℕ) (s : Story) : Type 0 where
  pub plugs : List Call
  pub follow : FollowsPlanner s.world plugs
  pub at_most : length plugs ≤ k
  pub lead : (after s plugs).world ≡ drives k s.world

one_more : (k : ℕ) (s : Story) → Ready s.world → Counted s.world → ((s' : Story) → Ready s'.world → Counted s'.world → Plugs k s') → (x : Proposal) → planned s.world ≡ x → Plugs (suc k) s
unfolding after next FollowsPlanner drives
one_more k s r c rest (Err why) e =
    let q : planned s.world ≡ no_plug = e ∙ ap Err (only_17 s.world r why e) in
    record { plugs = []; follow = tt; at_most = omega arith; lead = sym (stays (suc k) s.world q) }
one_more k s r c rest (Ok plug) e =
    let addr = plug.addr in
    let n : ℕ = plug.nb_blocks in
    let x = askable s.world r addr n e n (few_enough s.world r addr n e) in
    let p : Proposed s.world x.call = record { addr = addr; count = n; proposes = e; asks = x.asks } in
    let more = goes_on s.world r c x.call p in
    let t = rest (next s x.call) more.0 more.1 in
    record {
      plugs = x.call ∷ t.plugs;
      follow = (p, t.follow);
      at_most = omega (arith, t.at_most);
      lead = t.lead ∙ ap (drives k) (followed s.world r x.call p);
    }

plugs_of_lem : (k : ℕ) (s : Story) → Ready s.world → Counted s.world → Plugs k s
unfolding after FollowsPlanner drives
plugs_of_lem zero s r c = record { plugs = []; follow = tt; at_most = omega arith; lead = refl }
plugs_of_lem (suc k) s r c = one_more k s r c (plugs_of_lem k) (planned s.world) refl

pub run_gets_there : FromEveryGood PlannerGetsThere
run_gets_there s good c t =
    let h = ready_and_counted s good c t in
    let p = plugs_of_lem (free_runs s.world) s h.0 h.1 in
    record { plugs = p.plugs; follow = p.follow; at_most = p.at_most; there = rw p.lead (gets_there (free_runs s.world) s.world h.0 h.1 (omega arith)) }

pub run_gets_nowhere_else : FromEveryGood FollowingGetsThere
run_gets_nowhere_else s good c t plugs f =
    let w = s.world in
    let h = ready_and_counted s good c t in
    let k : ℕ = free_runs w in
    let n : ℕ = length plugs in
    let there = gets_there k w h.0 h.1 (omega arith) in
    let few = no_more plugs k w h.0 h.1 f there.spent in
    let leads = follow_drives plugs s h.0 h.1 f in
    record {
      no_more = few;
      there = λ e.
          let q : k ≡ n + (k - n) = omega arith in
          let same : drives k w ≡ drives n w = ap (λ (m : ℕ). drives m w) q ∙ drives_add n (k - n) w ∙ stays (k - n) (drives n w) (rw leads at e) in
          rw (leads, ← same) there;
    }

-- ---- in every run
pub planner_in_runs : PlannerInRuns
planner_in_runs =
    record {
      ready_and_counted = in_every_run ReadyAndCounted ready_and_counted;
      acknowledges = in_every_run ProposalAcknowledged run_acknowledges;
      seventeen_exactly = in_every_run SeventeenExactly run_17_exactly;
      gets_there = in_every_run PlannerGetsThere run_gets_there;
      nowhere_else = in_every_run FollowingGetsThere run_gets_nowhere_else;
    }
