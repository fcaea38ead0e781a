-- SPDX-License-Identifier: Apache-2.0 AND BSD-3-Clause
-- The planner and the device, in every good story and so in every run (R14.9 to R14.11): what it proposes is acknowledged, 17 says that nothing can be plugged, and it gets there. The planner has the device's config and bitmap; guest memory is any that holds the chain.
use Rattle.std.specs.Prelude.{ℕ, ◌≤◌, ◌≡◌, true, List, [], ◌∷◌, length, Err}
use Rattle.units.specs.declared.GuestAddr.{GuestAddr}
use Rattle.record.specs.Shape.{is_idle}
use Rattle.step.specs.World.{World, Call}
use Rattle.step.specs.Step.{step}
use Rattle.refusal.specs.declared.Refusal.{Refusal}
use Rattle.refusal.specs.Refusal.{number}
use Rattle.driver.specs.Plan.{plugging, no_plug}
use Rattle.driving.specs.Sound.{Ready, PlugAcknowledged, planned, Counted, There, free_runs}
use Rattle.history.specs.History.{Story, after}
use Rattle.history.specs.Rules.{InEveryRun}
use Rattle.standard.specs.Requests.{Responds, VIRTIO_MEM_RESP_ACK}
use Rattle.in_parts.specs.InParts.{Asks}

-- the device is placed, and nothing is pending
pub record TakesRequests (w : World) : Type 0 where
  pub is_placed : w.device.placed ≡ true
  pub pending_is_idle : is_idle w.device.pending ≡ true

-- then what the theorems of the crate `driving` ask of a world is so
abbrev pub ReadyAndCounted : Story → Call → Type 0
ReadyAndCounted s c = TakesRequests s.world → Ready s.world × Counted s.world

-- ---- R14.9: what is proposed is acknowledged, and so is a plug of the block at its start alone
abbrev pub AcksTo : World → Call → (addr : GuestAddr) (count : ℕ) → Type 0
AcksTo w c addr count = (a : Asks c addr.0 count)
    → PlugAcknowledged w addr.0 count a.status.0 a.guest (step w c)

abbrev pub ProposalAcknowledged : Story → Call → Type 0
ProposalAcknowledged s c = let w = s.world in TakesRequests w → (addr : GuestAddr) (count : ℕ) → planned w ≡ plugging addr count
    → AcksTo w c addr count × AcksTo w c addr 1

-- ---- R14.10: 17 is given exactly if no plug of one block is acknowledged, at whatever address; and no other refusal is given
abbrev pub NothingToPlug : World → Type 0
NothingToPlug w = (c : Call) (addr : ℕ) → Asks c addr 1 → Responds (step w c) VIRTIO_MEM_RESP_ACK → ⊥

pub record Exactly17 (w : World) : Type 0 where
  pub says : planned w ≡ no_plug → NothingToPlug w
  pub said : NothingToPlug w → planned w ≡ no_plug
  pub no_other : (why : Refusal) → planned w ≡ Err why → number why ≡ 17

abbrev pub SeventeenExactly : Story → Call → Type 0
SeventeenExactly s c = TakesRequests s.world → Exactly17 s.world

-- ---- R14.11: planning and plugging again and again
-- the call asks for what the planner proposes
pub record Proposed (w : World) (c : Call) : Type 0 where
  pub addr : GuestAddr
  pub count : ℕ
  pub proposes : planned w ≡ plugging addr count
  pub asks : Asks c addr.0 count

-- each of these calls does, after those before it
unfoldable pub FollowsPlanner : World → List Call → Type 0
FollowsPlanner w [] = Unit {0}
FollowsPlanner w (c ∷ cs) = Proposed w c × FollowsPlanner (step w c).world cs

-- there are such calls that get there, at most as many as the usable part has runs of free blocks, which are at most its free blocks (`runs_few` of the crate `driving`)
pub record GetsThere (s : Story) : Type 0 where
  pub plugs : List Call
  pub follow : FollowsPlanner s.world plugs
  pub at_most : length plugs ≤ free_runs s.world
  pub there : There s.world (after s plugs).world

abbrev pub PlannerGetsThere : Story → Call → Type 0
PlannerGetsThere s c = TakesRequests s.world → GetsThere s

-- and none lead elsewhere: no more can follow the planner, and where it gives 17 they are there
pub record NowhereElse (s : Story) (plugs : List Call) : Type 0 where
  pub no_more : length plugs ≤ free_runs s.world
  pub there : planned (after s plugs).world ≡ no_plug → There s.world (after s plugs).world

abbrev pub FollowingGetsThere : Story → Call → Type 0
FollowingGetsThere s c = TakesRequests s.world → (plugs : List Call) → FollowsPlanner s.world plugs → NowhereElse s plugs

-- ---- all of it, in every run from a newly made device on
pub record PlannerInRuns : Type 0 where
  pub ready_and_counted : InEveryRun ReadyAndCounted
  pub acknowledges : InEveryRun ProposalAcknowledged
  pub seventeen_exactly : InEveryRun SeventeenExactly
  pub gets_there : InEveryRun PlannerGetsThere
  pub nowhere_else : InEveryRun FollowingGetsThere
