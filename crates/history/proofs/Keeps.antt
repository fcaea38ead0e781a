-- SPDX-License-Identifier: Apache-2.0 AND BSD-3-Clause
-- Each ending keeps the invariant, and a newly made device has it.
use Prim.Native.Nat.{ℕ, ◌+◌, ◌≤◌}
use mathlib.Core.Path.{◌≡◌, refl, ap, ◌∙◌, sym}
use mathlib.Core.Bool.{true, false}
use mathlib.Core.List.{List, [], ◌∷◌, ◌++◌}
use native.Mathlib.Omega.{arith}
use lib.Seq.{take-nil}
use borrow.Author.Tests.{leb-true}
use Rattle.units.specs.Numbers.{blocks_in}
use Rattle.units.specs.declared.GuestAddr.{GuestAddr}
use Rattle.units.proofs.Tests.{and_left}
use Rattle.bitmap.specs.Blocks.{ones}
use Rattle.record.specs.declared.Device.{Device}
use Rattle.record.specs.declared.Pending.{Pending}
use Rattle.record.specs.declared.Pending.TheVariants.{Discard}
use Rattle.record.specs.Shape.{pending_ok}
use Rattle.step.specs.World.{World, Call, Outcome}
use Rattle.step.specs.Step.{block_size, region, plugged, region_blocks, cleared}
use Rattle.history.specs.History.{Event, Discarded, Fresh, begun, last_on, was_plug}
use Rattle.history.proofs.Shaped.{clash}
use Rattle.history.proofs.Invariant.{discarding, Asked, Inv, quiet_asks, idle_quiet, goes_on, inv_plugs, inv_unplugs, inv_cleared, inv_ends, placed_by, inv_placed, still, over}
use Rattle.history.proofs.Calls.{Endings}

-- a pending unplug lies in the region
pub discard_ends : (w : World) (f c : ℕ) (status : GuestAddr) → pending_ok (Discard f c status) (block_size w) (region w) w.device.several (plugged w) ≡ true → f + c ≤ region_blocks w
unfolding pending_ok
discard_ends w f c status e = leb-true (f + c) (region_blocks w) (and_left _ _ e)

-- ---- each ending keeps the invariant
abbrev pub Kept : (before : List Event) → Call → Outcome → (new : List Event) → Type 0
Kept before c o new = Inv o.world (new ++ before)

module _ (w : World) (es : List Event) (h : Inv w es) where
  -- a discard is pending, so the device is placed
  there : (p : Pending) → w.device.pending ≡ p → discarding p ≡ true → w.device.placed ≡ true
  there p q d = placed_by w es h (ap discarding q ∙ d)

  pub kept : Endings w (Kept es)
  unfolding discarding Asked
  kept =
      record {
        refuses = λ c r _ _. h;
        reads = λ offset buffer bytes. h;
        writes = λ offset buffer. h;
        unserves = λ a reason. h;
        responds = λ a resp. h;
        plugs_range = λ a addr count first offset _ l.
            inv_plugs w es h a.is_placed a.status a.guest a.entry.is_long first count a.entry.pending_is_idle l.ends l.state;
        asks_range = λ a addr count first offset host _ l _. still w es h _ _ _ _ _ _ (λ q. clash a.is_placed q) l.state;
        spoils = λ a addr count first offset _ _. h;
        ends_at_once = λ a r. inv_ends w es h a.is_placed a.status a.guest r;
        asks_first = λ a block offset host r _. still w es h _ _ _ _ _ _ (λ q. clash a.is_placed q) r;
        stops_at_once = λ a. over w es h _ _ _ (λ q. q);
        maps = λ i last a. over w es h _ _ _ (λ q. clash refl q);
        create_fails_lem = λ i last a. over w es h _ _ _ (λ q. q);
        unplugs_range = λ first count status a.
            inv_unplugs w es h (there _ a.waits refl) status.0 a.guest a.entry.is_long first count (rw a.waits at h.asked)
            (discard_ends w first count status (rw a.waits at a.entry.is_shaped.pending));
        discard_fails = λ first count status a. over w es h _ _ _ (λ q. q);
        ends_all_lem = λ j status a r.
            let p = there _ a.waits refl in
            let lowest = rw a.waits at h.asked in
            inv_ends (cleared w j) (Discarded j ∷ es) (inv_cleared w es h p status.0 a.guest a.entry.is_long j lowest) p status.0 a.guest
            (sym (goes_on (region_blocks w) w.blocks j lowest) ∙ r);
        asks_next = λ j status a block offset host r _.
            let p = there _ a.waits refl in
            let lowest = rw a.waits at h.asked in
            still (cleared w j) (Discarded j ∷ es) (inv_cleared w es h p status.0 a.guest a.entry.is_long j lowest) _ _ _ _ _ _ (λ q. clash p q)
            (sym (goes_on (region_blocks w) w.blocks j lowest) ∙ r);
        stops_after = λ j status a. inv_cleared w es h (there _ a.waits refl) status.0 a.guest a.entry.is_long j (rw a.waits at h.asked);
        one_fails = λ j status a. over w es h _ _ _ (λ q. q);
        resizes = λ a. still w es h _ _ _ _ _ _ (λ q. clash refl q) h.asked;
        resize_asks = λ a i last size _. still w es h _ _ _ _ _ _ (λ q. clash a.is_placed q) refl;
        places = λ a. inv_placed w es h _ _ _ _ a.bits _ a.not_placed_lem a.entry.is_long (idle_quiet w.device.pending a.entry.pending_is_idle);
        place_asks = λ a i last size _. inv_placed w es h _ _ _ _ a.bits _ a.not_placed_lem a.entry.is_long refl;
        place_asks_whole = λ a _. inv_placed w es h _ _ _ _ a.bits _ a.not_placed_lem a.entry.is_long refl;
      }

-- ---- no event, and no tables yet
pub inv_made : (d : Device) → Fresh d → Inv (begun d).world []
unfolding last_on was_plug discarding ones
inv_made d fresh =
    let quiet : discarding d.pending ≡ false = rw fresh.waits_for_nothing in
    record {
      told = record {
        bits = λ i l. refl;
        count = rw (take-nil (blocks_in d.config.block_size d.config.region_size)) (omega (arith, fresh.nothing_plugged));
      };
      early = λ p. record { none_yet = refl; not_asked_lem = quiet; no_size = fresh.nothing_plugged };
      asked = quiet_asks d.pending _ _ quiet;
    }
