-- SPDX-License-Identifier: Apache-2.0 AND BSD-3-Clause
-- Every run is good: a newly made device is, a restored one is, and every call keeps it.
use Prim.Native.Nat.{ℕ, ◌*◌, ◌≤◌, ◌<◌}
use mathlib.Core.Path.{◌≡◌, refl}
use mathlib.Core.Bool.{true, false}
use mathlib.Core.List.{List}
use native.Mathlib.Omega.{arith}
use lib.Dec.{leb}
use lib.ListN.{length}
use borrow.Author.Tests.{leb-true, le-leb}
use Rattle.units.specs.Numbers.{blocks_in}
use Rattle.units.proofs.Tests.{and_left, and_right}
use Rattle.record.specs.declared.Device.{Device}
use Rattle.record.specs.declared.Pending.{Pending}
use Rattle.record.specs.declared.Pending.TheVariants.{Nothing, Create, Discard, DiscardOne}
use Rattle.record.proofs.Laws.{Parts, parts as shaped-is, whole as shaped-when}
use Rattle.step.specs.World.{World, Call}
use Rattle.step.specs.Step.{block_size, usable, region_blocks, region_rows, tables_fit}
use Rattle.history.specs.History.{Event, NoRequest, open_of, Story, next, Fresh, begun}
use Rattle.history.specs.Reached.{CanRestore, restored, Reached, from_making, by_call, by_restore}
use Rattle.history.specs.Good.{InMemory, AllInside, TablesFit, Good}
use Rattle.history.specs.Rules.{FromEveryGood, InEveryRun}
use Rattle.history.proofs.Shaped.{clash, block_is}
use Rattle.history.proofs.Invariant.{discarding, Inv}
use Rattle.history.proofs.Observer.{sees}
use Rattle.history.proofs.Calls.{each_call}
use Rattle.history.proofs.KeepsShape.{step_shaped, is_shaped}
use Rattle.history.proofs.Keeps.{Kept, kept, inv_made}
use Rattle.history.proofs.Restored.{marked-length, inv_restored, restored_inside, shaped_restored}
use Rattle.history.proofs.Inside.{Fitting, KeepsFitting, keeps_fitting, KeepsInside, keeps_inside}
use Rattle.history.proofs.Due.{row_due, RowDue, row_due_lem, by_pending, asked_when, row_when}
use Rattle.history.proofs.Memory.{memory_kept}

-- ---- a good story has the invariant
quiet_when : (p : Pending) → open_of p ≡ NoRequest → discarding p ≡ false
unfolding open_of discarding
quiet_when Nothing e = refl
quiet_when (Create first last) e = refl
quiet_when (Discard first count status) e = let z : ◌≡◌ {A = ℕ} 0 1 = cc in absurd (omega arith)
quiet_when (DiscardOne block status) e = let z : ◌≡◌ {A = ℕ} 0 1 = cc in absurd (omega arith)

open_when : (p : Pending) → discarding p ≡ false → open_of p ≡ NoRequest
unfolding open_of discarding
open_when Nothing e = refl
open_when (Create first last) e = refl
open_when (Discard first count status) e = clash refl e
open_when (DiscardOne block status) e = clash refl e

pub invariant : (s : Story) → Good s → Inv s.world s.events
invariant s g =
    record {
      told = g.told;
      early = λ p. let e = g.early p in record { none_yet = e.no_event; not_asked_lem = quiet_when _ e.nothing_open; no_size = e.nothing_plugged };
      asked = asked_when _ _ s.world.rows _ g.is_due;
    }

fitting : (w : World) → TablesFit w → (region_blocks w ≤ length w.blocks) × (region_rows w ≤ length w.rows)
unfolding tables_fit
fitting w e = (leb-true _ _ (and_left _ _ e), leb-true _ _ (and_right (leb (region_blocks w) (length w.blocks)) _ e))

-- a placed device has both its tables
pub tables_fit_lem : (s : Story) → Good s → Fitting s.world
tables_fit_lem s g p = fitting s.world (g.fits p)

-- ---- and what has it is good
good_of : (s : Story) → Parts s.world.device → Inv s.world s.events → open_of s.world.device.pending ≡ s.«open» → row_due s.world.device.pending s.world.rows ≡ true
    → Fitting s.world → AllInside s.world → InMemory s.world → Good s
unfolding tables_fit
good_of s shape h seen row fits inside memory =
    record {
      shaped = shaped-when _ shape;
      told = h.told;
      opened = seen;
      is_due = by_pending s.world s.events s.world.device.pending refl h shape row;
      early = λ p. let e = h.early p in record { no_event = e.none_yet; nothing_open = open_when _ e.not_asked_lem; nothing_plugged = e.no_size };
      fits = λ p. rw (le-leb _ _ (fits p).0) (le-leb _ _ (fits p).1);
      inside = inside;
      mapped = memory;
    }

-- ---- a newly made device
-- while nothing is pending no creation is
nothing_asked : {A : Type 0} (p : Pending) (i last : ℕ) → p ≡ Nothing → p ≡ Create i last → A
nothing_asked p i last idle e = let z : ◌≡◌ {A = ℕ} 0 1 = cc in absurd (omega arith)

pub fresh_good : (d : Device) → Fresh d → Good (begun d)
unfolding open_of row_due
fresh_good d fresh =
    good_of (begun d) (shaped-is d fresh.shaped) (inv_made d fresh) (rw fresh.waits_for_nothing) (rw fresh.waits_for_nothing) (λ p. clash p fresh.unplaced) (λ i l p. clash p refl)
    (record {
      early = λ _. fresh.nothing_usable;
      fits = λ r l mapped. absurd (mapped refl);
      below = λ r l _ _. let none = fresh.nothing_usable in omega arith;
      single = λ _ p _. clash p fresh.unplaced;
      asked = λ i last e. nothing_asked d.pending i last fresh.waits_for_nothing e;
    })

-- ---- a call
pub good_kept : (s : Story) → Good s → (c : Call) → Good (next s c)
unfolding next
good_kept s g c =
    let w = s.world in
    good_of (next s c) (step_shaped w (is_shaped s g) c)
    (rw g.opened at (each_call w (Kept s.events) (kept w s.events (invariant s g)) c))
    (rw g.opened at (sees w c))
    (each_call w RowDue (row_due_lem w (row_when _ w.blocks _ (region_blocks w) g.is_due)) c)
    (each_call w (KeepsFitting w) (keeps_fitting w) c (tables_fit_lem s g))
    (each_call w (KeepsInside w) (keeps_inside w) c g.inside)
    (memory_kept w g.mapped c)

-- ---- a restore
block_inside : (b usable i : ℕ) → b ≡ 4194304 → i < blocks_in b usable → i * b < usable
block_inside b usable i e l = let l' = rw e at l in rw e (omega arith)

pub good_restored : (s : Story) (requested : ℕ) (plugs : List Event) → Good s → CanRestore s.world requested plugs → Good (restored s.world requested plugs)
unfolding open_of row_due
good_restored s requested plugs g l =
    let w = s.world in
    let shape = is_shaped s g in
    let m = g.mapped in
    good_of (restored w requested plugs) (shaped_restored w requested shape plugs l) (inv_restored w requested shape plugs l) (rw l.waits_for_nothing) (rw l.waits_for_nothing)
    (λ p. rw (marked-length plugs w.blocks) (tables_fit_lem s g p))
    (λ i n p. block_inside (block_size w) (usable w) i (block_is w.device shape) (restored_inside w requested shape plugs l i n p))
    (record {
      early = m.early;
      fits = m.fits;
      below = m.below;
      single = m.single;
      asked = λ i last e. nothing_asked w.device.pending i last l.waits_for_nothing e;
    })

-- ---- so every run
pub reached_good : (s : Story) → Reached s → Good s
reached_good s (from_making {d} fresh) = fresh_good d fresh
reached_good s (by_call {s = before} r c) = good_kept before (reached_good before r) c
reached_good s (by_restore {s = before} {requested} {plugs} r l) = good_restored before requested plugs (reached_good before r) l

-- what holds in every good story holds in every run
pub in_every_run : (P : Story → Call → Type 0) → FromEveryGood P → InEveryRun P
in_every_run P rule s r c = rule s (reached_good s r) c
