-- SPDX-License-Identifier: Apache-2.0 AND BSD-3-Clause
-- What is asked for is due: the row of a creation has no mapping, and what an unplug and an unplug-all ask for is plugged.
use Rattle.std.specs.Prelude.{Option, Some, None}
use Prim.Native.Nat.{ℕ, ◌+◌, ◌-◌, ◌≤◌, ◌<◌}
use mathlib.Core.Path.{◌≡◌, refl, ap, ◌∙◌}
use mathlib.Core.Bool.{Bool, true, false}
use mathlib.Core.List.{List}
use native.Mathlib.Omega.{arith}
use lib.Dec.{leb, ltb, eqb}
use lib.ListN.{length}
use borrow.Author.Tests.{ltb-true, ltb-false, le-leb, lt-ltb, eq-eqb}
use Rattle.units.specs.Numbers.{map_regions}
use Rattle.units.proofs.Tests.{by_test, and_left, and_right}
use Rattle.bitmap.specs.Blocks.{block_at, all_are, next_set}
use Rattle.bitmap.proofs.Laws.{next_at, next_nothing, all_clear_at}
use Rattle.rows.specs.declared.MapRow.{MapRow}
use Rattle.rows.specs.Rows.{row_at, rows_laid}
use Rattle.rows.proofs.Laws.{laid_inside}
use Rattle.record.specs.declared.Pending.{Pending}
use Rattle.record.specs.declared.Pending.TheVariants.{Nothing, Create, Discard, DiscardOne}
use Rattle.record.specs.Shape.{is_idle}
use Rattle.record.proofs.Laws.{Parts}
use Rattle.resize.proofs.Laws.{asking}
use Rattle.step.specs.World.{World, Call, Outcome}
use Rattle.step.specs.Step.{region, usable, several, region_blocks, region_rows, new_usable}
use Rattle.history.specs.History.{Event, UnplugAck, Discarded}
use Rattle.history.specs.Reached.{could}
use Rattle.history.specs.Good.{due}
use Rattle.history.proofs.Shaped.{clash}
use Rattle.history.proofs.Invariant.{Inv, Asked}
use Rattle.history.proofs.Calls.{Grows, resized_by, placed_by, Endings}
use Rattle.history.proofs.Keeps.{discard_ends}

-- ---- the first row of a creation has no mapping
unfoldable pub row_due : Pending → List MapRow → Bool
row_due Nothing rows = true
row_due (Create first last) rows = eqb (row_at rows first).mapped 0
row_due (Discard first count status) rows = true
row_due (DiscardOne block status) rows = true

idle_due : (p : Pending) (rows : List MapRow) → is_idle p ≡ true → row_due p rows ≡ true
unfolding row_due
idle_due Nothing rows e = refl
idle_due (Create first last) rows e = clash e refl
idle_due (Discard first count status) rows e = clash e refl
idle_due (DiscardOne block status) rows e = clash e refl

grows_due : (w : World) (i last size : ℕ) → Grows w i last size → eqb (row_at w.rows i).mapped 0 ≡ true
grows_due w i last size g =
    eq-eqb (row_at w.rows i).mapped 0 (asking (region w) (several w) (usable w) (new_usable w) w.rows i last size g).search.unmapped

laid_due : (rows : List MapRow) (slots : List ℕ) → 0 < length rows → 0 < length slots → eqb (row_at (rows_laid rows slots) 0).mapped 0 ≡ true
laid_due rows slots p q = rw (laid_inside rows slots 0 p q)

one_row : (region : ℕ) (several : Bool) → several ≡ false → map_regions region several ≡ 1
unfolding map_regions
one_row region several e = rw e

abbrev pub RowDue : Call → Outcome → List Event → Type 0
RowDue c o new = row_due o.world.device.pending o.world.rows ≡ true

pub row_due_lem : (w : World) → row_due w.device.pending w.rows ≡ true → Endings w RowDue
unfolding row_due
row_due_lem w h =
    record {
      refuses = λ c r _ _. h;
      reads = λ offset buffer bytes. h;
      writes = λ offset buffer. h;
      unserves = λ a reason. h;
      responds = λ a resp. h;
      plugs_range = λ a addr count first offset _ _. h;
      asks_range = λ a addr count first offset host _ _ _. refl;
      spoils = λ a addr count first offset _ _. h;
      ends_at_once = λ a r. refl;
      asks_first = λ a block offset host r _. refl;
      stops_at_once = λ a. refl;
      maps = λ i last a. refl;
      create_fails_lem = λ i last a. refl;
      unplugs_range = λ first count status a. refl;
      discard_fails = λ first count status a. refl;
      ends_all_lem = λ j status a r. refl;
      asks_next = λ j status a block offset host r _. refl;
      stops_after = λ j status a. refl;
      one_fails = λ j status a. refl;
      resizes = λ a. h;
      resize_asks = λ a i last size g. grows_due (resized_by a) i last size g;
      places = λ a. idle_due w.device.pending _ a.entry.pending_is_idle;
      place_asks = λ a i last size g. grows_due (placed_by a) i last size g;
      place_asks_whole = λ a single.
          let one : region_rows w ≡ 1 = one_row (region w) (several w) single in
          laid_due a.table a.slots (omega (arith, a.entry.has_rows)) (omega (arith, a.slots_fit));
    }

-- ---- what an unplug and an unplug-all ask for
pub could_discard : (n : ℕ) (bs : List Bool) (j : ℕ) → next_set bs 0 n ≡ Some j → could (Discarded j) bs n ≡ true
unfolding could
could_discard n bs j e =
    let lowest = next_at true bs 0 n j e in
    let z : j - 0 ≡ j = omega arith in
    rw (lt-ltb j n lowest.before_end, lowest.found) (rw z at lowest.none_below)

pub could_unplug : (n : ℕ) (bs : List Bool) (f c : ℕ) → f + c ≤ n → all_are bs f c true ≡ true → could (UnplugAck f c) bs n ≡ true
unfolding could
could_unplug n bs f c p q = rw (le-leb (f + c) n p) q

-- and the other way: such a block is the lowest that is plugged
lowest : (n : ℕ) (bs : List Bool) (j : ℕ) → could (Discarded j) bs n ≡ true → next_set bs 0 n ≡ Some j
unfolding could
lowest n bs j e = go (next_set bs 0 n) refl
  where
    before : j < n
    before = ltb-true j n (and_left _ _ e)

    there : block_at bs j ≡ true
    there = and_left _ _ (and_right (ltb j n) _ e)

    none_below : all_are bs 0 j false ≡ true
    none_below = and_right (block_at bs j) _ (and_right (ltb j n) _ e)

    go : (f : Option ℕ) → next_set bs 0 n ≡ f → next_set bs 0 n ≡ Some j
    go None q =
        let l = before in
        let z : n - 0 ≡ n = omega arith in
        clash there (all_clear_at bs 0 n j (rw z at (next_nothing true bs 0 n q)) (omega arith) (omega arith))
    go (Some k) q =
        let x = next_at true bs 0 n k q in
        let z : k - 0 ≡ k = omega arith in
        let clear : all_are bs 0 k false ≡ true = rw z at x.none_below in
        by_test (ltb k j) (λ t. clash x.found (all_clear_at bs 0 j k none_below (omega arith) (omega (arith, ltb-true k j t))))
        (λ t. by_test (ltb j k) (λ u. clash there (all_clear_at bs 0 k j clear (omega arith) (omega (arith, ltb-true j k u))))
        (λ u. let same : k ≡ j = omega (arith, ltb-false k j t, ltb-false j k u) in q ∙ ap Some same))

-- ---- what is asked for is due
pub by_pending : (w : World) (es : List Event) (p : Pending) → w.device.pending ≡ p → Inv w es → Parts w.device → row_due p w.rows ≡ true
    → due p w.blocks w.rows (region_blocks w) ≡ true
unfolding due row_due Asked
by_pending w es Nothing q h s r = refl
by_pending w es (Create first last) q h s r = r
by_pending w es (Discard first count status) q h s r =
    could_unplug (region_blocks w) w.blocks first count (discard_ends w first count status (rw q at s.pending)) (rw q at h.asked)
by_pending w es (DiscardOne block status) q h s r = could_discard (region_blocks w) w.blocks block (rw q at h.asked)

-- what is due is asked for rightly, and its row is due
pub asked_when : (p : Pending) (bs : List Bool) (rows : List MapRow) (n : ℕ) → due p bs rows n ≡ true → Asked p bs n
unfolding due Asked could
asked_when Nothing bs rows n e = refl
asked_when (Create first last) bs rows n e = refl
asked_when (Discard first count status) bs rows n e = and_right (leb (first + count) n) _ e
asked_when (DiscardOne block status) bs rows n e = lowest n bs block e

pub row_when : (p : Pending) (bs : List Bool) (rows : List MapRow) (n : ℕ) → due p bs rows n ≡ true → row_due p rows ≡ true
unfolding due row_due
row_when Nothing bs rows n e = refl
row_when (Create first last) bs rows n e = e
row_when (Discard first count status) bs rows n e = refl
row_when (DiscardOne block status) bs rows n e = refl
