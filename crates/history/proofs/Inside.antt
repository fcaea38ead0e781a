-- SPDX-License-Identifier: Apache-2.0 AND BSD-3-Clause
-- Every call keeps the two tables of a placed device as long as placing tested, and every plugged block inside the usable size.
use Prim.Native.Nat.{ℕ, ◌+◌, ◌-◌, ◌*◌, ◌≤◌, ◌<◌}
use mathlib.Core.Path.{◌≡◌, sym, ◌∙◌}
use mathlib.Core.Bool.{Bool, true, false}
use mathlib.Core.List.{List}
use native.Mathlib.Omega.{arith}
use native.Mathlib.Nat.{add-mul, div-mul-le_self, mul-le-mul_right}
use lib.Dec.{leb, ltb}
use lib.ListN.{length}
use borrow.Author.Tests.{leb-true, leb-false, ltb-true, ltb-false}
use Rattle.units.proofs.Tests.{by_test}
use Rattle.bitmap.specs.Blocks.{block_at, fill}
use Rattle.bitmap.proofs.Laws.{fill_length, at_inside, at_before, at_after, all_clear_at, all_filled}
use Rattle.rows.proofs.Laws.{laid_length, fill_length as rows-length}
use Rattle.step.specs.World.{World, Call, Outcome}
use Rattle.step.specs.Step.{block_size, usable, region_blocks, region_rows}
use Rattle.history.specs.History.{Event}
use Rattle.history.specs.Good.{AllInside}
use Rattle.history.proofs.Shaped.{clash, block_is}
use Rattle.history.proofs.Calls.{Endings}

-- ---- the tables
abbrev pub Fitting : World → Type 0
Fitting w = w.device.placed ≡ true → (region_blocks w ≤ length w.blocks) × (region_rows w ≤ length w.rows)

abbrev pub KeepsFitting : World → Call → Outcome → List Event → Type 0
KeepsFitting w c o new = Fitting w → Fitting o.world

-- blocks of the bitmap are put in a state
marked : (w : World) (first count : ℕ) (v : Bool) → Fitting w → w.device.placed ≡ true → (region_blocks w ≤ length (fill w.blocks first count v)) × (region_rows w ≤ length w.rows)
marked w first count v h p = rw (fill_length w.blocks first count v) (h p)

pub keeps_fitting : (w : World) → Endings w (KeepsFitting w)
keeps_fitting w =
    record {
      refuses = λ c r _ _ h. h;
      reads = λ offset buffer bytes h. h;
      writes = λ offset buffer h. h;
      unserves = λ a reason h. h;
      responds = λ a resp h. h;
      plugs_range = λ a addr count first offset _ _ h p. marked w first count true h p;
      asks_range = λ a addr count first offset host _ _ _ h. h;
      spoils = λ a addr count first offset _ _ h. h;
      ends_at_once = λ a r h. h;
      asks_first = λ a block offset host r _ h. h;
      stops_at_once = λ a h. h;
      maps = λ i last a _ _. (a.entry.is_long, rw (rows-length w.rows i (last + 1 - i) a.host) a.entry.has_rows);
      create_fails_lem = λ i last a h. h;
      unplugs_range = λ first count status a h p. marked w first count false h p;
      discard_fails = λ first count status a h. h;
      ends_all_lem = λ j status a r h p. marked w j 1 false h p;
      asks_next = λ j status a block offset host r _ h p. marked w j 1 false h p;
      stops_after = λ j status a h p. marked w j 1 false h p;
      one_fails = λ j status a h. h;
      resizes = λ a _ _. (a.entry.is_long, a.entry.has_rows);
      resize_asks = λ a i last size _ h. h;
      places = λ a _ _. (rw (fill_length a.bits 0 (region_blocks w) false) a.entry.is_long, rw (laid_length a.table a.slots) a.entry.has_rows);
      place_asks = λ a i last size _ _ p. clash p a.not_placed_lem;
      place_asks_whole = λ a _ _ p. clash p a.not_placed_lem;
    }

-- ---- the plugged blocks
-- a block that is plugged after a fill with false was so before it, and after one with true it was, or lies in the range
still_plugged : (bs : List Bool) (first count i : ℕ) → block_at (fill bs first count false) i ≡ true → block_at bs i ≡ true
still_plugged bs first count i p =
    by_test (leb first i)
    (λ t. by_test (ltb i (first + count))
    (λ u. clash p (all_clear_at (fill bs first count false) first count i (all_filled bs first count false) (leb-true first i t) (ltb-true i (first + count) u)))
    (λ u. sym (at_after bs first count false i (ltb-false i (first + count) u)) ∙ p))
    (λ t. sym (at_before bs first count false i (leb-false first i t)) ∙ p)

in_plug : (b first count i usable : ℕ) → 0 < b → i < first + count → first * b + count * b ≤ usable → i * b < usable
in_plug b first count i usable positive l h =
    let most = mul-le-mul_right b (let next : i + 1 ≤ first + count = omega arith in next) in
    let sum = add-mul first count b in
    let one = add-mul i 1 b in
    omega arith

abbrev pub KeepsInside : World → Call → Outcome → List Event → Type 0
KeepsInside w c o new = AllInside w → AllInside o.world

module _ (w : World) where
  -- no block is plugged, and the usable size is no less
  fewer : (first count u : ℕ) → usable w ≤ u → AllInside w → (i : ℕ) → i < region_blocks w → block_at (fill w.blocks first count false) i ≡ true → i * block_size w < u
  fewer first count u more h i l p = let inside = h i l (still_plugged w.blocks first count i p) in omega arith

  none_yet : (bs : List Bool) (u : ℕ) → region_blocks w ≤ length bs → (i : ℕ) → i < region_blocks w → block_at (fill bs 0 (region_blocks w) false) i ≡ true → i * block_size w < u
  none_yet bs u long i l p = clash p (at_inside bs 0 (region_blocks w) false i (omega arith) (omega arith) (omega arith))

  pub keeps_inside : Endings w (KeepsInside w)
  keeps_inside =
      record {
        refuses = λ c r _ _ h. h;
        reads = λ offset buffer bytes h. h;
        writes = λ offset buffer h. h;
        unserves = λ a reason h. h;
        responds = λ a resp h. h;
        plugs_range = λ a addr count first offset _ x h i l p.
            by_test (leb first i)
            (λ t. by_test (ltb i (first + count))
            (λ u.
            let b = block_is w.device a.entry.is_shaped in
            let begins : first * block_size w ≤ offset = rw (x.first_is, x.offset_is) (div-mul-le_self _ (block_size w)) in
            in_plug (block_size w) first count i (usable w) (omega arith) (ltb-true i (first + count) u) (omega (arith, x.in_usable)))
            (λ u. h i l (sym (at_after w.blocks first count true i (ltb-false i (first + count) u)) ∙ p)))
            (λ t. h i l (sym (at_before w.blocks first count true i (leb-false first i t)) ∙ p));
        asks_range = λ a addr count first offset host _ _ _ h. h;
        spoils = λ a addr count first offset _ _ h. h;
        ends_at_once = λ a r h. h;
        asks_first = λ a block offset host r _ h. h;
        stops_at_once = λ a h. h;
        maps = λ i last a h j l p. let inside = h j l p in omega arith;
        create_fails_lem = λ i last a h. h;
        unplugs_range = λ first count status a h. fewer first count (usable w) (omega arith) h;
        discard_fails = λ first count status a h. h;
        ends_all_lem = λ j status a r h. fewer j 1 (usable w) (omega arith) h;
        asks_next = λ j status a block offset host r _ h. fewer j 1 (usable w) (omega arith) h;
        stops_after = λ j status a h. fewer j 1 (usable w) (omega arith) h;
        one_fails = λ j status a h. h;
        resizes = λ a h j l p. let inside = h j l p in omega arith;
        resize_asks = λ a i last size _ h. h;
        places = λ a h. none_yet a.bits _ a.entry.is_long;
        place_asks = λ a i last size _ h. none_yet a.bits _ a.entry.is_long;
        place_asks_whole = λ a _ h. none_yet a.bits _ a.entry.is_long;
      }
