-- SPDX-License-Identifier: Apache-2.0 AND BSD-3-Clause
-- The invariant of every run, pending states included, and that each leaf of the step keeps it.
-- It says: what demand 3 says (`Demand3`); before placing there is no event, no discard is asked for and nothing is plugged; what an unplug asks for is all plugged, and what an unplug-all asks for is the lowest plugged block.
use Rattle.std.specs.Prelude.{Some, None}
use Prim.Native.Nat.{ℕ, suc, ◌+◌, ◌-◌, ◌*◌, ◌≤◌, ◌<◌}
use mathlib.Core.Path.{◌≡◌, refl, ◌∙◌, sym}
use mathlib.Core.Bool.{Bool, true, false, cond, ◌&&◌}
use mathlib.Core.List.{List, [], ◌∷◌}
use mathlib.Core.Option.{Option, some}
use native.Mathlib.Omega.{arith}
use lib.Dec.{leb, ltb}
use lib.ListN.{length, take, length-take}
use lib.Seq.{get_or-take}
use borrow.Author.Tests.{leb-true, leb-false, ltb-true, ltb-false}
use Rattle.bitmap.specs.Blocks.{block_at, fill, next_set, ones, all_are}
use Rattle.bitmap.proofs.Laws.{at_inside, at_before, at_after, take-fill, range-take, fill_after, ones_plugged, ones_unplugged, ones_one, take_cleared, next_at, next_cleared, next_nothing_ones}
use Rattle.rows.specs.declared.MapRow.{MapRow}
use Rattle.record.specs.declared.Pending.{Pending}
use Rattle.record.specs.declared.Pending.TheVariants.{Nothing, Create, Discard, DiscardOne}
use Rattle.record.specs.Shape.{is_idle}
use Rattle.record.specs.Changes.{config_with, device_with}
use Rattle.step.specs.World.{World, Guest}
use Rattle.step.specs.Step.{block_size, plugged, requested, start, region_blocks}
use Rattle.step.specs.Step.{plugs, unplugs, cleared, ends_all}
use Rattle.history.proofs.Shaped.{clash}
use Rattle.history.specs.History.{Event, PlugAck, UnplugAck, Discarded, UnplugAllAck, within, touches, last_on, was_plug, Demand3}

-- ---- a fill, at one block
fill_at : (bs : List Bool) (f c : ℕ) (v : Bool) (i : ℕ) → i < length bs → block_at (fill bs f c v) i ≡ cond (within f c i) v (block_at bs i)
unfolding within
fill_at bs f c v i h = go (leb f i) (ltb i (f + c)) refl refl
  where
    go : (s t : Bool) → leb f i ≡ s → ltb i (f + c) ≡ t → block_at (fill bs f c v) i ≡ cond (s && t) v (block_at bs i)
    go true true p q = at_inside bs f c v i (leb-true f i p) (ltb-true i (f + c) q) h
    go true false p q = at_after bs f c v i (ltb-false i (f + c) q)
    go false t p q = at_before bs f c v i (leb-false f i p)

-- ---- the last event on a block, after one more whose range a call has put in its state
was_cond : (t : Bool) (e : Event) (l : Option Event) → was_plug (cond t (some e) l) ≡ cond t (was_plug (some e)) (was_plug l)
was_cond true e l = refl
was_cond false e l = refl

module _ (bs : List Bool) (es : List Event) (i : ℕ) (h : i < length bs) (old : block_at bs i ≡ was_plug (last_on es i)) where
  more : (e : Event) (f c : ℕ) (v : Bool) → touches e i ≡ within f c i → was_plug (some e) ≡ v → block_at (fill bs f c v) i ≡ was_plug (last_on (e ∷ es) i)
  unfolding last_on
  more e f c v p q = simp (fill_at bs f c v i h, p, was_cond, q, old)

-- ---- the set blocks of the region, after a fill
module _ (n : ℕ) (bs : List Bool) (long : n ≤ length bs) where
  used_plugged : (f c : ℕ) → f + c ≤ n → all_are bs f c false ≡ true → ones (take n (fill bs f c true)) ≡ ones (take n bs) + c
  used_plugged f c l a =
      rw (take-fill n bs f c true) (ones_plugged (take n bs) f c (omega (arith, length-take n bs)) (rw (range-take n bs f c l) a))

  pub used_unplugged : (f c : ℕ) → f + c ≤ n → all_are bs f c true ≡ true → ones (take n (fill bs f c false)) + c ≡ ones (take n bs)
  used_unplugged f c l a =
      rw (take-fill n bs f c false) (ones_unplugged (take n bs) f c (omega (arith, length-take n bs)) (rw (range-take n bs f c l) a))

-- after the lowest of them is cleared
pub used_one : (n : ℕ) (bs : List Bool) (j : ℕ) → next_set bs 0 n ≡ Some j → ones (take n (fill bs j 1 false)) + 1 ≡ ones (take n bs)
used_one n bs j e =
    let lowest = next_at true bs 0 n j e in
    let fewer = ones_one (take n bs) j (get_or-take n bs j false lowest.before_end ∙ lowest.found) in
    rw (take-fill n bs j 1 false) (omega arith)

-- no block of the region is set
used_none : (n : ℕ) (bs : List Bool) → next_set bs 0 n ≡ None → ones (take n bs) ≡ 0
used_none n bs e = let z : n - 0 ≡ n = omega arith in rw z at (next_nothing_ones bs 0 n e)

-- an unplug-all that goes on after the block that it cleared misses none
pub goes_on : (n : ℕ) (bs : List Bool) (j : ℕ) → next_set bs 0 n ≡ Some j → next_set (fill bs j 1 false) (j + 1) n ≡ next_set (fill bs j 1 false) 0 n
goes_on n bs j e =
    let z : j + 1 ≡ suc j = omega arith in
    rw (z, fill_after bs j 1 false (suc j) (n - suc j) (omega arith)) (sym (next_cleared bs 0 n j e))

-- ---- the invariant
-- a discard is asked for
unfoldable pub discarding : Pending → Bool
discarding Nothing = false
discarding (Create first last) = false
discarding (Discard first count status) = true
discarding (DiscardOne block status) = true

-- what is asked for is plugged, in a bitmap whose first n blocks are the region's
unfoldable pub Asked : Pending → List Bool → ℕ → Type 0
Asked Nothing bs n = true ≡ true
Asked (Create first last) bs n = true ≡ true
Asked (Discard first count status) bs n = all_are bs first count true ≡ true
Asked (DiscardOne block status) bs n = next_set bs 0 n ≡ Some block

pub record Unplaced (w : World) (es : List Event) : Type 0 where
  pub none_yet : es ≡ []
  pub not_asked_lem : discarding w.device.pending ≡ false
  pub no_size : plugged w ≡ 0

pub record Inv (w : World) (es : List Event) : Type 0 where
  pub told : Demand3 w es
  pub early : w.device.placed ≡ false → Unplaced w es
  pub asked : Asked w.device.pending w.blocks (region_blocks w)

pub quiet_asks : (p : Pending) (bs : List Bool) (n : ℕ) → discarding p ≡ false → Asked p bs n
unfolding discarding Asked
quiet_asks Nothing bs n e = refl
quiet_asks (Create first last) bs n e = refl
quiet_asks (Discard first count status) bs n e = clash refl e
quiet_asks (DiscardOne block status) bs n e = clash refl e

pub idle_quiet : (p : Pending) → is_idle p ≡ true → discarding p ≡ false
unfolding discarding
idle_quiet Nothing e = refl
idle_quiet (Create first last) e = refl
idle_quiet (Discard first count status) e = clash e refl
idle_quiet (DiscardOne block status) e = clash e refl

plug_count : (b s c a n : ℕ) → n ≡ a + c → s ≡ a * b → s + c * b ≡ n * b
plug_count b s c a n p q = rw (q, p) (omega arith)

unplug_count : (b s c a n : ℕ) → n + c ≡ a → s ≡ a * b → s - c * b ≡ n * b
unplug_count b s c a n p q = rw (q, ← p) (omega arith)

one_count : (b s a n : ℕ) → n + 1 ≡ a → s ≡ a * b → s - b ≡ n * b
one_count b s a n p q = rw (q, ← p) (omega arith)

-- ---- each leaf keeps it
module _ (w : World) (es : List Event) (h : Inv w es) (there : w.device.placed ≡ true) (status : ℕ) (g : Guest) where
  module _ (long : region_blocks w ≤ length w.blocks) where
    pub inv_plugs : (f c : ℕ) → is_idle w.device.pending ≡ true → f + c ≤ region_blocks w → all_are w.blocks f c false ≡ true
        → Inv (plugs w f c status g).world (PlugAck f c ∷ es)
    unfolding touches was_plug
    inv_plugs f c quiet ends state =
        record {
          told = record {
            bits = λ i l. more w.blocks es i (omega arith) (h.told.bits i l) (PlugAck f c) f c true refl refl;
            count = plug_count (block_size w) _ _ _ _ (used_plugged (region_blocks w) w.blocks long f c ends state) h.told.count;
          };
          early = λ p. clash there p;
          asked = quiet_asks w.device.pending _ _ (idle_quiet w.device.pending quiet);
        }

    pub inv_unplugs : (f c : ℕ) → all_are w.blocks f c true ≡ true → f + c ≤ region_blocks w → Inv (unplugs w f c status g).world (UnplugAck f c ∷ es)
    unfolding touches was_plug Asked
    inv_unplugs f c full ends =
        let fewer = used_unplugged (region_blocks w) w.blocks long f c ends full in
        record {
          told = record {
            bits = λ i l. more w.blocks es i (omega arith) (h.told.bits i l) (UnplugAck f c) f c false refl refl;
            count = unplug_count (block_size w) _ _ _ _ fewer h.told.count;
          };
          early = λ p. clash there p;
          asked = refl;
        }

    pub inv_cleared : (j : ℕ) → next_set w.blocks 0 (region_blocks w) ≡ Some j → Inv (cleared w j) (Discarded j ∷ es)
    unfolding touches was_plug Asked
    inv_cleared j e =
        record {
          told = record {
            bits = λ i l. more w.blocks es i (omega arith) (h.told.bits i l) (Discarded j) j 1 false refl refl;
            count = one_count (block_size w) _ _ _ (used_one (region_blocks w) w.blocks j e) h.told.count;
          };
          early = λ p. clash there p;
          asked = refl;
        }

  pub inv_ends : next_set w.blocks 0 (region_blocks w) ≡ None → Inv (ends_all w status g).world (UnplugAllAck ∷ es)
  unfolding touches last_on Asked
  inv_ends e =
      record {
        told = record { bits = h.told.bits; count = rw (used_none (region_blocks w) w.blocks e) (omega arith) };
        early = λ p. clash there p;
        asked = refl;
      }

module _ (w : World) (es : List Event) (h : Inv w es) where
  -- while a discard is asked for the device is placed
  pub placed_by : discarding w.device.pending ≡ true → w.device.placed ≡ true
  placed_by d = go w.device.placed refl
    where
      go : (t : Bool) → w.device.placed ≡ t → t ≡ true
      go true e = refl
      go false e = clash d (h.early e).not_asked_lem

  -- placing, asked for or done
  pub inv_placed : (at u : ℕ) (pl : Bool) (p : Pending) (bs : List Bool) (rows : List MapRow) → w.device.placed ≡ false → region_blocks w ≤ length bs → discarding p ≡ false
      → Inv (record { device = device_with w.device (config_with w.device.config at u (plugged w) (requested w)) pl p; blocks = fill bs 0 (region_blocks w) false; rows = rows }) es
  unfolding last_on was_plug
  inv_placed at u pl p bs rows f long q =
      let none = (h.early f).none_yet in
      record {
        told = record {
          bits = λ i l. rw none (at_inside bs 0 (region_blocks w) false i (omega arith) (omega arith) (omega arith));
          count = rw (take_cleared (region_blocks w) bs (region_blocks w) (omega arith)) (omega (arith, (h.early f).no_size));
        };
        early = λ _. record { none_yet = none; not_asked_lem = q; no_size = (h.early f).no_size };
        asked = quiet_asks p _ _ q;
      }

  -- a leaf without an event: start, usable size, requested size, placed, pending and the rows may change
  abbrev pub Same : (at u r : ℕ) (pl : Bool) (p : Pending) (rows : List MapRow) → World
  Same at u r pl p rows = record { device = device_with w.device (config_with w.device.config at u (plugged w) r) pl p; blocks = w.blocks; rows = rows }

  pub still : (at u r : ℕ) (pl : Bool) (p : Pending) (rows : List MapRow) → (pl ≡ false → Unplaced (Same at u r pl p rows) es) → Asked p w.blocks (region_blocks w)
      → Inv (Same at u r pl p rows) es
  still at u r pl p rows k q = record { told = record { bits = h.told.bits; count = h.told.count }; early = k; asked = q }

  -- a host call that ends without an event
  pub over : (u : ℕ) (pl : Bool) (rows : List MapRow) → (pl ≡ false → w.device.placed ≡ false) → Inv (Same (start w) u (requested w) pl Nothing rows) es
  unfolding discarding
  over u pl rows k =
      still (start w) u (requested w) pl Nothing rows (λ r. record { none_yet = (h.early (k r)).none_yet; not_asked_lem = refl; no_size = (h.early (k r)).no_size }) (quiet_asks Nothing _ _ refl)
