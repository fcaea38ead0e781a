-- SPDX-License-Identifier: Apache-2.0 AND BSD-3-Clause
-- The record keeps its shape: each ending does.
use Prim.Native.Nat.{ℕ, ◌+◌, ◌-◌, ◌*◌, ◌/◌, max, min, ◌≤◌, ◌<◌}
use mathlib.Core.Path.{◌≡◌, refl, ◌∙◌}
use mathlib.Core.Bool.{Bool, true, false}
use mathlib.Core.List.{List}
use native.Mathlib.Omega.{arith}
use native.Mathlib.Nat.{add-mul-mod_self_right, zero-mod}
use lib.Dec.{leb}
use borrow.Author.Tests.{leb-true, leb-false, ltb-true, le-leb, lt-ltb}
use Rattle.units.specs.Numbers.{bytes_of, blocks_in, map_region, map_regions}
use Rattle.units.specs.declared.GuestAddr.{GuestAddr}
use Rattle.units.proofs.Tests.{by_test, and_left, and_right}
use Rattle.bitmap.proofs.Laws.{next_at}
use Rattle.record.specs.declared.Pending.TheVariants.{Nothing, Create, Discard, DiscardOne}
use Rattle.record.specs.Shape.{region_ok, alignment_ok, size_ok, pending_ok}
use Rattle.resize.specs.Resize.{new_size, growth_of, creation}
use Rattle.resize.proofs.Laws.{new_within, new_whole, asking}
use Rattle.rows.specs.declared.MapRow.{MapRow}
use Rattle.step.specs.World.{World, Call, Outcome}
use Rattle.step.specs.Step.{step, block_size, region, usable, plugged, requested, several, region_blocks, cleared}
use Rattle.history.specs.History.{Event, Story, next}
use Rattle.history.specs.Good.{Good}
use Rattle.history.specs.Rules.{FromEveryGood, KeepsShape}
use Rattle.record.proofs.Laws.{Parts, parts as shaped-is, whole as shaped-when, less_ok}
use Rattle.history.proofs.Shaped.{size_whole, size_within, size_ok_lem, reshaped, awaiting, idle_ok, cleared_shaped}
use Rattle.history.proofs.Calls.{Endings, each_call}

-- ---- the sizes stay whole blocks, at most the region
module _ (b size region : ℕ) (e : size_ok b size region ≡ true) where
  more_ok : (c limit : ℕ) → size + c * b ≤ limit → limit ≤ region → size_ok b (size + c * b) region ≡ true
  more_ok c limit p q = size_ok_lem b (size + c * b) region (add-mul-mod_self_right size c b ∙ size_whole b size region e) (omega arith)

  grown_ok : (r alignment : ℕ) → size_ok b (max size (new_size b region r alignment)) region ≡ true
  grown_ok r alignment =
      let new = new_size b region r alignment in
      by_test (leb size new)
      (λ t. let l = leb-true size new t in let m : max size new ≡ new = omega arith in rw m (size_ok_lem b new region (new_whole b region r alignment) (new_within b region r alignment)))
      (λ t. let l = leb-false size new t in let m : max size new ≡ size = omega arith in rw m e)

none_ok : (b region : ℕ) → size_ok b 0 region ≡ true
none_ok b region = size_ok_lem b 0 region (zero-mod b) (omega arith)

-- ---- what is pending lies in the region
nothing_ok : (b region : ℕ) (several : Bool) (plugged : ℕ) → pending_ok Nothing b region several plugged ≡ true
nothing_ok b region several plugged = idle_ok Nothing b region several plugged refl

discard_ok : (b region : ℕ) (several : Bool) (plugged f c : ℕ) (status : GuestAddr) → f + c ≤ blocks_in b region → bytes_of b c ≤ plugged → pending_ok (Discard f c status) b region several plugged ≡ true
unfolding pending_ok
discard_ok b region several plugged f c status p q = rw (le-leb (f + c) (blocks_in b region) p) (le-leb (bytes_of b c) plugged q)

one_ok : (b region : ℕ) (several : Bool) (plugged j : ℕ) (status : GuestAddr) → j < blocks_in b region → pending_ok (DiscardOne j status) b region several plugged ≡ true
unfolding pending_ok
one_ok b region several plugged j status p = lt-ltb j (blocks_in b region) p

region_positive : (region alignment : ℕ) → region_ok region alignment ≡ true → 0 < region
unfolding region_ok
region_positive region alignment e = ltb-true 0 region (and_left _ _ (and_right (alignment_ok alignment) _ e))

create_ok : (b region : ℕ) (several : Bool) (plugged usable new : ℕ) (rows : List MapRow) (i last size : ℕ) → 0 < region
    → growth_of region several usable new rows ≡ creation i last size → pending_ok (Create i last) b region several plugged ≡ true
unfolding pending_ok map_regions
create_ok b region several plugged usable new rows i last size positive e =
    let a = asking region several usable new rows i last size e in
    let ends : last ≡ min (new / map_region) ((region + (map_region - 1)) / map_region - 1) = a.ends in
    let in_order = a.search.to in
    rw (a.regions, le-leb i last in_order) (lt-ltb last ((region + (map_region - 1)) / map_region) (omega arith))

whole_ok : (b region : ℕ) (several : Bool) (plugged : ℕ) → several ≡ false → pending_ok (Create 0 0) b region several plugged ≡ true
unfolding pending_ok map_regions
whole_ok b region several plugged e = rw e

-- ---- each ending
abbrev pub StaysShaped : Call → Outcome → List Event → Type 0
StaysShaped c o new = Parts o.world.device

module _ (w : World) (s : Parts w.device) where
  pub stays_shaped : Endings w StaysShaped
  stays_shaped =
      let d = w.device in
      let over = awaiting d s Nothing (nothing_ok _ _ _ _) in
      let positive = region_positive (region w) d.alignment s.region in
      record {
        refuses = λ c r _ _. s;
        reads = λ offset buffer bytes. s;
        writes = λ offset buffer. s;
        unserves = λ a reason. s;
        responds = λ a resp. s;
        plugs_range = λ a addr count first offset within l.
            reshaped d s _ _ _ _ d.placed d.pending s.start s.usable
            (more_ok (block_size w) (plugged w) (region w) s.plugged count (requested w) within (size_within (block_size w) (requested w) (region w) s.requested))
            s.requested (idle_ok d.pending _ _ _ _ a.entry.pending_is_idle);
        asks_range = λ a addr count first offset host enough l _. awaiting d s _ (discard_ok _ _ _ _ first count _ l.ends enough);
        spoils = λ a addr count first offset _ _. s;
        ends_at_once = λ a r. reshaped d s _ _ 0 _ d.placed Nothing s.start s.usable (none_ok _ _) s.requested (nothing_ok _ _ _ _);
        asks_first = λ a block offset host r _. awaiting d s _ (one_ok _ _ _ _ block _ (next_at true w.blocks 0 (region_blocks w) block r).before_end);
        stops_at_once = λ a. over;
        maps = λ i last a. reshaped d s _ _ _ _ true Nothing s.start (grown_ok _ _ _ s.usable (requested w) d.alignment) s.plugged s.requested (nothing_ok _ _ _ _);
        create_fails_lem = λ i last a. over;
        unplugs_range = λ first count status a.
            reshaped d s _ _ _ _ d.placed Nothing s.start s.usable
            (less_ok (block_size w) (plugged w) (region w) count s.plugged)
            s.requested (nothing_ok _ _ _ _);
        discard_fails = λ first count status a. over;
        ends_all_lem = λ j status a r. reshaped d s _ _ 0 _ d.placed Nothing s.start s.usable (none_ok _ _) s.requested (nothing_ok _ _ _ _);
        asks_next = λ j status a block offset host r _.
            awaiting (cleared w j).device (cleared_shaped w j s) _ (one_ok _ _ _ _ block _ (next_at true (cleared w j).blocks (j + 1) (region_blocks w) block r).before_end);
        stops_after = λ j status a. cleared_shaped w j s;
        one_fails = λ j status a. over;
        resizes = λ a.
            let fits = size_ok_lem (block_size w) (a.mib * 1048576) (region w) a.whole a.in_region in
            reshaped d s _ _ _ _ true d.pending s.start (grown_ok _ _ _ s.usable (a.mib * 1048576) d.alignment) s.plugged fits s.pending;
        resize_asks = λ a i last size g.
            let fits = size_ok_lem (block_size w) (a.mib * 1048576) (region w) a.whole a.in_region in
            reshaped d s _ _ _ _ d.placed _ s.start s.usable s.plugged fits (create_ok _ (region w) (several w) _ _ _ _ i last size positive g);
        places = λ a.
            reshaped d s _ _ _ _ true d.pending a.start_fits (grown_ok _ _ _ s.usable (requested w) d.alignment) s.plugged s.requested s.pending;
        place_asks = λ a i last size g.
            reshaped d s _ _ _ _ d.placed _ a.start_fits s.usable s.plugged s.requested (create_ok _ (region w) (several w) _ _ _ _ i last size positive g);
        place_asks_whole = λ a single.
            reshaped d s _ _ _ _ d.placed _ a.start_fits s.usable s.plugged s.requested (whole_ok _ _ (several w) _ single);
      }

  pub step_shaped : (c : Call) → Parts (step w c).world.device
  step_shaped c = each_call w StaysShaped stays_shaped c

-- ---- in every good story
pub is_shaped : (s : Story) → Good s → Parts s.world.device
is_shaped s g = shaped-is _ g.shaped

-- the record keeps its shape
pub keeps_shape : FromEveryGood KeepsShape
unfolding next
keeps_shape s g c = shaped-when _ (step_shaped s.world (is_shaped s g) c)
