-- SPDX-License-Identifier: Apache-2.0 AND BSD-3-Clause
-- A restore: its plugs, one after the other, keep the invariant and the shape.
use Prim.Native.Nat.{ℕ, ◌+◌, ◌*◌, ◌≤◌, ◌<◌}
use mathlib.Core.Path.{◌≡◌, refl, ◌∙◌, sym}
use mathlib.Core.Bool.{Bool, true, false, ◌&&◌}
use mathlib.Core.List.{List, [], ◌∷◌}
use native.Mathlib.Omega.{arith}
use native.Mathlib.Nat.{le_trans, mul-mod_left, div-mul-le_self, mul-le-mul_right}
use lib.Dec.{leb, ltb}
use lib.ListN.{length, length-take}
use borrow.Author.Tests.{leb-true, ltb-true}
use Rattle.units.specs.Numbers.{blocks_in}
use Rattle.units.proofs.Tests.{by_test, and_left, and_right}
use Rattle.bitmap.specs.Blocks.{block_at, ones, all_are}
use Rattle.bitmap.proofs.Laws.{all_clear_at, fill_length, ones_none, ones-length}
use Rattle.step.specs.World.{World}
use Rattle.step.specs.Step.{block_size, region, usable, plugged, start, region_blocks}
use Rattle.history.specs.History.{Event, PlugAck, UnplugAck, Discarded, UnplugAllAck, within, touches, last_on, was_plug, used}
use Rattle.history.specs.Reached.{marks, counts, could, marked, counted, all_could, all_plugs, CanRestore, after_restore}
use Rattle.record.proofs.Laws.{Parts}
use Rattle.history.proofs.Shaped.{clash, block_is, size_ok_lem, size_within, reshaped, idle_ok}
use Rattle.history.proofs.Invariant.{Inv, discarding, quiet_asks, inv_plugs}

-- events leave the bitmap as long as it was
pub marked-length : (es : List Event) (bs : List Bool) → length (marked es bs) ≡ length bs
unfolding marked marks
marked-length [] bs = refl
marked-length (PlugAck first count ∷ es) bs = fill_length (marked es bs) _ _ _ ∙ marked-length es bs
marked-length (UnplugAck first count ∷ es) bs = fill_length (marked es bs) _ _ _ ∙ marked-length es bs
marked-length (Discarded block ∷ es) bs = fill_length (marked es bs) _ _ _ ∙ marked-length es bs
marked-length (UnplugAllAck ∷ es) bs = marked-length es bs

-- what a plug finds: its blocks lie in the region, and are unplugged
module _ (first count n : ℕ) (bs : List Bool) (e : could (PlugAck first count) bs n ≡ true) where
  plug_ends : first + count ≤ n
  unfolding could
  plug_ends = leb-true (first + count) n (and_left _ _ e)

  plug_finds : all_are bs first count false ≡ true
  unfolding could
  plug_finds = and_right (leb (first + count) n) _ e

-- a block whose last event is a plug lies in the region of n blocks
last_inside : (es : List Event) (bs : List Bool) (n i : ℕ) → all_plugs es ≡ true → all_could es bs n ≡ true → was_plug (last_on es i) ≡ true → i < n
unfolding all_plugs all_could last_on touches within was_plug
last_inside [] bs n i p q last = clash last refl
last_inside (PlugAck first count ∷ es) bs n i p q last =
    let ends = plug_ends first count n (marked es bs) (and_right (all_could es bs n) _ q) in
    by_test (leb first i && ltb i (first + count)) (λ t. let before = ltb-true i (first + count) (and_right (leb first i) _ t) in omega arith)
    (λ t. last_inside es bs n i p (and_left _ _ q) (rw t at last))
last_inside (UnplugAck first count ∷ es) bs n i p q last = clash p refl
last_inside (Discarded block ∷ es) bs n i p q last = clash p refl
last_inside (UnplugAllAck ∷ es) bs n i p q last = clash p refl

module _ (w : World) (requested : ℕ) (s : Parts w.device) where
  -- all plugs but the newest can be laid too
  fewer : (e : Event) (es : List Event) → CanRestore w requested (e ∷ es) → CanRestore w requested es
  unfolding all_plugs all_could
  fewer e es r =
      record {
        is_placed = r.is_placed;
        waits_for_nothing = r.waits_for_nothing;
        is_long = r.is_long;
        none_set = r.none_set;
        nothing_plugged = r.nothing_plugged;
        requested_fits = r.requested_fits;
        only_plugs = and_right (was_plug _) _ r.only_plugs;
        could_all = and_left _ _ r.could_all;
      }

  usable_blocks_lem : blocks_in (block_size w) (usable w) ≤ region_blocks w
  usable_blocks_lem = let within = size_within (block_size w) (usable w) (region w) s.usable in rw (block_is w.device s) (omega arith)

  pub inv_restored : (plugs : List Event) → CanRestore w requested plugs → Inv (after_restore w requested plugs) plugs
  unfolding marked marks counted counts all_plugs all_could last_on was_plug discarding
  inv_restored [] r =
      record {
        told = record {
          bits = λ i l. all_clear_at w.blocks 0 (region_blocks w) i r.none_set (omega arith) (omega arith);
          count = rw (ones_none (used w) r.none_set) (omega arith);
        };
        early = λ p. clash r.is_placed p;
        asked = quiet_asks w.device.pending _ _ (rw r.waits_for_nothing);
      }
  inv_restored (PlugAck first count ∷ es) r =
      let n = blocks_in (block_size w) (usable w) in
      let found = and_right (all_could es w.blocks n) _ r.could_all in
      inv_plugs (after_restore w requested es) es (inv_restored es (fewer _ es r)) r.is_placed 0 (record { mem = []; base = 0 }) (rw (marked-length es w.blocks) r.is_long) first count
      (rw r.waits_for_nothing) (le_trans (plug_ends first count n _ found) usable_blocks_lem) (plug_finds first count n _ found)
  inv_restored (UnplugAck first count ∷ es) r = clash r.only_plugs refl
  inv_restored (Discarded block ∷ es) r = clash r.only_plugs refl
  inv_restored (UnplugAllAck ∷ es) r = clash r.only_plugs refl

  -- what it plugs lies in the usable size
  pub restored_inside : (plugs : List Event) → CanRestore w requested plugs → (i : ℕ) → i < region_blocks w → block_at (marked plugs w.blocks) i ≡ true → i < blocks_in (block_size w) (usable w)
  restored_inside plugs r i l p = last_inside plugs w.blocks _ i r.only_plugs r.could_all (sym ((inv_restored plugs r).told.bits i l) ∙ p)

  -- the plugged size is of whole blocks of the region, so the shape stays
  pub shaped_restored : (plugs : List Event) → CanRestore w requested plugs → Parts (after_restore w requested plugs).device
  shaped_restored plugs r =
      let w' = after_restore w requested plugs in
      let few : ones (used w') ≤ region_blocks w = omega (arith, ones-length (used w'), length-take (region_blocks w) w'.blocks) in
      let counted : plugged w' ≡ ones (used w') * block_size w = (inv_restored plugs r).told.count in
      let most = mul-le-mul_right (block_size w) few in
      let all = div-mul-le_self (region w) (block_size w) in
      reshaped w.device s (start w) (usable w) _ requested w.device.placed w.device.pending s.start s.usable
      (rw counted (size_ok_lem (block_size w) _ (region w) (mul-mod_left _ (block_size w)) (omega arith)))
      r.requested_fits (idle_ok w.device.pending _ _ _ _ (rw r.waits_for_nothing))
