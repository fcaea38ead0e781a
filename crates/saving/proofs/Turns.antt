-- SPDX-License-Identifier: Apache-2.0 AND BSD-3-Clause
-- What each step of saving and restoring does.
use Rattle.std.specs.Prelude.{Result, Ok, Err}
use Prim.Native.Nat.{ℕ, ◌+◌, ◌/◌, ◌≤◌}
use mathlib.Core.Path.{◌≡◌, refl, ap, ◌∙◌, sym}
use mathlib.Core.Bool.{Bool, true, false, ◌&&◌}
use mathlib.Core.List.{List, ◌++◌}
use native.Mathlib.Omega.{arith}
use borrow.Author.Tests.{ltb-false, leb-true, le-leb, eqb-true, eq-eqb}
use lib.Dec.{eqb, leb, ltb}
use lib.ListN.{length, take, drop, replicate, length-take}
use Rattle.units.specs.Numbers.{blocks_in}
use Rattle.units.proofs.Tests.{and_left, and_right}
use Rattle.bitmap.specs.Blocks.{blocks, all_are}
use Rattle.bitmap.proofs.Laws.{blocks-length}
use Rattle.record.specs.declared.Device.{Device}
use Rattle.record.specs.Shape.{shaped_of, is_idle}
use Rattle.runs.specs.Reading.{Lays}
use Rattle.runs.proofs.Spread.{every_is, take-drop}
use Rattle.save.specs.declared.Fields.{Fields}
use Rattle.refusal.specs.declared.Refusal.{Refusal}
use Rattle.refusal.specs.declared.Refusal.TheVariants as refusal
use Rattle.refusal.specs.Refusal.{number}
use Rattle.refusal.proofs.Numbered.{numbered}
use Rattle.save.specs.Text.{all_of}
use Rattle.save.specs.Writing.{is_short, text_in, length_of, wrote_of, written_on, Writes}
use Rattle.save.specs.Reading.{Refuses, Accepts, NotTaken}
use Rattle.record.proofs.Laws.{shaped_is}
use Rattle.save.proofs.Text.{state_block}
use Rattle.save.proofs.Turns.{too_short, not_read, not_fitting, laid_holds}
use Rattle.saving.specs.Saving.{fields_in, entry_refusal, saved_length, Saves}
use Rattle.saving.specs.Restoring.{fits_on, restored_to, Fits, TakenOn, restore_refusal, Restoring, NotRestoring}

-- ---- `entry_refusal`

module _ (d : Device) (r : Bool) (p : r ≡ shaped_of d) where
  pub no_shape_lem : r ≡ false → Err refusal.NoShape ≡ entry_refusal d
  unfolding entry_refusal
  no_shape_lem q = rw (← p, q)

  module _ (q : r ≡ true) (i : Bool) (o : i ≡ is_idle d.pending) where
    pub busy : i ≡ false → Err refusal.CallPending ≡ entry_refusal d
    unfolding entry_refusal
    busy w = rw (← p, q, ← o, w)

    pub ready : i ≡ true → Ok tt ≡ entry_refusal d
    unfolding entry_refusal
    ready w = rw (← p, q, ← o, w)

-- ---- `save_length` and `save`

module _ (d : Device) (m : List ℕ) where
  pub not_measured : (why : Refusal) → Err why ≡ entry_refusal d → Err why ≡ saved_length d m
  not_measured why e = rw (← e)

  pub not_saved : (why : Refusal) → Err why ≡ entry_refusal d → (before : List ℕ) → Saves d m before before (Err why)
  not_saved why e before = record { answer = rw (← e); buffer = refl }

  module _ (z : Ok tt ≡ entry_refusal d) (f : Fields) (g : f ≡ fields_in d) where
    pub measured : (r : Result ℕ Refusal) → r ≡ length_of f m → r ≡ saved_length d m
    measured r e = rw (← z) (e ∙ ap (λ (x : Fields). length_of x m) g)

    pub saved : (before final : List ℕ) (r : Result ℕ Refusal) → Writes f m before final r → Saves d m before final r
    saved before final r w =
        record {
          answer = rw (← z) (w.answer ∙ ap (λ (x : Fields). wrote_of x m (length before)) g);
          buffer = w.buffer ∙ ap (λ (x : Fields). written_on r (text_in x m) before) g;
        }

-- ---- `fits_on`

pub all_clear : (d : Device) (bs : List Bool) (f : Fields) → d.placed ≡ true → f.start ≡ d.config.addr.0 → f.region ≡ d.config.region_size
    → f.usable ≤ d.config.usable_region_size → d.config.plugged_size ≡ 0
    → (all : ℕ) → all ≡ blocks_in d.config.block_size d.config.region_size → (r : Bool) → r ≡ all_are bs 0 all false → r ≡ fits_on d bs f
unfolding fits_on
all_clear d bs f p s g u z all a r c =
    rw (p, eq-eqb f.start d.config.addr.0 s, eq-eqb f.region d.config.region_size g, le-leb f.usable d.config.usable_region_size u, eq-eqb d.config.plugged_size 0 z, ← a) c

-- what fitting says, part by part
module _ (d : Device) (bs : List Bool) (f : Fields) (h : fits_on d bs f ≡ true) where
  after_placed : (eqb f.start d.config.addr.0 && (eqb f.region d.config.region_size && (leb f.usable d.config.usable_region_size
      && (eqb d.config.plugged_size 0 && all_are bs 0 (blocks_in d.config.block_size d.config.region_size) false)))) ≡ true
  unfolding fits_on
  after_placed = and_right d.placed _ h

  pub is_placed : d.placed ≡ true
  unfolding fits_on
  is_placed = and_left d.placed _ h

  pub same_start : f.start ≡ d.config.addr.0
  same_start = eqb-true f.start d.config.addr.0 (and_left (eqb f.start d.config.addr.0) _ after_placed)

  after_start : (eqb f.region d.config.region_size && (leb f.usable d.config.usable_region_size
      && (eqb d.config.plugged_size 0 && all_are bs 0 (blocks_in d.config.block_size d.config.region_size) false))) ≡ true
  after_start = and_right (eqb f.start d.config.addr.0) _ after_placed

  pub same_region : f.region ≡ d.config.region_size
  same_region = eqb-true f.region d.config.region_size (and_left (eqb f.region d.config.region_size) _ after_start)

  after_region : (leb f.usable d.config.usable_region_size && (eqb d.config.plugged_size 0
      && all_are bs 0 (blocks_in d.config.block_size d.config.region_size) false)) ≡ true
  after_region = and_right (eqb f.region d.config.region_size) _ after_start

  pub usable_enough : f.usable ≤ d.config.usable_region_size
  usable_enough = leb-true f.usable d.config.usable_region_size (and_left (leb f.usable d.config.usable_region_size) _ after_region)

  after_usable : (eqb d.config.plugged_size 0 && all_are bs 0 (blocks_in d.config.block_size d.config.region_size) false) ≡ true
  after_usable = and_right (leb f.usable d.config.usable_region_size) _ after_region

  pub none_plugged_lem : d.config.plugged_size ≡ 0
  none_plugged_lem = eqb-true d.config.plugged_size 0 (and_left (eqb d.config.plugged_size 0) _ after_usable)

  pub none_set : all_are bs 0 (blocks_in d.config.block_size d.config.region_size) false ≡ true
  none_set = and_right (eqb d.config.plugged_size 0) _ after_usable

-- ---- `restore`

-- a record that may be saved or restored is of the shape and waits for nothing
pub entry_shaped : (d : Device) → entry_refusal d ≡ Ok tt → (shaped_of d ≡ true) × (is_idle d.pending ≡ true)
unfolding entry_refusal
entry_shaped d e = go (shaped_of d) (is_idle d.pending) refl refl
  where
    go : (p q : Bool) → shaped_of d ≡ p → is_idle d.pending ≡ q → (p ≡ true) × (q ≡ true)
    go true true u v = (refl, refl)
    go true false u v = let w : Err refusal.CallPending ≡ Ok tt = rw (u, v) at e in cc
    go false q u v = let w : Err refusal.NoShape ≡ Ok tt = rw u at e in cc

-- the device has as many blocks as a state of its region
pub same_blocks : (d : Device) (f : Fields) → entry_refusal d ≡ Ok tt → f.block ≡ 4194304 → f.region ≡ d.config.region_size → all_of (fields_in d) ≡ all_of f
same_blocks d f e b r =
    let c = (shaped_is d (entry_shaped d e).0).block_size in
    ap (λ (x : ℕ). d.config.region_size / x) (c ∙ sym b) ∙ ap (λ (x : ℕ). x / f.block) (sym r)

-- where a state is taken, the device has as many blocks as it, its bitmap has them all, and they are clear
module _ (d : Device) (s before : List ℕ) (f : Fields) (bs : List Bool) (z : entry_refusal d ≡ Ok tt) (t : TakenOn d s before f bs) where
  pub as_many : all_of (fields_in d) ≡ length bs
  as_many = same_blocks d f z (state_block t.says.state) (same_region d (blocks before) f t.fits) ∙ sym t.says.state.all

  pub has_room : length bs ≤ length (blocks before)
  has_room =
      let count = blocks-length before in
      let k = ltb-false (length before) ((all_of (fields_in d) + 7) / 8) t.long in
      let n = as_many in
      omega arith

  pub starts_clear : blocks before ≡ replicate (length bs) false ++ drop (length bs) (blocks before)
  starts_clear =
      let first = take (length bs) (blocks before) in
      let few = has_room in
      let tl = length-take (length bs) (blocks before) in
      let n : length (take (length bs) (blocks before)) ≡ length bs = omega arith in
      let clear : all_are (blocks before) 0 (length bs) false ≡ true = rw as_many at (none_set d (blocks before) f t.fits) in
      let e : first ≡ replicate (length bs) false = every_is false first clear ∙ ap (λ (u : ℕ). replicate u false) n in
      sym (take-drop (length bs) (blocks before)) ∙ ap (λ (u : List Bool). u ++ drop (length bs) (blocks before)) e

module _ (d : Device) (s before : List ℕ) where
  pub shut_out : (why : Refusal) → Err why ≡ entry_refusal d → NotRestoring d s before before why
  unfolding restore_refusal
  shut_out why e = record { why_is = rw (← e); none = λ q. let z : Err why ≡ Ok tt = e ∙ q in cc; same = refl }

  module _ (z : Ok tt ≡ entry_refusal d) where
    unlaid : (why : Refusal) → NotTaken (is_short (fields_in d) before) (Fits d before) s why → NotRestoring d s before before why
    unfolding restore_refusal
    unlaid why t = record { why_is = rw (← z) t.why_is; none = λ _ f bs q. t.none f bs q; same = refl }

    module _ (all : ℕ) (a : all ≡ all_of (fields_in d)) (t : Bool) (w : t ≡ ltb (length before) ((all + 7) / 8)) where
      is_test : is_short (fields_in d) before ≡ t
      is_test = sym (w ∙ ap (λ (m : ℕ). ltb (length before) ((m + 7) / 8)) a)

      pub bitmap_short : t ≡ true → NotRestoring d s before before refusal.TooShort
      bitmap_short y = unlaid refusal.TooShort (too_short (is_short (fields_in d) before) (Fits d before) s (is_test ∙ y))

      module _ (y : t ≡ false) where
        long : is_short (fields_in d) before ≡ false
        long = is_test ∙ y

        pub text_bad : (why : Refusal) → Refuses s why → NotRestoring d s before before why
        text_bad why h = unlaid why (not_read (is_short (fields_in d) before) (Fits d before) s why long h)

        module _ (f : Fields) (m : ℕ) (there : Accepts s f m) (v : Bool) (o : v ≡ fits_on d (blocks before) f) where
          pub unfit : v ≡ false → NotRestoring d s before before refusal.NoState
          unfit q =
              unlaid refusal.NoState
              (not_fitting (is_short (fields_in d) before) (Fits d before) s long f m there (λ x. let k : true ≡ false = sym x ∙ sym o ∙ q in cc))

          pub laid : v ≡ true → (final : List ℕ) → Lays (drop m s) before final → Restoring d s before final (restored_to f d)
          laid q final l =
              let bs = there.bs in
              let t : TakenOn d s before f bs = record { long = long; says = there.says; fits = sym o ∙ q } in
              record {
                fields = f;
                bs = bs;
                admitted = sym z;
                taken = t;
                device = refl;
                bitmap = laid_holds s f m there before before final (starts_clear d s before f bs (sym z) t)
                    (record { same_length = refl; same_before = λ i j. refl; same_past = λ i j. refl }) l;
              }

-- a refusal has a number
pub never_0 : (d : Device) (s before final : List ℕ) (why : Refusal) → NotRestoring d s before final why → number why ≡ 0 → ⊥
never_0 d s before final why r e = let n = numbered why in omega arith
