-- SPDX-License-Identifier: Apache-2.0 AND BSD-3-Clause
-- In every good story a placed device with nothing pending is ready for a request, and its plugged size is that of the plugged blocks in the usable part.
use Prim.Native.Nat.{ℕ, ◌+◌, ◌-◌, ◌*◌, ◌/◌, ◌≤◌, ◌<◌}
use mathlib.Core.Path.{◌≡◌, refl, ap, ◌∙◌}
use mathlib.Core.Bool.{Bool, true, false}
use mathlib.Core.List.{List}
use native.Mathlib.Omega.{arith}
use lib.ListN.{length, take}
use Rattle.units.specs.Numbers.{bytes_of, map_region, map_regions}
use Rattle.bitmap.specs.Blocks.{block_at, range, ones}
use Rattle.bitmap.proofs.Laws.{ones_split, ones_none}
use Rattle.rows.specs.Rows.{row_at}
use Rattle.record.proofs.Laws.{Shaped as Facts}
use Rattle.step.specs.World.{World}
use Rattle.step.specs.Step.{block_size, region, usable, several, region_blocks}
use Rattle.driving.specs.Sound.{SoundRows, Ready, usable_blocks, plugged_blocks}
use Rattle.history.specs.History.{Story}
use Rattle.history.specs.Good.{InMemory, Good}
use Rattle.history.specs.Rules.{FromEveryGood}
use Rattle.history.proofs.Good.{tables_fit_lem}
use Rattle.standard.proofs.Config.{facts_at}
use Rattle.standard.proofs.Requests.{all_when}
use Rattle.standard.proofs.Changed.{outside_is_unplugged}
use Rattle.driving_runs.specs.Runs.{TakesRequests, ReadyAndCounted}

-- ---- the rows are sound, since the host has memory for what is usable
sound : (w : World) → InMemory w → Facts w.device → SoundRows (several w) (usable w) w.rows
unfolding map_regions
sound w m s = go (several w) refl
  where
    go : (v : Bool) → several w ≡ v → SoundRows (several w) (usable w) w.rows
    go true e =
        let there : (offset : ℕ) → offset < usable w → offset / map_region < map_regions (region w) (several w) = λ offset l. rw e (omega (arith, s.usable_in)) in
        let mapped : (offset : ℕ) → offset < usable w → (row_at w.rows (offset / map_region)).mapped ≡ 0 → ⊥ = λ offset l. m.below (offset / map_region) (omega arith) (there offset l) in
        record {
          mapped = λ offset l. rw e (mapped offset l);
          fits = λ offset l. let room = rw e at (m.fits (offset / map_region) (there offset l) (mapped offset l)) in rw e (omega arith);
        }
    go false e =
        let there : 0 < map_regions (region w) (several w) = rw e (omega arith) in
        let mapped : (offset : ℕ) → offset < usable w → (row_at w.rows 0).mapped ≡ 0 → ⊥ = λ offset l. m.below 0 (omega arith) there in
        record {
          mapped = λ offset l. rw e (mapped offset l);
          fits = λ offset l. let room = rw e at (m.fits 0 there (mapped offset l)) in rw e (omega (arith, s.usable_in));
        }

pub ready_in_run : (s : Story) → Good s → TakesRequests s.world → Ready s.world
ready_in_run s g t =
    let w = s.world in
    let long = tables_fit_lem s g t.is_placed in
    record {
      shaped = g.shaped;
      idle = t.pending_is_idle;
      placed = t.is_placed;
      blocks_fit = long.0;
      rows_fit = long.1;
      sound = sound w g.mapped (facts_at s g);
    }

-- ---- the blocks behind the usable part are unplugged, so those of the region are those of the usable part
same_ones : (bs : List Bool) (n m : ℕ) → n ≤ m → m ≤ length bs → ((i : ℕ) → n ≤ i → i < m → block_at bs i ≡ false) → ones (take m bs) ≡ ones (take n bs)
same_ones bs n m h l clear =
    let e : m ≡ n + (m - n) = omega arith in
    let z : 0 + n ≡ n = omega arith in
    let none : ones (range bs n (m - n)) ≡ 0 = ones_none (range bs n (m - n)) (all_when bs n (m - n) false (λ i p q. clear i p (omega arith)) (omega arith)) in
    ap (λ (k : ℕ). ones (take k bs)) e ∙ rw (ones_split bs 0 n (m - n), z, none) (omega arith)

pub ready_and_counted : FromEveryGood ReadyAndCounted
ready_and_counted s g c t =
    let w = s.world in
    let ready = ready_in_run s g t in
    let f = facts_at s g in
    let bsz = f.block_size in
    let fewer : usable_blocks w ≤ region_blocks w = rw bsz (omega (arith, f.usable_in)) in
    let past : (i : ℕ) → usable_blocks w ≤ i → usable w < (i + 1) * block_size w = λ i p. let q = rw bsz at p in rw bsz (omega arith) in
    let same : ones (take (region_blocks w) w.blocks) ≡ plugged_blocks w =
    same_ones w.blocks (usable_blocks w) (region_blocks w) fewer ready.blocks_fit (λ i p q. outside_is_unplugged s g c i q (past i p)) in
    (ready, g.told.count ∙ ap (bytes_of (block_size w)) same)
