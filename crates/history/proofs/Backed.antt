-- SPDX-License-Identifier: Apache-2.0 AND BSD-3-Clause
-- What is usable is mapped, and its host sums stay below 2^64: so an ERROR of a run is never for an unmapped row or a host sum (R10.19).
use Rattle.std.specs.Prelude.{Ok, Err, Result}
use Rattle.std.specs.Result.{result_err}
use Prim.Native.Nat.{ℕ, ◌+◌, ◌*◌, ◌/◌, ◌%◌, ◌≤◌, ◌<◌}
use mathlib.Core.Path.{◌≡◌, refl}
use mathlib.Core.Bool.{Bool, true, false, not}
use mathlib.Core.List.{List}
use native.Mathlib.Nat.{mul-pos}
use native.Mathlib.Omega.{arith}
use lib.Dec.{leb, ltb, eqb}
use borrow.Author.Tests.{ltb-false, le-ltb}
use Rattle.units.specs.Numbers.{top, bytes_of, blocks_in, map_region, map_regions}
use Rattle.units.proofs.Tests.{by_test}
use Rattle.bitmap.specs.Blocks.{all_are}
use Rattle.rows.specs.declared.MapRow.{MapRow}
use Rattle.rows.specs.Rows.{row_at}
use Rattle.rows.proofs.Laws.{mapping_at}
use Rattle.record.proofs.Laws.{shaped_is}
use Rattle.units.specs.declared.RegionOffset.{RegionOffset}
use Rattle.change.specs.declared.Reason.{Reason}
use Rattle.change.specs.Change.{inside_of, range_of, host_of, host_in, host_sum, legal_at, change_in}
use Rattle.change.specs.Why.{why, why_number}
use Rattle.change.proofs.Why.{Failed, either_failed}
use Rattle.change.proofs.Laws.{inside_is}
use Rattle.step.specs.World.{World}
use Rattle.step.specs.Step.{block_size, region, usable, start, several, changing}
use Rattle.step.proofs.Served.{Known, of_every_reply}
use Rattle.history.specs.Good.{row_size}
use Rattle.history.specs.Rules.{FromEveryGood, NotSpoiled, Never9Or10}
use Rattle.history.proofs.Cases.{by_cond, by_not}

low : (n : ℕ) → n < 9 → NotSpoiled n
low n h = (λ e. omega arith, λ e. omega arith)

-- of a range, and so of a state request
abbrev RangeLow : Result RegionOffset Reason → Type 0
RangeLow r = NotSpoiled (why_number (result_err r))

range_low : (b start usable addr count : ℕ) → RangeLow (range_of b start usable addr count)
unfolding range_of inside_of
range_low b start usable addr count =
    by_not RangeLow (eqb (addr % b) 0) _ _
    (λ _. by_cond RangeLow (eqb count 0) _ _ (λ _. low 2 (omega arith))
    (λ _. by_cond RangeLow (ltb top (addr + bytes_of b count)) _ _ (λ _. low 3 (omega arith))
    (λ _. by_cond RangeLow (ltb addr start) _ _ (λ _. low 4 (omega arith))
    (λ _. by_cond RangeLow (leb (start + usable) addr) _ _ (λ _. low 5 (omega arith))
    (λ _. by_cond RangeLow (ltb (start + usable) (addr + bytes_of b count)) _ _ (λ _. low 6 (omega arith)) (λ _. low 0 (omega arith)))))))
    (λ _. low 1 (omega arith))

abbrev Low : Reason → Type 0
Low reason = NotSpoiled (why reason)

-- ---- the host has what is usable
pub record Backed (w : World) : Type 0 where
  pub whole : 0 < block_size w
  pub in_region : usable w ≤ region w
  pub below : (r : ℕ) → r * map_region < usable w → r < map_regions (region w) (several w) → (row_at w.rows r).mapped ≡ 0 → ⊥
  pub fits : (r : ℕ) → r < map_regions (region w) (several w) → ((row_at w.rows r).mapped ≡ 0 → ⊥) → (row_at w.rows r).host.0 + row_size (region w) (several w) ≤ top

module _ (b usable region : ℕ) (rows : List MapRow) (offset size : ℕ) (some : 0 < size) (in-usable : offset + size ≤ usable) (in_region : usable ≤ region) where
  -- with several regions a range that crosses no border lies in a row that is mapped
  by_rows :
      ((r : ℕ) → r * map_region < usable → r < map_regions region true → (row_at rows r).mapped ≡ 0 → ⊥)
      → ((r : ℕ) → r < map_regions region true → ((row_at rows r).mapped ≡ 0 → ⊥) → (row_at rows r).host.0 + map_region ≤ top)
      → Failed Low (legal_at b offset (host_of true rows offset size))
  unfolding host_of host_in host_sum legal_at Failed map_regions
  by_rows below fits =
      let row = offset / map_region in
      let there : row < map_regions region true = omega arith in
      let mapped = below row (omega arith) there in
      let room = fits row there mapped in
      by_test (ltb map_region (offset % map_region + size)) (λ t. rw t (low 8 (omega arith)))
      (λ t.
      let inside = ltb-false map_region (offset % map_region + size) t in
      rw (t, mapping_at rows row mapped, le-ltb top ((row_at rows row).host.0 + offset % map_region + size) (omega arith)) tt)

  -- and a single one is mapped whole
  by_one :
      ((row_at rows 0).mapped ≡ 0 → ⊥) → (row_at rows 0).host.0 + region ≤ top → Failed Low (legal_at b offset (host_of false rows offset size))
  unfolding host_of host_in host_sum legal_at Failed
  by_one mapped room = rw (mapping_at rows 0 mapped, le-ltb top ((row_at rows 0).host.0 + offset + size) (omega arith)) tt

hosts : (w : World) → Backed w → (offset size : ℕ) → 0 < size → offset + size ≤ usable w → Failed Low (legal_at (block_size w) offset (host_of (several w) w.rows offset size))
unfolding map_regions
hosts w u offset size some inside = go (several w) refl
  where
    go : (v : Bool) → several w ≡ v → Failed Low (legal_at (block_size w) offset (host_of (several w) w.rows offset size))
    go true e = rw e (by_rows (block_size w) (usable w) (region w) w.rows offset size some inside u.in_region (rw e at u.below) (rw e at u.fits))
    go false e =
        let there : 0 < map_regions (region w) (several w) = rw e (omega arith) in
        let mapped = u.below 0 (omega arith) there in
        let room = rw e at (u.fits 0 there mapped) in
        rw e (by_one (block_size w) (usable w) (region w) w.rows offset size some inside u.in_region mapped room)

changes : (w : World) → Backed w → (addr count : ℕ) (wanted : Bool) → Failed Low (changing w addr count wanted)
unfolding change_in Failed
changes w u addr count wanted = go (range_of (block_size w) (start w) (usable w) addr count) refl
  where
    go : (r : Result RegionOffset Reason) → range_of (block_size w) (start w) (usable w) addr count ≡ r → Failed Low (change_in r (block_size w) (several w) count wanted w.blocks w.rows)
    go (Ok offset) e =
        let in-range = inside_is (block_size w) (start w) (usable w) addr count offset e in
        either_failed Low (all_are w.blocks (blocks_in (block_size w) offset.0) count (not wanted)) _ _
        (hosts w u offset.0 (bytes_of (block_size w) count) (mul-pos in-range.some u.whole) in-range.in_usable)
        (low 7 (omega arith))
    go (Err reason) e = rw e at (range_low (block_size w) (start w) (usable w) addr count)

known : Known (λ v. NotSpoiled v.why) Backed
known =
    record {
      acks = low 0 (omega arith);
      nacks = low 0 (omega arith);
      states = λ w u addr count. range_low _ _ _ _ _;
      changes = changes;
      discards = (λ e. omega arith, λ e. omega arith);
      clears = λ w block u. record { whole = u.whole; in_region = u.in_region; below = u.below; fits = u.fits };
    }

pub never_9_or_10 : FromEveryGood Never9Or10
never_9_or_10 s g =
    let w = s.world in
    let f = shaped_is w.device g.shaped in
    of_every_reply (λ v. NotSpoiled v.why) Backed known w (record { whole = omega (arith, f.block_size); in_region = f.usable_in; below = g.mapped.below; fits = g.mapped.fits })
