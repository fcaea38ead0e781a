-- SPDX-License-Identifier: Apache-2.0 AND BSD-3-Clause
-- What a call may change in a record that has the shape.
use Prim.Native.Nat.{ℕ, ◌%◌, ◌≤◌}
use mathlib.Core.Path.{◌≡◌, refl}
use mathlib.Core.Bool.{Bool, true, false}
use native.Mathlib.Omega.{arith}
use lib.Dec.{leb, eqb}
use borrow.Author.Tests.{leb-true, eqb-true, le-leb, eq-eqb}
use Rattle.units.proofs.Tests.{and_left, and_right}
use Rattle.wire.specs.declared.VirtioMemConfig.{VirtioMemConfig}
use Rattle.record.specs.declared.Device.{Device}
use Rattle.record.specs.declared.Pending.{Pending}
use Rattle.step.specs.World.{World}
use Rattle.step.specs.Step.{cleared}
use Rattle.record.specs.declared.Pending.TheVariants.{Nothing, Create, Discard, DiscardOne}
use Rattle.record.specs.Changes.{config_with, device_with, pending_to}
use Rattle.record.specs.Shape.{is_idle, size_ok, start_ok, pending_ok}
use Rattle.record.proofs.Laws.{Parts, parts, whole, block_less_keeps}

abbrev pub sizes_ok : VirtioMemConfig → ℕ → Bool
sizes_ok c size = size_ok c.block_size size c.region_size

-- a test has one result
pub clash : {A : Type 0} {t : Bool} → t ≡ true → t ≡ false → A
clash p q = let z : ◌≡◌ {A = ℕ} 0 1 = cc in absurd (omega arith)

-- a size of the shape: whole blocks, at most the region
module _ (b size region : ℕ) where
  pub size_whole : size_ok b size region ≡ true → size % b ≡ 0
  unfolding size_ok
  size_whole e = eqb-true (size % b) 0 (and_left _ _ e)

  pub size_within : size_ok b size region ≡ true → size ≤ region
  unfolding size_ok
  size_within e = leb-true size region (and_right (eqb (size % b) 0) (leb size region) e)

  pub size_ok_lem : size % b ≡ 0 → size ≤ region → size_ok b size region ≡ true
  unfolding size_ok
  size_ok_lem p q = rw (eq-eqb (size % b) 0 p, le-leb size region q)

pub block_is : (d : Device) → Parts d → d.config.block_size ≡ 4194304
block_is d s = eqb-true d.config.block_size 4194304 s.block

-- another start, other sizes and another pending call, each of the shape
module _ (d : Device) (s : Parts d) where
  pub reshaped : (at u n r : ℕ) (pl : Bool) (p : Pending)
      → start_ok at d.config.region_size d.several d.alignment ≡ true
      → sizes_ok d.config u ≡ true → sizes_ok d.config n ≡ true → sizes_ok d.config r ≡ true
      → pending_ok p d.config.block_size d.config.region_size d.several n ≡ true
      → Parts (device_with d (config_with d.config at u n r) pl p)
  reshaped at u n r pl p start_fits u-fits n-fits r-fits p-fits =
      record {
        block = s.block;
        region = s.region;
        requested = r-fits;
        usable = u-fits;
        plugged = n-fits;
        start = start_fits;
        several = s.several;
        pending = p-fits;
      }

  -- another pending call alone
  pub awaiting : (p : Pending) → pending_ok p d.config.block_size d.config.region_size d.several d.config.plugged_size ≡ true → Parts (pending_to p d)
  awaiting p p-fits = reshaped _ _ _ _ d.placed p s.start s.usable s.plugged s.requested p-fits

-- idle is: nothing is pending
pub idle_nothing : (p : Pending) → is_idle p ≡ true → Nothing ≡ p
idle_nothing Nothing e = refl
idle_nothing (Create first last) e = clash e refl
idle_nothing (Discard first count status) e = clash e refl
idle_nothing (DiscardOne block status) e = clash e refl

-- nothing pending is always of the shape
pub idle_ok : (p : Pending) (b region : ℕ) (several : Bool) (plugged : ℕ) → is_idle p ≡ true → pending_ok p b region several plugged ≡ true
unfolding pending_ok
idle_ok Nothing b region several plugged e = refl
idle_ok (Create first last) b region several plugged e = clash e refl
idle_ok (Discard first count status) b region several plugged e = clash e refl
idle_ok (DiscardOne block status) b region several plugged e = clash e refl

-- one block less, and nothing pending: the shape stays
pub cleared_shaped : (w : World) (j : ℕ) → Parts w.device → Parts (cleared w j).device
cleared_shaped w j s = parts (cleared w j).device (block_less_keeps w.device (whole w.device s))
