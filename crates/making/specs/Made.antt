-- SPDX-License-Identifier: Apache-2.0 AND BSD-3-Clause
-- What making a device ends in (R4): a record, or the number 2 or 1.
use Rattle.std.specs.Prelude.{ℕ, ◌*◌, Bool, true, false, cond, not, ◌&&◌, ◌||◌, ◌≡◌, ltb, eqb, Option, Ok, Err, Result, is_some, unwrap_or}
use Rattle.units.specs.Numbers.{map_region, alignment_of, capacity_of, MiB}
use Rattle.wire.specs.Layout.{new_config}
use Rattle.record.specs.declared.Device.{Device}
use Rattle.refusal.specs.declared.Refusal.{Refusal}
use Rattle.refusal.specs.declared.Refusal.TheVariants.{WrongSize, CapacityTooLarge}
use Rattle.refusal.specs.Refusal.{number}
use Rattle.record.specs.declared.Pending.TheVariants.{Nothing}
use Rattle.record.specs.Shape.{size_ok, features_of}

abbrev pub is_given : Option ℕ → Bool
is_given node = is_some node

-- R4.6
abbrev pub node_number : Option ℕ → ℕ
node_number node = unwrap_or node 0

-- R4.4, R4.7: nothing is usable, plugged, placed or pending yet
abbrev pub new_device : (region requested alignment : ℕ) (several : Bool) → Option ℕ → Device
new_device region requested alignment several node =
    record {
      config = new_config (4 * MiB) (node_number node) region requested;
      alignment = alignment;
      several = several && ltb map_region region;
      avail_features = features_of (is_given node);
      placed = false;
      pending = Nothing;
    }

-- R4.1; R2.1: R1.2, then R1.1
unfoldable pub made : (capacity requested : ℕ) (several : Bool) → Option ℕ → (boot : ℕ) → Result Device Refusal
made capacity requested several node boot =
    let alignment = alignment_of boot in
    let region = capacity_of capacity alignment in
    cond (ltb 1048576 capacity) (Err CapacityTooLarge)
    (cond (eqb capacity 0 || not (size_ok (4 * MiB) (requested * MiB) region)) (Err WrongSize)
    (Ok (new_device region (requested * MiB) alignment several node)))

-- the number of a device that was made or refused
unfoldable pub made_number : Result Device Refusal → ℕ
made_number (Ok d) = 0
made_number (Err refusal) = number refusal

-- R18.2, what code promises: the device or the refusal is that of `made`, with its number
pub record MadeAs (m r : Result Device Refusal) : Type 0 where
  pub same : r ≡ m
  pub numbered : made_number r ≡ made_number m
