-- SPDX-License-Identifier: Apache-2.0 AND BSD-3-Clause
-- What saving a device promises (R15.12): 12, 7, 11, 18, or its text.
use Rattle.std.specs.Prelude.{ℕ, ◌≡◌, cond, not, List, length, ⊤, Result, Ok, Err}
use Rattle.record.specs.declared.Device.{Device}
use Rattle.record.specs.Shape.{shaped_of, is_idle}
use Rattle.save.specs.declared.Fields.{Fields}
use Rattle.refusal.specs.declared.Refusal.{Refusal}
use Rattle.refusal.specs.declared.Refusal.TheVariants as refusal
use Rattle.save.specs.Writing.{text_in, length_of, wrote_of, written_on}

-- what a save record says of a device
abbrev pub fields_in : Device → Fields
fields_in d =
    let c = d.config in
    record {
      block = c.block_size;
      start = c.addr.0;
      region = c.region_size;
      requested = c.requested_size;
      usable = c.usable_region_size;
      plugged = c.plugged_size;
    }

-- R15.12, R15.13: 12, then 7, and none for a record that may be saved or restored
unfoldable pub entry_refusal : Device → Result ⊤ Refusal
entry_refusal d = cond (not (shaped_of d)) (Err refusal.NoShape) (cond (not (is_idle d.pending)) (Err refusal.CallPending) (Ok tt))

-- a refusal of the record, or what comes after it
abbrev pub if_admitted : Result ⊤ Refusal → Result ℕ Refusal → Result ℕ Refusal
if_admitted (Ok admitted) w = w
if_admitted (Err why) w = Err why

abbrev pub saved_length : Device → List ℕ → Result ℕ Refusal
saved_length d bitmap = if_admitted (entry_refusal d) (length_of (fields_in d) bitmap)

abbrev pub saved_of : Device → List ℕ → (room : ℕ) → Result ℕ Refusal
saved_of d bitmap room = if_admitted (entry_refusal d) (wrote_of (fields_in d) bitmap room)

pub record Saves (d : Device) (bitmap before after : List ℕ) (r : Result ℕ Refusal) : Type 0 where
  pub answer : r ≡ saved_of d bitmap (length before)
  pub buffer : after ≡ written_on r (text_in (fields_in d) bitmap) before
