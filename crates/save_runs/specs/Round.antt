-- SPDX-License-Identifier: Apache-2.0 AND BSD-3-Clause
-- What is saved can be restored, and saved again it gives the same text (R15.16).
use Rattle.std.specs.Prelude.{ℕ, ◌≤◌, ◌≡◌, Bool, true, false, List, length, take, Result, Ok}
use Rattle.bitmap.specs.Blocks.{blocks}
use Rattle.record.specs.declared.Device.{Device}
use Rattle.save.specs.declared.Fields.{Fields}
use Rattle.refusal.specs.declared.Refusal.{Refusal}
use Rattle.save.specs.Text.{Says}
use Rattle.save.specs.Writing.{blocks_for, is_short}
use Rattle.save.specs.Reading.{HoldsBlocks}
use Rattle.saving.specs.Saving.{fields_in, entry_refusal, Saves}
use Rattle.saving.specs.Restoring.{fits_on, restored_to, RestoresText}

-- a device and a bitmap that a state with the fields f may be laid on
pub record Fitting (d : Device) (bitmap : List ℕ) (f : Fields) : Type 0 where
  pub admitted : entry_refusal d ≡ Ok tt
  pub long : is_short (fields_in d) bitmap ≡ false
  pub fits : fits_on d (blocks bitmap) f ≡ true

-- the restore of this text on d, answered by r, was not refused
pub record ComesBack (text : List ℕ) (f : Fields) (bs : List Bool) (d : Device) (bitmap bitmap' : List ℕ) (r : Result Device Refusal) : Type 0 where
  pub laid : r ≡ Ok (restored_to f d)
  pub holds : HoldsBlocks bs bitmap bitmap'
  -- where the usable size is the form's, saving it again gives the same text, in any buffer with room for it
  pub again : d.config.usable_region_size ≡ f.usable → (before after : List ℕ) (w : Result ℕ Refusal) → length text ≤ length before
      → Saves (restored_to f d) bitmap' before after w → (w ≡ Ok (length text)) × (take (length text) after ≡ text)

-- what was written is the text of the device's fields and of the region's blocks, and comes back from any device that it fits
pub record Kept (d : Device) (bitmap text : List ℕ) : Type 0 where
  pub says : Says text (fields_in d) (blocks_for (fields_in d) bitmap)
  pub back : (e : Device) (under under' : List ℕ) (r : Result Device Refusal) → Fitting e under (fields_in d) → RestoresText e text under under' r
      → ComesBack text (fields_in d) (blocks_for (fields_in d) bitmap) e under under' r

-- of every device that was saved, with n bytes in a buffer
abbrev pub SavedIsKept : Type 0
SavedIsKept = (d : Device) (bitmap before after : List ℕ) (n : ℕ) → Saves d bitmap before after (Ok n) → Kept d bitmap (take n after)
