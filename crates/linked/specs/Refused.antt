-- SPDX-License-Identifier: Apache-2.0 AND BSD-3-Clause
-- A refused export changes nothing (R19.8): whatever is lent to it, in a run or not, a number other than 0 and 10 means that every lent word and byte but the answer's is as it was.
use Rattle.std.specs.Prelude.{ℕ, ◌<◌, ◌≡◌, Bool, true, false, List, get_or}
use Rattle.linked.specs.Runs.{Function, jambcopper_place, jambcopper_set_requested_size, jambcopper_request, jambcopper_host_answer, jambcopper_read_config, jambcopper_write_config, Use, Promised}

-- the numbers are bytes, as the type of a bitmap says
abbrev pub AreBytes : List ℕ → Type 0
AreBytes xs = (i : ℕ) → get_or xs i 0 < 256

-- placing and a size change are lent no bytes
unfoldable pub lends_bytes : Function → Bool
lends_bytes (jambcopper_place start size slots) = false
lends_bytes (jambcopper_set_requested_size mib) = false
lends_bytes (jambcopper_request base descriptors head) = true
lends_bytes (jambcopper_host_answer base ok host) = true
lends_bytes (jambcopper_read_config offset) = true
lends_bytes (jambcopper_write_config offset) = true

pub record UseUntouched (u : Use) : Type 0 where
  pub same_words : u.after.words ≡ u.before.words
  pub same_bitmap : u.after.slices.bitmap ≡ u.before.slices.bitmap
  pub same_table : u.after.slices.table ≡ u.before.slices.table
  pub same_bytes : lends_bytes u.function ≡ true → u.after.slices.bytes ≡ u.before.slices.bytes

abbrev pub RefusedExportChangesNothing : Type 0
RefusedExportChangesNothing = (u : Use) → AreBytes u.before.slices.bitmap → AreBytes u.after.slices.bitmap → Promised u → (u.number ≡ 0 → ⊥) → (u.number ≡ 10 → ⊥) → UseUntouched u
