-- SPDX-License-Identifier: Apache-2.0 AND BSD-3-Clause
-- What restoring promises: where a text may be laid, and what that leaves (R15.13, R15.14).
use Rattle.std.specs.Prelude.{ℕ, ◌≡◌, Bool, true, false, cond, ◌&&◌, List, eqb, leb, ⊤, Result, Ok, Err}
use Rattle.units.specs.Numbers.{blocks_in}
use Rattle.bitmap.specs.Blocks.{blocks, all_are}
use Rattle.record.specs.declared.Device.{Device}
use Rattle.record.specs.Changes.{requested_to, plugged_to}
use Rattle.save.specs.declared.Fields.{Fields}
use Rattle.save.specs.Writing.{is_short}
use Rattle.save.specs.Reading.{HoldsBlocks, Takes, refusal_of}
use Rattle.refusal.specs.declared.Refusal.{Refusal}
use Rattle.refusal.specs.declared.Refusal.TheVariants as refusal
use Rattle.saving.specs.Saving.{fields_in, entry_refusal}

-- R15.13: a state with the fields f may be laid on the device d, whose bitmap has the blocks bs
unfoldable pub fits_on : Device → (bs : List Bool) → Fields → Bool
fits_on d bs f =
    let c = d.config in
    d.placed && (eqb f.start c.addr.0 && (eqb f.region c.region_size
    && (leb f.usable c.usable_region_size && (eqb c.plugged_size 0
    && all_are bs 0 (blocks_in c.block_size c.region_size) false))))

-- R15.14: no other field changes
abbrev pub restored_to : Fields → Device → Device
restored_to f d = plugged_to f.plugged (requested_to f.requested d)

abbrev pub Fits : Device → (bitmap : List ℕ) → Fields → List Bool → Type 0
Fits d bitmap f bs = fits_on d (blocks bitmap) f ≡ true

-- s is the text of a state that may be laid here
abbrev pub TakenOn : Device → (s bitmap : List ℕ) → Fields → List Bool → Type 0
TakenOn d s bitmap f bs = Takes (is_short (fields_in d) bitmap) (Fits d bitmap) s f bs

-- why a record is turned away; or why a text is
abbrev pub first_of : Result ⊤ Refusal → Refusal → Refusal
first_of (Ok admitted) why = why
first_of (Err why) other = why

-- R15.13: 12, 7, 11, 19, 18
unfoldable pub restore_refusal : Device → (s bitmap : List ℕ) → Refusal
restore_refusal d s bitmap = first_of (entry_refusal d) (cond (is_short (fields_in d) bitmap) refusal.TooShort (refusal_of s))

-- a state was laid: what it says, where it was taken, the record and the bitmap
pub record Restoring (d : Device) (s before after : List ℕ) (d' : Device) : Type 0 where
  pub fields : Fields
  pub bs : List Bool
  pub admitted : entry_refusal d ≡ Ok tt
  pub taken : TakenOn d s before fields bs
  pub device : d' ≡ restored_to fields d
  pub bitmap : HoldsBlocks bs before after

-- nothing was laid, since there is no state to lay
pub record NotRestoring (d : Device) (s before after : List ℕ) (why : Refusal) : Type 0 where
  pub why_is : why ≡ restore_refusal d s before
  pub none : entry_refusal d ≡ Ok tt → (f : Fields) (bs : List Bool) → TakenOn d s before f bs → ⊥
  pub same : after ≡ before

abbrev pub RestoresText : Device → (s before after : List ℕ) → Result Device Refusal → Type 0
RestoresText d s before after (Ok d') = Restoring d s before after d'
RestoresText d s before after (Err why) = NotRestoring d s before after why
