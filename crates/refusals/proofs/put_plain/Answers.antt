-- SPDX-License-Identifier: Apache-2.0 AND BSD-3-Clause
-- `refusals::put_plain` meets its contract: what is none of the seven is told by its number.
use mathlib.Core.Path.{◌≡◌, refl}
use Rattle.refusal.specs.declared.Refusal.{Refusal}
use Rattle.refusal.specs.declared.Refusal.TheVariants.{WrongSize, CapacityTooLarge, WrongRange, WrongStart, NotPlaced, AlreadyPlaced, CallPending, NothingPending, HostPastTop, CreationFailed, TooShort, NoShape, BadLine, RingOutside, RingOverfull, BadBytes, NothingToPlug, NoState, LaterForm}
use Rattle.refusal.specs.Refusal.{number}
use Rattle.refusals.specs.Refusals.{other, plain_text}
use Rattle.refusals.proofs.put_plain.Goals as goal

module _ (r : Refusal) where
  abbrev Not : Refusal → Type 0
  Not other = r ≡ other → ⊥

by_number : (r : Refusal) → Not r WrongRange → Not r NotPlaced → Not r AlreadyPlaced → Not r NothingPending → Not r TooShort → Not r NoShape
    → Not r BadLine → plain_text (number r) ≡ other (number r)
unfolding plain_text
by_number WrongSize a b c d e f g = refl
by_number CapacityTooLarge a b c d e f g = refl
by_number WrongRange a b c d e f g = absurd (a refl)
by_number WrongStart a b c d e f g = refl
by_number NotPlaced a b c d e f g = absurd (b refl)
by_number AlreadyPlaced a b c d e f g = absurd (c refl)
by_number CallPending a b c d e f g = refl
by_number NothingPending a b c d e f g = absurd (d refl)
by_number HostPastTop a b c d e f g = refl
by_number CreationFailed a b c d e f g = refl
by_number TooShort a b c d e f g = absurd (e refl)
by_number NoShape a b c d e f g = absurd (f refl)
by_number BadLine a b c d e f g = absurd (g refl)
by_number RingOutside a b c d e f g = refl
by_number RingOverfull a b c d e f g = refl
by_number BadBytes a b c d e f g = refl
by_number NothingToPlug a b c d e f g = refl
by_number NoState a b c d e f g = refl
by_number LaterForm a b c d e f g = refl

pub returns-in_default : goal.returns-in_default
returns-in_default c =
    let w = c.in_default in
    rw (by_number c.args.refusal w.not-WrongRange w.not-NotPlaced w.not-AlreadyPlaced w.not-NothingPending w.not-TooShort w.not-NoShape w.not-BadLine, ← c.number.ensures)
    c.put_form_at-in_default.ensures
