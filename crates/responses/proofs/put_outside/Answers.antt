-- SPDX-License-Identifier: Apache-2.0 AND BSD-3-Clause
-- `responses::put_outside` meets its contract: what is none of the first five is told as a range that ends past the usable end.
use mathlib.Core.Path.{◌≡◌, refl}
use Rattle.record.specs.declared.Device.{Device}
use Rattle.change.specs.declared.Reason.{Reason}
use Rattle.change.specs.declared.Reason.TheVariants.{Alignment, ZeroBlocks, Overflow, BelowStart, PastUsable, EndPastUsable, WrongState, CrossesBorder, Unmapped, SumPasses, FailedDiscard}
use Rattle.spans.specs.declared.Span.{Span}
use Rattle.responses.specs.Responses.{ends_past_usable, outside_text}
use Rattle.responses.proofs.put_outside.Goals as goal

ends_past : (r : Reason) (s : Span) (d : Device) → (r ≡ Alignment → ⊥) → (r ≡ ZeroBlocks → ⊥) → (r ≡ Overflow → ⊥) → (r ≡ BelowStart → ⊥)
    → (r ≡ PastUsable → ⊥) → outside_text r s d ≡ ends_past_usable s d
unfolding outside_text
ends_past Alignment s d a b c e f = absurd (a refl)
ends_past ZeroBlocks s d a b c e f = absurd (b refl)
ends_past Overflow s d a b c e f = absurd (c refl)
ends_past BelowStart s d a b c e f = absurd (e refl)
ends_past PastUsable s d a b c e f = absurd (f refl)
ends_past EndPastUsable s d a b c e f = refl
ends_past WrongState s d a b c e f = refl
ends_past CrossesBorder s d a b c e f = refl
ends_past Unmapped s d a b c e f = refl
ends_past SumPasses s d a b c e f = refl
ends_past FailedDiscard s d a b c e f = refl

pub returns-in_default : goal.returns-in_default
returns-in_default c =
    let w = c.in_default in
    rw (ends_past c.args.why c.args.s c.args.d w.not-Alignment w.not-ZeroBlocks w.not-Overflow w.not-BelowStart w.not-PastUsable, ← c.saturating_add.ensures)
    c.put_form_at-in_default.ensures
