-- SPDX-License-Identifier: Apache-2.0 AND BSD-3-Clause
-- `refusals::put_waits` meets its contract: what is pending and no creation is a discard.
use mathlib.Core.Path.{◌≡◌, refl}
use Prim.Native.Nat.{ℕ}
use Rattle.record.specs.declared.Device.{Device}
use Rattle.record.specs.declared.Pending.{Pending}
use Rattle.record.specs.declared.Pending.TheVariants.{Nothing, Create, Discard, DiscardOne}
use Rattle.spans.specs.declared.Span.{Span}
use Rattle.refusals.specs.Refusals.{waits_discard, waits_for}
use Rattle.refusals.proofs.put_waits.Goals as goal

is_discard : (p : Pending) (s : Span) (d : Device) → (p ≡ Nothing → ⊥) → ((i last : ℕ) → p ≡ Create i last → ⊥) → waits_for p s d ≡ waits_discard s
unfolding waits_for
is_discard Nothing s d n m = absurd (n refl)
is_discard (Create i last) s d n m = absurd (m i last refl)
is_discard (Discard first count status) s d n m = refl
is_discard (DiscardOne block status) s d n m = refl

pub returns-in_default : goal.returns-in_default
returns-in_default c =
    rw (is_discard _ _ c.args.d c.in_default.not-Nothing c.in_default.not-Create, ← c.pending_span.ensures) c.put_form_at-in_default.ensures
