-- SPDX-License-Identifier: Apache-2.0 AND BSD-3-Clause
-- Each promise leaves one outcome.
use Rattle.std.specs.Prelude.{Result, Ok, Err}
use Prim.Native.Nat.{ℕ, ◌<◌}
use mathlib.Core.Path.{◌≡◌, ap, ◌∙◌, sym}
use mathlib.Core.Bool.{Bool, not, ◌&&◌}
use mathlib.Core.List.{List, ◌++◌}
use lib.ListN.{length, drop, get_or}
use Rattle.units.proofs.Tests.{by_test}
use Rattle.save.specs.declared.Fields.{Fields}
use Rattle.refusal.specs.declared.Refusal.{Refusal}
use Rattle.save.specs.Writing.{written_on}
use Rattle.save.specs.Reading.{AtMost, no_room}
use Rattle.save.proofs.Once.{holds_once, takes_once}
use Rattle.old_form.specs.Old.{old_of, bits_of}
use Rattle.old_form.specs.Moves.{old_ok, new_text, ToNew, ToOld}

-- the bytes of the scratch are below 256, as its type says
module _ (scratch xs ys : List ℕ) (p : (i : ℕ) → get_or xs i 0 < 256) (q : (i : ℕ) → get_or ys i 0 < 256) where
  pub to_new_once : (f : Fields) (old out us vs : List ℕ) (a b : Result ℕ Refusal) → ToNew f old scratch xs out us a → ToNew f old scratch ys out vs b
      → (a ≡ b) × (xs ≡ ys) × (us ≡ vs)
  to_new_once f old out us vs a b x y =
      let e : a ≡ b = x.answer ∙ sym y.answer in (
        e,
        by_test (not (no_room scratch) && old_ok f old)
            (λ t. holds_once (bits_of old) scratch xs ys p q (x.packed t) (y.packed t))
            (λ t. x.untouched t ∙ sym (y.untouched t)),
        x.buffer ∙ ap (λ (r : Result ℕ Refusal). written_on r (new_text f old) out) e ∙ sym y.buffer,
      )

  pub to_old_once : (s old us vs : List ℕ) (a b : Result Fields Refusal) → ToOld s scratch xs old us a → ToOld s scratch ys old vs b → (a ≡ b) × (xs ≡ ys) × (us ≡ vs)
  to_old_once s old us vs (Ok f) (Ok g) x y =
      let o = takes_once (no_room scratch) (AtMost (length old)) s f g x.0 y.0 x.1 y.1 in (
        ap Ok o.0,
        holds_once x.0 scratch xs ys p q x.2 (rw o.1 y.2),
        x.3 ∙ ap (λ (bs : List Bool). old_of bs ++ drop (length bs) old) o.1 ∙ sym y.3,
      )
  to_old_once s old us vs (Ok f) (Err k) x y = absurd (y.0.none f x.0 x.1)
  to_old_once s old us vs (Err k) (Ok g) x y = absurd (x.0.none g y.0 y.1)
  to_old_once s old us vs (Err k) (Err l) x y =
      (ap Err (x.0.why_is ∙ sym y.0.why_is), x.1 ∙ sym y.1, x.2 ∙ sym y.2)
