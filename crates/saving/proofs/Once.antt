-- SPDX-License-Identifier: Apache-2.0 AND BSD-3-Clause
-- Each promise leaves one outcome.
use Rattle.std.specs.Prelude.{Result, Ok, Err}
use Prim.Native.Nat.{ℕ, ◌<◌}
use mathlib.Core.Path.{◌≡◌, ap, ◌∙◌, sym}
use mathlib.Core.List.{List}
use lib.ListN.{get_or}
use Rattle.record.specs.declared.Device.{Device}
use Rattle.save.specs.declared.Fields.{Fields}
use Rattle.refusal.specs.declared.Refusal.{Refusal}
use Rattle.save.specs.Writing.{text_in, is_short, written_on}
use Rattle.save.proofs.Once.{holds_once, takes_once}
use Rattle.saving.specs.Saving.{fields_in, Saves}
use Rattle.saving.specs.Restoring.{restored_to, Fits, RestoresText}

pub saves_once : (d : Device) (bitmap before xs ys : List ℕ) (a b : Result ℕ Refusal) → Saves d bitmap before xs a → Saves d bitmap before ys b → (a ≡ b) × (xs ≡ ys)
saves_once d bitmap before xs ys a b x y =
    let e : a ≡ b = x.answer ∙ sym y.answer in
    (e, x.buffer ∙ ap (λ (r : Result ℕ Refusal). written_on r (text_in (fields_in d) bitmap) before) e ∙ sym y.buffer)

-- the bytes of a bitmap are below 256, as its type says
pub restores_once : (d : Device) (s before xs ys : List ℕ) (a b : Result Device Refusal) → ((i : ℕ) → get_or xs i 0 < 256) → ((i : ℕ) → get_or ys i 0 < 256)
    → RestoresText d s before xs a → RestoresText d s before ys b → (a ≡ b) × (xs ≡ ys)
restores_once d s before xs ys (Ok d') (Ok e') p q x y =
    let o = takes_once (is_short (fields_in d) before) (Fits d before) s x.fields y.fields x.bs y.bs x.taken y.taken in (
      ap Ok (x.device ∙ ap (λ (f : Fields). restored_to f d) o.0 ∙ sym y.device),
      holds_once x.bs before xs ys p q x.bitmap (rw o.1 y.bitmap),
    )
restores_once d s before xs ys (Ok d') (Err k) p q x y = absurd (y.none x.admitted x.fields x.bs x.taken)
restores_once d s before xs ys (Err k) (Ok e') p q x y = absurd (x.none y.admitted y.fields y.bs y.taken)
restores_once d s before xs ys (Err k) (Err l) p q x y = (ap Err (x.why_is ∙ sym y.why_is), x.same ∙ sym y.same)
