-- SPDX-License-Identifier: Apache-2.0 AND BSD-3-Clause
-- What is saved can be restored, and saved again it gives the same text: by the laws of the crate `saving`.
use Rattle.std.specs.Prelude.{Result}
use Prim.Native.Nat.{ℕ}
use mathlib.Core.Bool.{Bool}
use mathlib.Core.List.{List}
use Rattle.record.specs.declared.Device.{Device}
use Rattle.save.specs.declared.Fields.{Fields}
use Rattle.save.specs.Text.{Says}
use Rattle.refusal.specs.declared.Refusal.{Refusal}
use Rattle.saving.specs.Restoring.{TakenOn, RestoresText}
use Rattle.saving.proofs.Round.{saved_says, is_laid, saved_again}
use Rattle.save_runs.specs.Round.{Fitting, ComesBack, SavedIsKept}

-- the text of any state comes back
comes_back : (text : List ℕ) (f : Fields) (bs : List Bool) → Says text f bs → (d : Device) (bitmap bitmap' : List ℕ) (r : Result Device Refusal)
    → Fitting d bitmap f → RestoresText d text bitmap bitmap' r → ComesBack text f bs d bitmap bitmap' r
comes_back text f bs s d bitmap bitmap' r h p =
    let t : TakenOn d text bitmap f bs = record { long = h.long; says = s; fits = h.fits } in
    let l = is_laid d text bitmap bitmap' f bs h.admitted t r p in
    record { laid = l.0; holds = l.1; again = λ u. saved_again d text bitmap bitmap' f bs h.admitted t u l.1 }

pub saved_is_kept : SavedIsKept
saved_is_kept d bitmap before after n s =
    let says = saved_says d bitmap before after n s in
    record { says = says; back = comes_back _ _ _ says }
