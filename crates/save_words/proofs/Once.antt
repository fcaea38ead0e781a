-- SPDX-License-Identifier: Apache-2.0 AND BSD-3-Clause
-- Each promise leaves one outcome, bytes included: the number, and what stands in each lent slice.
use Rattle.record.specs.declared.Device.{Device}
use Rattle.std.specs.Prelude.{Option, Some, None, Result}
use Prim.Native.Nat.{ℕ, ◌<◌}
use mathlib.Core.Path.{◌≡◌, ap, ◌∙◌, sym}
use mathlib.Core.Bool.{Bool, true, false, ◌&&◌}
use mathlib.Core.List.{List}
use lib.Dec.{leb}
use lib.ListN.{length, get_or}
use Rattle.words.specs.Record.{decoded_of}
use Rattle.save.specs.declared.Fields.{Fields}
use Rattle.refusal.specs.declared.Refusal.{Refusal}
use Rattle.saving.proofs.Once.{restores_once}
use Rattle.old_form.proofs.Once.{to_new_once, to_old_once}
use Rattle.save_words.specs.Told.{fields_from, WroteTold, SaveTold, restored_number, restored_words, RestoresFrom, RestoreTold, NewIf, ToNewTold, got_number, got_words, OldIf, ToOldTold}

pub wrote_told_once : (w : Result ℕ Refusal) (len us vs : List ℕ) (m n : ℕ) → WroteTold w len us m → WroteTold w len vs n → (m ≡ n) × (us ≡ vs)
wrote_told_once w len us vs m n x y = (x.numbered ∙ sym y.numbered, x.told ∙ sym y.told)

pub save_told_once : (words bitmap text len xs ys us vs : List ℕ) (m n : ℕ) → SaveTold words bitmap text xs len us m → SaveTold words bitmap text ys len vs n
    → (m ≡ n) × (xs ≡ ys) × (us ≡ vs)
save_told_once words bitmap text len xs ys us vs m n x y =
    let o = wrote_told_once _ len us vs m n x.told y.told in (o.0, x.buffer ∙ sym y.buffer, o.1)

-- the bytes of a bitmap are below 256, as its type says
module _ (bitmap xs ys : List ℕ) (p : (i : ℕ) → get_or xs i 0 < 256) (q : (i : ℕ) → get_or ys i 0 < 256) where
  laid_once : (r : Option Device) (text words us vs : List ℕ) (m n : ℕ) → RestoresFrom r text words us bitmap xs m → RestoresFrom r text words vs bitmap ys n → (m ≡ n) × (us ≡ vs) × (xs ≡ ys)
  unfolding RestoresFrom
  laid_once (Some d) text words us vs m n x y =
      let o = restores_once d text bitmap xs ys x.answer y.answer p q x.restores y.restores in (
        x.numbered ∙ ap (λ (r : Result Device Refusal). restored_number r) o.0 ∙ sym y.numbered,
        x.recorded ∙ ap (λ (r : Result Device Refusal). restored_words r words) o.0 ∙ sym y.recorded,
        o.1,
      )
  laid_once None text words us vs m n x y =
      (x.numbered ∙ sym y.numbered, x.recorded ∙ sym y.recorded, x.marked ∙ sym y.marked)

  pub restore_told_once : (text words us vs : List ℕ) (m n : ℕ) → RestoreTold text words us bitmap xs m → RestoreTold text words vs bitmap ys n → (m ≡ n) × (us ≡ vs) × (xs ≡ ys)
  restore_told_once text words us vs m n x y = laid_once (decoded_of words) text words us vs m n x y

  new_once : (b : Bool) (f : Fields) (old text us vs len ks ls : List ℕ) (m n : ℕ) → NewIf b f old bitmap xs text us len ks m → NewIf b f old bitmap ys text vs len ls n
      → (m ≡ n) × (xs ≡ ys) × (us ≡ vs) × (ks ≡ ls)
  unfolding NewIf
  new_once true f old text us vs len ks ls m n x y =
      let o = to_new_once bitmap xs ys p q f old text us vs x.answer y.answer x.moves y.moves in
      let w = wrote_told_once x.answer len ks ls m n x.told (rw o.0 y.told) in
      (w.0, o.1, o.2, w.1)
  new_once false f old text us vs len ks ls m n x y =
      (x.numbered ∙ sym y.numbered, x.scratch_same ∙ sym y.scratch_same, x.bytes_same ∙ sym y.bytes_same, x.words_same ∙ sym y.words_same)

  pub to_new_told_once : (fields old text us vs len ks ls : List ℕ) (m n : ℕ) → ToNewTold fields old bitmap xs text us len ks m → ToNewTold fields old bitmap ys text vs len ls n
      → (m ≡ n) × (xs ≡ ys) × (us ≡ vs) × (ks ≡ ls)
  to_new_told_once fields old text us vs len ks ls m n x y =
      new_once (leb 6 (length fields) && leb 1 (length len)) (fields_from fields) old text us vs len ks ls m n x y

  old_once : (b : Bool) (text old us vs fields ks ls : List ℕ) (m n : ℕ) → OldIf b text bitmap xs old us fields ks m → OldIf b text bitmap ys old vs fields ls n
      → (m ≡ n) × (xs ≡ ys) × (us ≡ vs) × (ks ≡ ls)
  unfolding OldIf
  old_once true text old us vs fields ks ls m n x y =
      let o = to_old_once bitmap xs ys p q text old us vs x.answer y.answer x.moves y.moves in (
        x.numbered ∙ ap (λ (g : Result Fields Refusal). got_number g) o.0 ∙ sym y.numbered,
        o.1,
        o.2,
        x.told ∙ ap (λ (g : Result Fields Refusal). got_words g fields) o.0 ∙ sym y.told,
      )
  old_once false text old us vs fields ks ls m n x y =
      (x.numbered ∙ sym y.numbered, x.scratch_same ∙ sym y.scratch_same, x.bytes_same ∙ sym y.bytes_same, x.words_same ∙ sym y.words_same)

  pub to_old_told_once : (text old us vs fields ks ls : List ℕ) (m n : ℕ) → ToOldTold text bitmap xs old us fields ks m → ToOldTold text bitmap ys old vs fields ls n
      → (m ≡ n) × (xs ≡ ys) × (us ≡ vs) × (ks ≡ ls)
  to_old_told_once text old us vs fields ks ls m n x y = old_once (leb 6 (length fields)) text old us vs fields ks ls m n x y
