-- SPDX-License-Identifier: Apache-2.0 AND BSD-3-Clause
-- The ways that a call ends in: no room, no record, a refusal, or what it gives.
use Rattle.std.specs.Prelude.{Option, Some, None, Result, Ok, Err}
use Prim.Native.Nat.{ℕ, ◌≤◌, ◌<◌}
use mathlib.Core.Path.{◌≡◌, refl, ◌∙◌, sym}
use mathlib.Core.List.{List, [], ◌∷◌}
use lib.ListN.{length}
use borrow.Author.Tests.{le-leb, lt-leb}
use Rattle.little_endian.specs.Bytes.{put}
use Rattle.record.specs.declared.Device.{Device}
use Rattle.words.specs.Record.{words_of, decoded_of}
use Rattle.save.specs.declared.Fields.{Fields}
use Rattle.refusal.specs.declared.Refusal.{Refusal}
use Rattle.refusal.specs.declared.Refusal.TheVariants as refusal
use Rattle.refusal.specs.Refusal as law
use Rattle.refusal.specs.Refusal.{number}
use Rattle.save.specs.Writing.{text_in}
use Rattle.saving.specs.Saving.{fields_in, saved_length, Saves}
use Rattle.saving.specs.Restoring.{RestoresText}
use Rattle.old_form.specs.Moves.{ToNew, ToOld}
use Rattle.save_words.specs.Told.{fields_from, fields_words, WroteTold, on_record, length_from, saved_from, text_from, SaveTold, RestoresFrom, RestoreTold, NewIf, ToNewTold, OldIf, ToOldTold}

-- ---- `tell_wrote`

pub told_number : (w : Result ℕ Refusal) (len : List ℕ) (why : Refusal) (n : ℕ) → w ≡ Err why → n ≡ law.number why → WroteTold w len len n
told_number w len why n e k = rw e (record { numbered = k; told = refl })

pub told_length : (w : Result ℕ Refusal) (len len' : List ℕ) (n : ℕ) → w ≡ Ok n → len' ≡ put len 0 (n ∷ []) → WroteTold w len len' 0
told_length w len len' n e p = rw e (record { numbered = refl; told = p })

-- the numbers of the refusals that are decided here
no_state : {n : ℕ} → n ≡ law.number refusal.NoState → n ≡ 18
no_state e = e

no_shape : {n : ℕ} → n ≡ law.number refusal.NoShape → n ≡ 12
no_shape e = e

-- ---- `tell_save_length` and `tell_save`

module _ (words bitmap len : List ℕ) where
  pub length_no_room : length len < 1 → (n : ℕ) → n ≡ law.number refusal.NoState → WroteTold (length_from words bitmap len) len len n
  length_no_room h n k = let t = lt-leb 1 (length len) h in rw t (record { numbered = k; told = refl })

  pub save_no_room : (text : List ℕ) → length len < 1 → (n : ℕ) → n ≡ law.number refusal.NoState → SaveTold words bitmap text text len len n
  save_no_room text h n k = let t = lt-leb 1 (length len) h in record { told = rw t (record { numbered = k; told = refl }); buffer = rw t }

  module _ (h : 1 ≤ length len) (r : Option Device) (e : r ≡ decoded_of words) where
    pub length_foreign : r ≡ None → (n : ℕ) → n ≡ law.number refusal.NoShape → WroteTold (length_from words bitmap len) len len n
    unfolding on_record
    length_foreign q n o = let t = le-leb 1 (length len) h in let k = sym e ∙ q in rw (t, k) (record { numbered = o; told = refl })

    pub save_foreign : (text : List ℕ) → r ≡ None → (n : ℕ) → n ≡ law.number refusal.NoShape → SaveTold words bitmap text text len len n
    unfolding on_record
    save_foreign text q n o =
        let t = le-leb 1 (length len) h in
        let k = sym e ∙ q in
        record { told = rw (t, k) (record { numbered = o; told = refl }); buffer = rw (t, k) }

    module _ (d : Device) (q : r ≡ Some d) (w : Result ℕ Refusal) (len' : List ℕ) (number : ℕ) (o : WroteTold w len len' number) where
      pub length_told : w ≡ saved_length d bitmap → WroteTold (length_from words bitmap len) len len' number
      unfolding on_record
      length_told p =
          let t = le-leb 1 (length len) h in
          let k = sym e ∙ q in
          let same : length_from words bitmap len ≡ w = rw (t, k) (sym p) in
          rw same o

      pub save_told : (text text' : List ℕ) → Saves d bitmap text text' w → SaveTold words bitmap text text' len len' number
      unfolding on_record text_from
      save_told text text' s =
          let t = le-leb 1 (length len) h in
          let k = sym e ∙ q in
          let same : saved_from words bitmap text len ≡ w = rw (t, k) (sym s.answer) in
          let words_are : text_from (decoded_of words) bitmap ≡ text_in (fields_in d) bitmap = rw k in
          record { told = rw same o; buffer = rw (same, words_are) s.buffer }

-- ---- `tell_restore`

module _ (text words bitmap : List ℕ) (r : Option Device) (e : r ≡ decoded_of words) where
  pub restore_foreign : r ≡ None → (n : ℕ) → n ≡ law.number refusal.NoShape → RestoreTold text words words bitmap bitmap n
  unfolding RestoresFrom
  restore_foreign q n o = let k = sym e ∙ q in rw k (record { numbered = no_shape o; recorded = refl; marked = refl })

  module _ (d : Device) (q : r ≡ Some d) (bitmap' : List ℕ) (a : Result Device Refusal) (h : RestoresText d text bitmap bitmap' a) where
    pub restore_refused : (why : Refusal) (n : ℕ) → a ≡ Err why → n ≡ law.number why → RestoreTold text words words bitmap bitmap' n
    unfolding RestoresFrom
    restore_refused why n p o = let k = sym e ∙ q in rw k (record { answer = a; restores = h; numbered = rw p o; recorded = rw p })

    pub restore_laid : (d' : Device) → a ≡ Ok d' → (words' : List ℕ) → words' ≡ put words 0 (words_of d') → RestoreTold text words words' bitmap bitmap' 0
    unfolding RestoresFrom
    restore_laid d' p words' w = let k = sym e ∙ q in rw k (record { answer = a; restores = h; numbered = rw p; recorded = rw p w })

-- ---- `tell_new`

module _ (fields old scratch text len : List ℕ) where
  pub no_fields : length fields < 6 → (n : ℕ) → n ≡ law.number refusal.NoState → ToNewTold fields old scratch scratch text text len len n
  unfolding NewIf
  no_fields h n o = let t = lt-leb 6 (length fields) h in rw t (record { numbered = no_state o; scratch_same = refl; bytes_same = refl; words_same = refl })

  pub no_length : 6 ≤ length fields → length len < 1 → (n : ℕ) → n ≡ law.number refusal.NoState → ToNewTold fields old scratch scratch text text len len n
  unfolding NewIf
  no_length h l n o =
      let t = le-leb 6 (length fields) h in
      let u = lt-leb 1 (length len) l in
      rw (t, u) (record { numbered = no_state o; scratch_same = refl; bytes_same = refl; words_same = refl })

  pub new_told : 6 ≤ length fields → 1 ≤ length len → (f : Fields) → f ≡ fields_from fields → (scratch' text' len' : List ℕ) (w : Result ℕ Refusal) (number : ℕ)
      → ToNew f old scratch scratch' text text' w → WroteTold w len len' number → ToNewTold fields old scratch scratch' text text' len len' number
  unfolding NewIf
  new_told h l f g scratch' text' len' w number m o =
      let t = le-leb 6 (length fields) h in
      let u = le-leb 1 (length len) l in
      rw (t, u) (record { answer = w; moves = rw g at m; told = o })

-- ---- `tell_old`

module _ (text scratch old fields : List ℕ) where
  pub old_no_room : length fields < 6 → (n : ℕ) → n ≡ law.number refusal.NoState → ToOldTold text scratch scratch old old fields fields n
  unfolding OldIf
  old_no_room h n o = let t = lt-leb 6 (length fields) h in rw t (record { numbered = no_state o; scratch_same = refl; bytes_same = refl; words_same = refl })

  module _ (h : 6 ≤ length fields) (scratch' old' : List ℕ) (g : Result Fields Refusal) (m : ToOld text scratch scratch' old old' g) where
    pub old_refused : (why : Refusal) (n : ℕ) → g ≡ Err why → n ≡ law.number why → ToOldTold text scratch scratch' old old' fields fields n
    unfolding OldIf
    old_refused why n e o = let t = le-leb 6 (length fields) h in rw t (record { answer = g; moves = m; numbered = rw e o; told = rw e })

    pub old_told : (f : Fields) → g ≡ Ok f → (fields' : List ℕ) → fields' ≡ put fields 0 (fields_words f) → ToOldTold text scratch scratch' old old' fields fields' 0
    unfolding OldIf
    old_told f e fields' w = let t = le-leb 6 (length fields) h in rw t (record { answer = g; moves = m; numbered = rw e; told = rw e w })
