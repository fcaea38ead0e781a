-- SPDX-License-Identifier: Apache-2.0 AND BSD-3-Clause
-- What is told of what was read: its words by `map`, and 16 of bytes that are no text, or where there is no room.
use Rattle.std.specs.Prelude.{Result, Ok, Err, MatchResult, IsOkAnd}
use Prim.Native.Nat.{ℕ, ◌<◌}
use mathlib.Core.Path.{◌≡◌, ap}
use mathlib.Core.List.{List}
use lib.Dec.{leb}
use lib.ListN.{length}
use borrow.Author.Tests.{lt-leb}
use Rattle.units.proofs.Tests.{by_test}
use Rattle.refusal.specs.declared.Refusal.{Refusal}
use Rattle.refusal.specs.declared.Refusal.TheVariants.{BadBytes}
use Rattle.driver_words.specs.Told.{WordsOrRefusal, ToldWords, told_as}

pub told_by : {V : Type 0} (words : V → List ℕ) (read : Result V Refusal) (told : WordsOrRefusal)
    → MatchResult read (λ v. IsOkAnd told (λ ws. ws ≡ words v)) (λ why. told ≡ Err why) → told ≡ told_as words read
told_by words (Ok v) (Ok ws) k = ap Ok k
told_by words (Ok v) (Err why) k = absurd k
told_by words (Err why) told k = k

pub no_text : (n : ℕ) (words : List ℕ) → ToldWords n (Err BadBytes) words words 16
no_text n words = by_test (leb n (length words)) (λ t. record { numbered = simp t; written = simp t }) (λ t. record { numbered = simp t; written = simp t })

pub no_room : (n : ℕ) (g : WordsOrRefusal) (words : List ℕ) → length words < n → ToldWords n g words words 16
no_room n g words few = let t = lt-leb n (length words) few in record { numbered = rw t; written = rw t }
