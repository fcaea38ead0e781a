-- SPDX-License-Identifier: Apache-2.0 AND BSD-3-Clause
-- Each promise leaves one outcome.
use Prim.Native.Nat.{ℕ}
use mathlib.Core.Path.{◌≡◌, sym, ◌∙◌}
use mathlib.Core.Bool.{Bool}
use mathlib.Core.List.{List}
use Rattle.driver.proofs.Once.{response_once, config_once}
use Rattle.driver_words.specs.Told.{WordsOrRefusal, ToldWords, ResponseTold, ConfigTold, PlanTold}

told_once : {n : ℕ} {g : WordsOrRefusal} {words xs ys : List ℕ} {r s : ℕ} → ToldWords n g words xs r → ToldWords n g words ys s → (r ≡ s) × (xs ≡ ys)
told_once a b = (a.numbered ∙ sym b.numbered, a.written ∙ sym b.written)

pub response_told_once : (bytes words xs ys : List ℕ) (r s : ℕ) → ResponseTold bytes words xs r → ResponseTold bytes words ys s → (r ≡ s) × (xs ≡ ys)
response_told_once bytes words xs ys r s a b =
    told_once a.told (rw (response_once bytes b.got a.got b.reads a.reads) at b.told)

pub config_told_once : (bytes words xs ys : List ℕ) (r s : ℕ) → ConfigTold bytes words xs r → ConfigTold bytes words ys s → (r ≡ s) × (xs ≡ ys)
config_told_once bytes words xs ys r s a b =
    told_once a.told (rw (config_once bytes b.got a.got b.reads a.reads) at b.told)

pub plan_told_once : (bytes : List ℕ) (bs : List Bool) (words xs ys : List ℕ) (r s : ℕ) → PlanTold bytes bs words xs r → PlanTold bytes bs words ys s
    → (r ≡ s) × (xs ≡ ys)
plan_told_once bytes bs words xs ys r s a b =
    told_once a.told (rw (config_once bytes b.got a.got b.reads a.reads) at b.told)
