-- SPDX-License-Identifier: Apache-2.0 AND BSD-3-Clause
-- How answers come to be those of all lines of an input: a byte, a piece and an end at a time.
use Rattle.std.proofs.Common.{ℕ, List, [], ◌∷◌, ◌++◌, Option, None, Some, ◌≡◌, Bool, true, ◌==◌, ◌∙◌, refl, sym, append_assoc, arith, length, take, Result, Ok, Err, OnOk}
use Rattle.std.proofs.lemmas.Grind.{common_steps}
use Rattle.std.proofs.lemmas.Bool.{eqb-true}
use Rattle.std.proofs.lemmas.List.{append-nil}
use Rattle.std.specs.Prelude.{⊤}
use Rattle.std.specs.Io.KnownBytes.{Consumes, IsAtEnd}
use Rattle.line_input.specs.Lines.{last_of, lines_from, lines_of, Answers, AnswersInput, Goes}

-- no byte goes nowhere
pub goes_nowhere : (line : List ℕ) (old : Option (List (List ℕ))) → Goes line old [] line old
goes_nowhere line None = tt
goes_nowhere line (Some xs) = λ rest. refl

-- bytes, and then one more
pub goes_on : (line mid end : List ℕ) (old at new : Option (List (List ℕ))) (bs : List ℕ) (b : ℕ) → Goes line old bs mid at → Goes mid at (b ∷ []) end new → Goes line old (bs ++ b ∷ []) end new
goes_on line mid end None at new bs b first then = tt
goes_on line mid end (Some xs) None new bs b first then = absurd first
goes_on line mid end (Some xs) (Some ys) None bs b first then = then
goes_on line mid end (Some xs) (Some ys) (Some zs) bs b first then = λ rest. rw (then rest, first (b ∷ rest), append_assoc) refl

-- so much of an input is left, and with it the answers are those of the whole
abbrev pub Reached : Option (List ℕ) → Option (List (List ℕ)) → List ℕ → Option (List ℕ) → Option (List (List ℕ)) → Type 0
Reached None old line left new = ⊤
Reached (Some input) None line left new = ⊤
Reached (Some input) (Some old) line None new = ⊥
Reached (Some input) (Some old) line (Some left) None = ⊥
Reached (Some input) (Some old) line (Some left) (Some new) = new ++ lines_from line left ≡ old ++ lines_of input

pub reached_first : (input : Option (List ℕ)) (old : Option (List (List ℕ))) (line : List ℕ) → line ≡ [] → Reached input old line input old
reached_first None old line e = tt
reached_first (Some xs) None line e = tt
reached_first (Some xs) (Some ls) line e = rw e refl

pub reached_next : (input : Option (List ℕ)) (old : Option (List (List ℕ))) (line line' : List ℕ) (left left' : Option (List ℕ)) (at new flushed : Option (List (List ℕ))) (bs : List ℕ) → Reached input old line left at → Consumes left left' bs → Goes line at bs line' new → Answers new flushed [] → Reached input old line' left' flushed
reached_next None old line line' left left' at new flushed bs r c g f = tt
reached_next (Some xs) None line line' left left' at new flushed bs r c g f = tt
reached_next (Some xs) (Some ls) line line' None left' at new flushed bs r c g f = absurd r
reached_next (Some xs) (Some ls) line line' (Some ys) left' None new flushed bs r c g f = absurd r
reached_next (Some xs) (Some ls) line line' (Some ys) None (Some ms) new flushed bs r c g f = c
reached_next (Some xs) (Some ls) line line' (Some ys) (Some zs) (Some ms) None flushed bs r c g f = absurd g
reached_next (Some xs) (Some ls) line line' (Some ys) (Some zs) (Some ms) (Some ns) None bs r c g f = f
reached_next (Some xs) (Some ls) line line' (Some ys) (Some zs) (Some ms) (Some ns) (Some os) bs r c g f = let g' = g zs in grind (arith, common_steps)

pub reached_end : (input : Option (List ℕ)) (old : Option (List (List ℕ))) (line : List ℕ) (left left' : Option (List ℕ)) (at new : Option (List (List ℕ))) (n : ℕ) (buf : List ℕ) → n ≡ 0 → Reached input old line left at → Consumes left left' (take n buf) → IsAtEnd left' → Answers at new (last_of line) → AnswersInput input old new
reached_end None old line left left' at new n buf z r c e f = tt
reached_end (Some xs) None line left left' at new n buf z r c e f = tt
reached_end (Some xs) (Some ls) line None left' at new n buf z r c e f = absurd r
reached_end (Some xs) (Some ls) line (Some ys) left' None new n buf z r c e f = absurd r
reached_end (Some xs) (Some ls) line (Some ys) None (Some ms) new n buf z r c e f = absurd c
reached_end (Some xs) (Some ls) line (Some ys) (Some zs) (Some ms) None n buf z r c e f = f
reached_end (Some xs) (Some ls) line (Some ys) (Some zs) (Some ms) (Some ns) n buf z r c e f =
    let none_taken : take n buf ≡ [] = rw z refl in
    let none_left : ys ≡ [] = rw (c, none_taken, e) refl in
    let reached : ms ++ last_of line ≡ ls ++ lines_of xs = rw none_left at r in
    cc

-- at the end of a line that has just begun, nothing is answered
nothing_left : (line : List ℕ) (old : Option (List (List ℕ))) → length line ≡ 0 → Answers old old (last_of line)
nothing_left line None e = tt
nothing_left [] (Some ls) e = sym (append-nil ls)
nothing_left (b ∷ line) (Some ls) e = absurd (omega arith)

-- where a test says that none of it was read
pub none_left : (line : List ℕ) (old : Option (List (List ℕ))) (is_empty : Bool) (n : ℕ) → is_empty ≡ (n == 0) → is_empty ≡ true → length line ≡ n → Answers old old (last_of line)
none_left line old is_empty n means says e = let zero : n ≡ 0 = eqb-true n 0 (sym means ∙ says) in nothing_left line old (omega arith)

-- what follows of an answer, where there is one
pub on_ok : {A E P Q : Type 0} (r : Result A E) → (P → Q) → OnOk r P → OnOk r Q
on_ok (Ok x) then p = then p
on_ok (Err e) then p = tt
