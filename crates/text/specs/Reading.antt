-- SPDX-License-Identifier: Apache-2.0 AND BSD-3-Clause
-- What reading a number does, step by step, on the text that is left. That it undoes writing, and nothing else, is proved in proofs/Laws.antt.
use Rattle.std.specs.Prelude.{ℕ, ◌+◌, ◌-◌, ◌*◌, Bool, cond, ◌&&◌, List, [], ◌∷◌, ltb, leb, length, drop, Option, Some, None}
use Rattle.text.specs.Decimal.{largest}
use Rattle.text.specs.declared.Number.{Number}

-- a number and the text after it, or nothing
pub data Got : Type 0 where
  got : ℕ → List ℕ → Got
  nothing : Got

-- a byte '0' to '9'
unfoldable pub is_digit : ℕ → Bool
is_digit x = leb 48 x && leb x 57

-- the digit that a text starts with, and 10 if it starts with none
unfoldable pub digit_of : List ℕ → ℕ
digit_of [] = 10
digit_of (x ∷ xs) = cond (is_digit x) (x - 48) 10

-- v, with the digits that follow
unfoldable pub more : ℕ → List ℕ → Got
more v [] = got v []
more v (x ∷ xs) = cond (is_digit x) (more (v * 10 + (x - 48)) xs) (got v (x ∷ xs))

-- a number without leading zeros: a 0 stands alone
unfoldable pub read_number : List ℕ → Got
read_number xs =
    cond (ltb 9 (digit_of xs)) nothing
    (cond (ltb 0 (digit_of xs)) (more (digit_of xs) (drop 1 xs))
    (cond (leb (digit_of (drop 1 xs)) 9) nothing (got 0 (drop 1 xs))))

-- a number that a word holds
unfoldable pub bounded : Got → Got
bounded nothing = nothing
bounded (got v rest) = cond (leb v largest) (got v rest) nothing

-- a number without leading zeros that a word holds
abbrev pub word_of : List ℕ → Got
word_of xs = bounded (read_number xs)

-- a number that was read, and where the text goes on after it
abbrev pub read_to : (value next : ℕ) → Option Number
read_to v n = Some (record { value = v; next = n })

-- the answer for what was got from the text s: the number, and the one position of s from which on just the rest is left
abbrev pub answer_in : List ℕ → Got → Option Number
answer_in s (got v rest) = read_to v (length s - length rest)
answer_in s nothing = None

-- the number at a position of the text s, and where s goes on after it
abbrev pub number_at : (s : List ℕ) (at : ℕ) → Option Number
number_at s at = answer_in s (word_of (drop at s))
