-- SPDX-License-Identifier: Apache-2.0 AND BSD-3-Clause
-- The lines of an input, and what answering them all means.
use Rattle.std.specs.Prelude.{◌≡◌, ◌==◌, ℕ, List, [], ◌∷◌, ◌++◌, ⊤, length, nat_lt, if◌then◌else◌, Option, None, Some}

-- a line at one more byte: what passes 201 bytes is dropped
abbrev pub kept : List ℕ → ℕ → List ℕ
kept line b = if nat_lt (length line) 201 then line ++ b ∷ [] else line

-- the line that lacks its newline, if there is one
abbrev pub last_of : List ℕ → List (List ℕ)
last_of [] = []
last_of (b ∷ line) = (b ∷ line) ∷ []

-- R12.11: the lines of an input of which a line's first bytes were read: each ends at a newline, and the last may lack it
abbrev pub lines_from : List ℕ → List ℕ → List (List ℕ)
lines_from line [] = last_of line
lines_from line (b ∷ rest) = if b == 10 then line ∷ lines_from [] rest else lines_from (kept line b) rest

-- the lines of a whole input
abbrev pub lines_of : List ℕ → List (List ℕ)
lines_of input = lines_from [] input

-- known answers grow by these lines
abbrev pub Answers : Option (List (List ℕ)) → Option (List (List ℕ)) → List (List ℕ) → Type 0
Answers None new lines = ⊤
Answers (Some old) None lines = ⊥
Answers (Some old) (Some new) lines = new ≡ old ++ lines

-- known answers grow by the lines of an input, where that is known
abbrev pub AnswersInput : Option (List ℕ) → Option (List (List ℕ)) → Option (List (List ℕ)) → Type 0
AnswersInput None old new = ⊤
AnswersInput (Some input) old new = Answers old new (lines_of input)

-- bytes take a line's begin and the lines answered before them to others: with whatever follows, the lines are the same
abbrev pub Goes : List ℕ → Option (List (List ℕ)) → List ℕ → List ℕ → Option (List (List ℕ)) → Type 0
Goes line None bytes line' new = ⊤
Goes line (Some old) bytes line' None = ⊥
Goes line (Some old) bytes line' (Some new) = (rest : List ℕ) → new ++ lines_from line' rest ≡ old ++ lines_from line (bytes ++ rest)
