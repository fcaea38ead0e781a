-- SPDX-License-Identifier: Apache-2.0 AND BSD-3-Clause
-- A number as text: decimal, without leading zeros (R12.1).
use Rattle.std.specs.Prelude.{ℕ, zero, suc, ◌+◌, ◌-◌, ◌/◌, ◌%◌, ◌^◌, cond, List, [], ◌∷◌, ◌++◌, ltb}

-- the largest number that a word of 64 bits holds
abbrev pub largest : ℕ
largest = 2 ^ 64 - 1

-- the digits of n, which is at most k: the last digit, after those of n / 10 if n has more than one
unfoldable pub spell : (k n : ℕ) → List ℕ
spell zero n = (48 + n) ∷ []
spell (suc k) n = cond (ltb n 10) ((48 + n) ∷ []) (spell k (n / 10) ++ (48 + n % 10) ∷ [])

-- the text of n
unfoldable pub decimal : ℕ → List ℕ
decimal n = spell n n
