-- SPDX-License-Identifier: Apache-2.0 AND BSD-3-Clause
-- A form is a text in which # stands for a number.
use Rattle.std.specs.Prelude.{ℕ, suc, Bool, cond, List, [], ◌∷◌, ◌++◌, eqb, get_or}
use Rattle.text.specs.Decimal.{decimal}

-- the byte #
abbrev pub is_hole : ℕ → Bool
is_hole t = eqb t 35

-- how many numbers a form takes
unfoldable pub holes : List ℕ → ℕ
holes [] = 0
holes (t ∷ ts) = cond (is_hole t) (suc (holes ts)) (holes ts)

-- the form with the k-th number, and those after it, in its holes
unfoldable pub filled_from : ℕ → List ℕ → List ℕ → List ℕ
filled_from k [] vs = []
filled_from k (t ∷ ts) vs = cond (is_hole t) (decimal (get_or vs k 0) ++ filled_from (suc k) ts vs) (t ∷ filled_from k ts vs)

-- the form with numbers in its holes
abbrev pub filled : List ℕ → List ℕ → List ℕ
filled form vs = filled_from 0 form vs
