-- SPDX-License-Identifier: Apache-2.0 AND BSD-3-Clause
-- The old form (R15.8): a byte for each block, as `mem_state_map` of mem.rs holds it.
use Rattle.std.specs.Prelude.{ℕ, Bool, true, cond, ◌&&◌, List, [], ◌∷◌, leb, eqb}

-- a byte for each block
unfoldable pub old_of : List Bool → List ℕ
old_of [] = []
old_of (b ∷ bs) = cond b 1 0 ∷ old_of bs

-- no byte is above 1
unfoldable pub is_old : List ℕ → Bool
is_old [] = true
is_old (x ∷ xs) = leb x 1 && is_old xs

-- a block for each byte
unfoldable pub bits_of : List ℕ → List Bool
bits_of [] = []
bits_of (x ∷ xs) = eqb x 1 ∷ bits_of xs
