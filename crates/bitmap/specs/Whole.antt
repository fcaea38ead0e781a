-- SPDX-License-Identifier: Apache-2.0 AND BSD-3-Clause
-- Bytes whose blocks are all in one state: a step inside the code, on which no public promise rests.
use Rattle.std.specs.Prelude.{ℕ, zero, suc, ◌+◌, ◌*◌, Bool, true, false}

-- the byte whose eight blocks are v
unfoldable pub whole : Bool → ℕ
whole true = 255
whole false = 0

-- the number of n such bytes
unfoldable pub wholes : ℕ → Bool → ℕ
wholes zero v = 0
wholes (suc n) v = whole v + 256 * wholes n v
