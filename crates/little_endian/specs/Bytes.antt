-- SPDX-License-Identifier: Apache-2.0 AND BSD-3-Clause
-- Numbers as bytes, lowest byte first, and bytes written at a place.
use Rattle.std.specs.Prelude.{ℕ, zero, suc, ◌+◌, ◌*◌, ◌/◌, ◌%◌, List, [], ◌∷◌, take, drop, set}

-- R7.1: the number that bytes mean
unfoldable pub value : List ℕ → ℕ
value [] = 0
value (b ∷ bs) = b + 256 * value bs

-- R7.1: the n bytes of v
unfoldable pub little_endian : (n v : ℕ) → List ℕ
little_endian zero v = []
little_endian (suc n) v = v % 256 ∷ little_endian n (v / 256)

-- R7.8: the n bytes of xs from `at` on, fewer where xs ends
unfoldable pub part : (xs : List ℕ) (at n : ℕ) → List ℕ
part xs at n = take n (drop at xs)

-- R7.8: xs with ys written from `at` on; what would pass the end is dropped
unfoldable pub put : (xs : List ℕ) (at : ℕ) (ys : List ℕ) → List ℕ
put xs at [] = xs
put xs at (y ∷ ys) = put (set xs at y) (suc at) ys
