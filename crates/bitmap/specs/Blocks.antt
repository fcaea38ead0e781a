-- SPDX-License-Identifier: Apache-2.0 AND BSD-3-Clause
-- What a packed bitmap means: a list of truth values, one for each block, block 0 first, true where the block is plugged.
-- Only `low_bits`, `blocks`, `Outside` and `Filled` speak of bytes: every other definition is on that list. A block exists if it is in the list: what lies past the end is in no range (R8.2).
use Rattle.std.specs.Prelude.{ℕ, zero, suc, ◌+◌, ◌-◌, ◌*◌, ◌/◌, ◌%◌, ◌≤◌, ◌≡◌, Bool, true, false, cond, ◌&&◌, List, [], ◌∷◌, ◌++◌, eqb, length, get_or, take, drop, Option, Some, None}
use Rattle.std.specs.Bool.{beq}

-- the n lowest bits of x, the lowest first
unfoldable pub low_bits : (n x : ℕ) → List Bool
low_bits zero x = []
low_bits (suc n) x = eqb (x % 2) 1 ∷ low_bits n (x / 2)

-- R8.1: block 8j+k is bit k of byte j
unfoldable pub blocks : List ℕ → List Bool
blocks [] = []
blocks (x ∷ xs) = low_bits 8 x ++ blocks xs

-- block i; past the end none is plugged (R8.2)
abbrev pub block_at : List Bool → ℕ → Bool
block_at bs i = get_or bs i false

-- those of the `count` blocks from `first` on that exist: skip(first).take(count)
abbrev pub range : List Bool → (first count : ℕ) → List Bool
range bs first count = take count (drop first bs)

-- every one is v
unfoldable pub every : Bool → List Bool → Bool
every v [] = true
every v (b ∷ bs) = beq b v && every v bs

-- each block of a range that exists is in the state v
abbrev pub all_are : List Bool → (first count : ℕ) → Bool → Bool
all_are bs first count v = every v (range bs first count)

-- how many are set
unfoldable pub ones : List Bool → ℕ
ones [] = zero
ones (true ∷ bs) = suc (ones bs)
ones (false ∷ bs) = ones bs

-- the blocks, with each that exists of a range put in the state v
unfoldable pub fill : List Bool → (first count : ℕ) → Bool → List Bool
fill [] first count v = []
fill (b ∷ bs) (suc first) count v = b ∷ fill bs first count v
fill (b ∷ bs) zero zero v = b ∷ bs
fill (b ∷ bs) zero (suc count) v = v ∷ fill bs zero count v

-- the place of the first block in the state v, where the first of the list is block i
unfoldable pub first_from : Bool → ℕ → List Bool → Option ℕ
first_from v i [] = None
first_from v i (b ∷ bs) = cond (beq b v) (Some i) (first_from v (suc i) bs)

-- the lowest block in the state v that exists from `from` up to, not including, `end`
abbrev pub next_in_state : Bool → List Bool → (from end : ℕ) → Option ℕ
next_in_state v bs from end = first_from v from (range bs from (end - from))

abbrev pub next_set : List Bool → (from end : ℕ) → Option ℕ
next_set bs from end = next_in_state true bs from end

abbrev pub next_clear : List Bool → (from end : ℕ) → Option ℕ
next_clear bs from end = next_in_state false bs from end

-- R2.11: the lent bytes at entry and at exit differ in no byte that lies wholly outside the blocks from `first` to `end`
pub record Outside (entry exit : List ℕ) (first end : ℕ) : Type 0 where
  pub same_length : length exit ≡ length entry
  pub same_before : (n : ℕ) → 8 * n ≤ first → take n exit ≡ take n entry
  pub same_past : (n : ℕ) → end ≤ 8 * n → drop n exit ≡ drop n entry

-- `count` blocks from `first` on were put in the state v, and nothing else was touched
pub record Filled (entry exit : List ℕ) (first count : ℕ) (v : Bool) : Type 0 where
  pub as_blocks : blocks exit ≡ fill (blocks entry) first count v
  pub outside : Outside entry exit first (first + count)
