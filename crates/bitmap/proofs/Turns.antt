-- SPDX-License-Identifier: Apache-2.0 AND BSD-3-Clause
-- What one turn of a loop over the blocks does, where the loop stands at bit k of byte j, with `left` blocks to go; and a range by its parts.
use Rattle.std.specs.Prelude.{Some}
use Prim.Native.Nat.{ℕ, zero, suc, ◌+◌, ◌-◌, ◌*◌, ◌/◌, ◌%◌, ◌≤◌, ◌<◌}
use mathlib.Core.Path.{◌≡◌, refl, ap, ◌∙◌, sym}
use mathlib.Core.Bool.{Bool, true, false, not, ◌&&◌, beq}
use mathlib.Core.List.{List, [], ◌∷◌}
use native.Mathlib.Omega.{arith}
use lib.ListN.{length, get_or, set, length-set, get_or-eq_default}
use lib.Seq.{take-set-le, drop-set-lt, set-get_or}
use Rattle.bitmap.specs.Blocks.{low_bits, blocks, block_at, range, all_are, fill, first_from, Filled}
use Rattle.bitmap.specs.Whole.{whole}
use Rattle.bitmap.proofs.Laws.{low_length, blocks-length, at_inside, range_step, range_end, all_split, fill_none, fill_end, fill_split}
use Rattle.bitmap.proofs.Bits.{whole-fill}
use Rattle.bitmap.proofs.Bytes.{blocks_at, blocks-range, blocks_put, same_number}

-- the block at bit k of byte j
abbrev pub place : ℕ → ℕ → ℕ
place j k = 8 * j + k

-- the block after it, as the code steps to it
abbrev pub next : ℕ → ℕ → ℕ
next j k = place (j + (k + 1) / 8) ((k + 1) % 8)

pub start : (first : ℕ) → place (first / 8) (first % 8) ≡ first
start first = omega arith

pub at_place : (xs : List ℕ) (block : ℕ) → block / 8 < length xs → block_at (low_bits 8 (get_or xs (block / 8) 0)) (block % 8) ≡ block_at (blocks xs) block
at_place xs block h = sym (blocks_at xs (block / 8) (block % 8) h (omega arith)) ∙ ap (block_at (blocks xs)) (start block)

pub at_out : (xs : List ℕ) (block : ℕ) → length xs ≤ block / 8 → false ≡ block_at (blocks xs) block
at_out xs block h = sym (get_or-eq_default (blocks xs) false (omega (arith, blocks-length xs)))

-- ---- reading: the range that is left
module _ (xs : List ℕ) (j k left : ℕ) where
  pub range_out : length xs ≤ j → range (blocks xs) (place j k) left ≡ []
  range_out h = range_end (blocks xs) (place j k) left (omega (arith, blocks-length xs))

  -- b is what the code found at bit k of byte j
  pub range_turn : (b : Bool) → j < length xs → k < 8 → (left ≡ 0 → ⊥) → b ≡ block_at (low_bits 8 (get_or xs j 0)) k → range (blocks xs) (place j k) left ≡ b ∷ range (blocks xs) (next j k) (left - 1)
  range_turn b l u z q =
      let e : left ≡ suc (left - 1) = omega arith in
      let n : suc (place j k) ≡ next j k = omega arith in
      ap (range (blocks xs) (place j k)) e
      ∙ rw (range_step (blocks xs) (place j k) (left - 1) (omega (arith, blocks-length xs)), blocks_at xs j k l u, ← q, n)

-- ---- reading a range by its parts; b is what the code found of one
module _ (xs : List ℕ) (v : Bool) where
  -- n blocks of one byte
  pub all_here : (j k n : ℕ) (b : Bool) → j < length xs → k + n ≤ 8 → b ≡ all_are (low_bits 8 (get_or xs j 0)) k n v → b ≡ all_are (blocks xs) (place j k) n v
  all_here j k n b l u e = rw (blocks-range xs j k n l u) e

  -- n blocks, and the rest
  pub all_then : (f n c : ℕ) → n ≤ c → all_are (blocks xs) f c v ≡ (all_are (blocks xs) f n v && all_are (blocks xs) (f + n) (c - n) v)
  all_then f n c h = let e : c ≡ n + (c - n) = omega arith in ap (λ (t : ℕ). all_are (blocks xs) f t v) e ∙ all_split (blocks xs) f n (c - n) v

-- ---- a search: at the block that it looks for, at another, and past a byte that has none
pub first_hit : (v b : Bool) (at : ℕ) (bs : List Bool) → beq b v ≡ true → first_from v at (b ∷ bs) ≡ Some at
unfolding first_from
first_hit v b at bs e = rw e

pub first_miss : (v b : Bool) (at : ℕ) (bs : List Bool) → beq b v ≡ false → first_from v at (b ∷ bs) ≡ first_from v (suc at) bs
unfolding first_from
first_miss v b at bs e = rw e

beq-not : (v : Bool) → beq (not v) v ≡ false
beq-not true = refl
beq-not false = refl

-- the bits of the byte whose blocks are all v
whole_bit : (v : Bool) (i : ℕ) → i < 8 → block_at (low_bits 8 (whole v)) i ≡ v
whole_bit v i h = rw (whole-fill 0 v) (at_inside (low_bits 8 0) 0 8 v i (omega arith) (omega arith) (omega (arith, low_length 8 0)))

-- i blocks of a byte that has none are passed, and then all eight
module _ (v : Bool) (xs : List ℕ) (j left at : ℕ) (l : j < length xs) (e : get_or xs j 0 ≡ whole (not v)) (h : 8 ≤ left) where
  passed_to : (i : ℕ) → i ≤ 8 → first_from v at (range (blocks xs) (place j 0) left) ≡ first_from v (at + i) (range (blocks xs) (place j i) (left - i))
  passed_to zero u = let a : at + 0 ≡ at = omega arith in let z : left - 0 ≡ left = omega arith in rw (a, z)
  passed_to (suc i) u =
      let k : i < 8 = omega arith in
      let q : not v ≡ block_at (low_bits 8 (get_or xs j 0)) i = rw e (sym (whole_bit (not v) i k)) in
      let n : next j i ≡ place j (suc i) = omega arith in
      let a : suc (at + i) ≡ at + suc i = omega arith in
      let z : left - i - 1 ≡ left - suc i = omega arith in
      passed_to i (omega arith)
      ∙ ap (first_from v (at + i)) (range_turn xs j i (left - i) (not v) l k (λ w. omega arith) q)
      ∙ first_miss v (not v) (at + i) (range (blocks xs) (next j i) (left - i - 1)) (beq-not v)
      ∙ rw (n, z, ← a)

  pub byte_passed : first_from v at (range (blocks xs) (place j 0) left) ≡ first_from v (at + 8) (range (blocks xs) (place (j + 1) 0) (left - 8))
  byte_passed = let n : place j 8 ≡ place (j + 1) 0 = omega arith in rw n at (passed_to 8 (omega arith))

-- ---- writing a range by its parts: none, past the end, one after another, in one byte
pub filled_none : (xs : List ℕ) (f : ℕ) (v : Bool) → Filled xs xs f 0 v
filled_none xs f v =
    record {
      as_blocks = sym (fill_none (blocks xs) f v);
      outside = record { same_length = refl; same_before = λ n h. refl; same_past = λ n h. refl };
    }

pub filled_out : (xs : List ℕ) (f n : ℕ) (v : Bool) → 8 * length xs ≤ f → Filled xs xs f n v
filled_out xs f n v h =
    record {
      as_blocks = sym (fill_end (blocks xs) f n v (omega (arith, blocks-length xs)));
      outside = record { same_length = refl; same_before = λ m g. refl; same_past = λ m g. refl };
    }

pub filled_then : {xs ys zs : List ℕ} {f m n : ℕ} {v : Bool} → Filled xs ys f m v → Filled ys zs (f + m) n v → Filled xs zs f (m + n) v
filled_then {xs} {ys} {zs} {f} {m} {n} {v} p q =
    record {
      as_blocks = rw (fill_split (blocks xs) f m n v, ← p.as_blocks) q.as_blocks;
      outside = record {
        same_length = q.outside.same_length ∙ p.outside.same_length;
        same_before = λ i h. q.outside.same_before i (omega arith) ∙ p.outside.same_before i h;
        same_past = λ i h. q.outside.same_past i (omega arith) ∙ p.outside.same_past i (omega arith);
      };
    }

-- y is byte j with n bits, from bit k on, filled
pub filled_some : (xs : List ℕ) (j k n y : ℕ) (v : Bool)
    → low_bits 8 y ≡ fill (low_bits 8 (get_or xs j 0)) k n v → j < length xs → k + n ≤ 8 → 0 < n
    → Filled xs (set xs j y) (place j k) n v
filled_some xs j k n y v e l u p =
    record {
      as_blocks = blocks_put xs j k n y v l u e;
      outside = record {
        same_length = length-set xs j y;
        same_before = λ m h. take-set-le m xs j y (omega arith);
        same_past = λ m h. drop-set-lt m xs j y (omega arith);
      };
    }

-- .. or with none, and then it is the byte
pub filled_put : (xs : List ℕ) (j k n y : ℕ) (v : Bool)
    → low_bits 8 y ≡ fill (low_bits 8 (get_or xs j 0)) k n v → j < length xs → k + n ≤ 8 → get_or xs j 0 < 256 → y < 256
    → Filled xs (set xs j y) (place j k) n v
filled_put xs j k zero y v e l u p q =
    let s : set xs j y ≡ xs = rw (same_number 8 y (get_or xs j 0) q p (e ∙ fill_none (low_bits 8 (get_or xs j 0)) k v)) (set-get_or xs j 0) in
    rw s (filled_none xs (place j k) v)
filled_put xs j k (suc n) y v e l u p q = filled_some xs j k (suc n) y v e l u (omega arith)
