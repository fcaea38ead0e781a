-- SPDX-License-Identifier: Apache-2.0 AND BSD-3-Clause
-- The laws of `specs/Blocks.antt` that a caller cites. By the first word of a law's name:
--     blocks-     of bytes: how many blocks they have, and those of a part of them
--     range-      a range: one block at a time, past the end, in two parts, one of its blocks, its length, in the first n blocks
--     every-      a list all in one state, in two parts
--     all-        a range all in one state: in two parts, one of its blocks, after a fill
--     fill-       a fill: the length, nothing to do, past the end, in two parts, over a fill, inside, before and after its range, where nothing changes, of all blocks
--     at-         one block after a fill: inside, before and after its range
--     ones-       counting: in two parts, after a fill, none, all, of a plug and an unplug
--     take-       the first n blocks, after a fill
--     next-       the next set block: what it is, that there is none, going on from where a search stopped, what a search reads
use Rattle.std.specs.Prelude.{Some, None}
use Prim.Native.Nat.{ℕ, zero, suc, ◌+◌, ◌-◌, ◌*◌, ◌/◌, ◌≤◌, ◌<◌, zero-le, min}
use mathlib.Core.Path.{◌≡◌, refl, ap, ◌∙◌, sym}
use mathlib.Core.Bool.{Bool, true, false, ◌&&◌, beq, and_assoc, not}
use mathlib.Core.List.{List, [], ◌∷◌, ◌++◌}
use mathlib.Core.Logic.{◌⊎◌, inl, inr, ⊎_elim}
use native.Mathlib.Nat.{zero-add, add-zero, suc-add, le_of_suc-le-suc, not-suc-le-zero}
use native.Mathlib.Omega.{arith}
use lib.ListN.{length, take, drop, replicate, length-append, length-take, length-drop, drop_of_length-le, get_or-eq_default}
use lib.Seq.{get_or-take, get_or-drop, take-take, drop-cons, take-nil, drop-nil, take-add, take-append-add, drop-append-add, drop-drop}
use Rattle.bitmap.specs.Blocks.{low_bits, blocks, block_at, range, every, all_are, ones, fill, first_from, next_in_state, next_set}

lt_or_ge : (a b : ℕ) → (a < b) ⊎ (b ≤ a)
lt_or_ge a zero = inr zero-le
lt_or_ge zero (suc b) = inl (omega arith)
lt_or_ge (suc a) (suc b) = ⊎_elim (λ p. inl (omega arith)) (λ q. inr (omega arith)) (lt_or_ge a b)

-- ---- the blocks of bytes: eight a byte
pub low_length : (n x : ℕ) → length (low_bits n x) ≡ n
unfolding low_bits
low_length zero x = refl
low_length (suc n) x = ap suc (low_length n (x / 2))

pub blocks-length : (xs : List ℕ) → length (blocks xs) ≡ 8 * length xs
unfolding blocks
blocks-length [] = refl
blocks-length (x ∷ xs) = rw (length-append (low_bits 8 x) (blocks xs), low_length 8 x, blocks-length xs) (omega arith)

pub blocks-take : (n : ℕ) (xs : List ℕ) → blocks (take n xs) ≡ take (8 * n) (blocks xs)
unfolding blocks
blocks-take zero xs = refl
blocks-take (suc n) [] = sym (take-nil (8 * suc n))
blocks-take (suc n) (x ∷ xs) =
    let e : 8 * suc n ≡ length (low_bits 8 x) + 8 * n = omega (arith, low_length 8 x) in
    rw (e, take-append-add (low_bits 8 x) (blocks xs) (8 * n), blocks-take n xs)

pub blocks-drop : (n : ℕ) (xs : List ℕ) → blocks (drop n xs) ≡ drop (8 * n) (blocks xs)
unfolding blocks
blocks-drop zero xs = refl
blocks-drop (suc n) [] = sym (drop-nil (8 * suc n))
blocks-drop (suc n) (x ∷ xs) =
    let e : 8 * suc n ≡ length (low_bits 8 x) + 8 * n = omega (arith, low_length 8 x) in
    rw (e, drop-append-add (low_bits 8 x) (blocks xs) (8 * n), blocks-drop n xs)

-- ---- a range, one block at a time and in two parts
pub range_step : (bs : List Bool) (f c : ℕ) → f < length bs → range bs f (suc c) ≡ block_at bs f ∷ range bs (suc f) c
range_step bs f c h = rw (drop-cons bs f false)

pub range_end : (bs : List Bool) (f c : ℕ) → length bs ≤ f → range bs f c ≡ []
range_end bs f c h = rw (drop_of_length-le bs h) (take-nil c)

pub range_split : (bs : List Bool) (f k m : ℕ) → range bs f (k + m) ≡ range bs f k ++ range bs (f + k) m
range_split bs f k m = simp (take-add, drop-drop)

pub range_at : (bs : List Bool) (f c i : ℕ) → f ≤ i → i < f + c → block_at (range bs f c) (i - f) ≡ block_at bs i
range_at bs f c i p q =
    let e : f + (i - f) ≡ i = omega arith in
    get_or-take c (drop f bs) (i - f) false (omega arith) ∙ get_or-drop f bs (i - f) false ∙ ap (block_at bs) e

pub range_length : (bs : List Bool) (f c : ℕ) → length (range bs f c) ≡ min c (length bs - f)
range_length bs f c = simp (length-take, length-drop)

pub every_append : (v : Bool) (a b : List Bool) → every v (a ++ b) ≡ (every v a && every v b)
unfolding every
every_append v [] b = refl
every_append v (x ∷ a) b = rw (every_append v a b) (sym (and_assoc (beq x v) (every v a) (every v b)))

ones_append : (a b : List Bool) → ones (a ++ b) ≡ ones a + ones b
unfolding ones
ones_append [] b = sym (zero-add (ones b))
ones_append (true ∷ a) b = rw (ones_append a b) (omega arith)
ones_append (false ∷ a) b = ones_append a b

pub all_split : (bs : List Bool) (f k m : ℕ) (v : Bool) → all_are bs f (k + m) v ≡ (all_are bs f k v && all_are bs (f + k) m v)
all_split bs f k m v = rw range_split (every_append v (range bs f k) (range bs (f + k) m))

pub ones_split : (bs : List Bool) (f k m : ℕ) → ones (range bs f (k + m)) ≡ ones (range bs f k) + ones (range bs (f + k) m)
ones_split bs f k m = rw range_split (ones_append (range bs f k) (range bs (f + k) m))

-- one block of a range that is all in one state
every_at : (v : Bool) (bs : List Bool) (i : ℕ) → every v bs ≡ true → i < length bs → block_at bs i ≡ v
unfolding every
every_at v [] i e h = absurd (omega arith)
every_at true (true ∷ bs) zero e h = refl
every_at false (false ∷ bs) zero e h = refl
every_at true (false ∷ bs) i e h = absurd (let z : ◌≡◌ {A = ℕ} 0 1 = cc in omega arith)
every_at false (true ∷ bs) i e h = absurd (let z : ◌≡◌ {A = ℕ} 0 1 = cc in omega arith)
every_at true (true ∷ bs) (suc i) e h = every_at true bs i e (omega arith)
every_at false (false ∷ bs) (suc i) e h = every_at false bs i e (omega arith)

pub all_at : (bs : List Bool) (f c : ℕ) (v : Bool) (i : ℕ) → all_are bs f c v ≡ true → f ≤ i → i < f + c → i < length bs → block_at bs i ≡ v
all_at bs f c v i e p q h =
    sym (range_at bs f c i p q) ∙ every_at v (range bs f c) (i - f) e (omega (arith, range_length bs f c))

-- and a block that is set is a range of one block that is all set
pub one_set : (bs : List Bool) (i : ℕ) → block_at bs i ≡ true → all_are bs i 1 true ≡ true
unfolding every
one_set [] i e = absurd (let z : ◌≡◌ {A = ℕ} 0 1 = cc in omega arith)
one_set (true ∷ bs) zero e = refl
one_set (false ∷ bs) zero e = absurd (let z : ◌≡◌ {A = ℕ} 0 1 = cc in omega arith)
one_set (b ∷ bs) (suc i) e = one_set bs i e

-- of clear blocks none need exist
pub all_clear_at : (bs : List Bool) (f c i : ℕ) → all_are bs f c false ≡ true → f ≤ i → i < f + c → block_at bs i ≡ false
all_clear_at bs f c i e p q =
    ⊎_elim (λ h. all_at bs f c false i e p q h) (λ h. get_or-eq_default bs false h) (lt_or_ge i (length bs))

-- ---- filling: the length, nothing, past the end, in two parts
pub fill_length : (bs : List Bool) (f c : ℕ) (v : Bool) → length (fill bs f c v) ≡ length bs
unfolding fill
fill_length [] f c v = refl
fill_length (b ∷ bs) (suc f) c v = ap suc (fill_length bs f c v)
fill_length (b ∷ bs) zero zero v = refl
fill_length (b ∷ bs) zero (suc c) v = ap suc (fill_length bs zero c v)

pub fill_none : (bs : List Bool) (f : ℕ) (v : Bool) → fill bs f 0 v ≡ bs
unfolding fill
fill_none [] f v = refl
fill_none (b ∷ bs) (suc f) v = rw (fill_none bs f v)
fill_none (b ∷ bs) zero v = refl

pub fill_end : (bs : List Bool) (f c : ℕ) (v : Bool) → length bs ≤ f → fill bs f c v ≡ bs
unfolding fill
fill_end [] f c v h = refl
fill_end (b ∷ bs) (suc f) c v h = rw (fill_end bs f c v (le_of_suc-le-suc h))
fill_end (b ∷ bs) zero zero v h = refl
fill_end (b ∷ bs) zero (suc c) v h = absurd (not-suc-le-zero h)

pub fill_split : (bs : List Bool) (f k m : ℕ) (v : Bool) → fill bs f (k + m) v ≡ fill (fill bs f k v) (f + k) m v
unfolding fill
fill_split [] f k m v = refl
fill_split (b ∷ bs) (suc f) k m v = rw (suc-add f k, fill_split bs f k m v)
fill_split (b ∷ bs) zero zero m v = rw (zero-add m)
fill_split (b ∷ bs) zero (suc k) m v = rw (suc-add k m, zero-add (suc k), fill_split bs zero k m v, zero-add k)

-- a fill over a fill
pub fill_over : (bs : List Bool) (f c : ℕ) (u v : Bool) → fill (fill bs f c u) f c v ≡ fill bs f c v
unfolding fill
fill_over [] f c u v = refl
fill_over (b ∷ bs) (suc f) c u v = rw (fill_over bs f c u v)
fill_over (b ∷ bs) zero zero u v = refl
fill_over (b ∷ bs) zero (suc c) u v = rw (fill_over bs zero c u v)

-- filling in the first of two lists, and past it
pub fill_left : (a b : List Bool) (k n : ℕ) (v : Bool) → k + n ≤ length a → fill (a ++ b) k n v ≡ fill a k n v ++ b
unfolding fill
fill_left [] b k n v h = let z : n ≡ 0 = omega arith in rw z (fill_none b k v)
fill_left (x ∷ a) b (suc k) n v h = rw (fill_left a b k n v (omega arith))
fill_left (x ∷ a) b zero zero v h = refl
fill_left (x ∷ a) b zero (suc n) v h = rw (fill_left a b zero n v (omega arith))

pub fill_right : (a b : List Bool) (k n : ℕ) (v : Bool) → fill (a ++ b) (length a + k) n v ≡ a ++ fill b k n v
unfolding fill
fill_right [] b k n v = rw zero-add
fill_right (x ∷ a) b k n v = rw (suc-add, fill_right a b k n v)

-- ---- what a fill leaves in its range, and what it leaves alone
pub fill_inside : (bs : List Bool) (f c : ℕ) (v : Bool) → range (fill bs f c v) f c ≡ replicate (length (range bs f c)) v
unfolding fill
fill_inside [] f c v = rw (range_end [] f c zero-le)
fill_inside (b ∷ bs) (suc f) c v = fill_inside bs f c v
fill_inside (b ∷ bs) zero zero v = refl
fill_inside (b ∷ bs) zero (suc c) v = rw (fill_inside bs zero c v)

pub fill_before : (bs : List Bool) (f c : ℕ) (v : Bool) (g d : ℕ) → g + d ≤ f → range (fill bs f c v) g d ≡ range bs g d
unfolding fill
fill_before [] f c v g d h = refl
fill_before (b ∷ bs) (suc f) c v (suc g) d h = fill_before bs f c v g d (omega arith)
fill_before (b ∷ bs) (suc f) c v zero zero h = refl
fill_before (b ∷ bs) (suc f) c v zero (suc d) h = rw (fill_before bs f c v zero d (omega arith))
fill_before (b ∷ bs) zero c v (suc g) d h = absurd (omega arith)
fill_before (b ∷ bs) zero c v zero zero h = refl
fill_before (b ∷ bs) zero c v zero (suc d) h = absurd (omega arith)

pub fill_after : (bs : List Bool) (f c : ℕ) (v : Bool) (g d : ℕ) → f + c ≤ g → range (fill bs f c v) g d ≡ range bs g d
unfolding fill
fill_after [] f c v g d h = refl
fill_after (b ∷ bs) (suc f) c v (suc g) d h = fill_after bs f c v g d (omega arith)
fill_after (b ∷ bs) (suc f) c v zero d h = absurd (omega arith)
fill_after (b ∷ bs) zero zero v g d h = refl
fill_after (b ∷ bs) zero (suc c) v (suc g) d h = fill_after bs zero c v g d (omega arith)
fill_after (b ∷ bs) zero (suc c) v zero d h = absurd (omega arith)

-- the same of one block
pub at_inside : (bs : List Bool) (f c : ℕ) (v : Bool) (i : ℕ) → f ≤ i → i < f + c → i < length bs → block_at (fill bs f c v) i ≡ v
unfolding fill
at_inside [] f c v i p q h = absurd (omega arith)
at_inside (b ∷ bs) (suc f) c v (suc i) p q h = at_inside bs f c v i (omega arith) (omega arith) (omega arith)
at_inside (b ∷ bs) (suc f) c v zero p q h = absurd (omega arith)
at_inside (b ∷ bs) zero zero v i p q h = absurd (omega arith)
at_inside (b ∷ bs) zero (suc c) v (suc i) p q h = at_inside bs zero c v i (omega arith) (omega arith) (omega arith)
at_inside (b ∷ bs) zero (suc c) v zero p q h = refl

pub at_before : (bs : List Bool) (f c : ℕ) (v : Bool) (i : ℕ) → i < f → block_at (fill bs f c v) i ≡ block_at bs i
unfolding fill
at_before [] f c v i h = refl
at_before (b ∷ bs) (suc f) c v (suc i) h = at_before bs f c v i (omega arith)
at_before (b ∷ bs) (suc f) c v zero h = refl
at_before (b ∷ bs) zero c v i h = absurd (omega arith)

pub at_after : (bs : List Bool) (f c : ℕ) (v : Bool) (i : ℕ) → f + c ≤ i → block_at (fill bs f c v) i ≡ block_at bs i
unfolding fill
at_after [] f c v i h = refl
at_after (b ∷ bs) (suc f) c v (suc i) h = at_after bs f c v i (omega arith)
at_after (b ∷ bs) (suc f) c v zero h = absurd (omega arith)
at_after (b ∷ bs) zero zero v i h = refl
at_after (b ∷ bs) zero (suc c) v (suc i) h = at_after bs zero c v i (omega arith)
at_after (b ∷ bs) zero (suc c) v zero h = absurd (omega arith)

-- ---- counting
pub ones_filled : (bs : List Bool) (f c : ℕ) → ones (fill bs f c true) + ones (range bs f c) ≡ ones bs + length (range bs f c)
unfolding fill ones
ones_filled [] f c = rw (range_end [] f c zero-le)
ones_filled (true ∷ bs) (suc f) c = omega (arith, ones_filled bs f c)
ones_filled (false ∷ bs) (suc f) c = ones_filled bs f c
ones_filled (true ∷ bs) zero zero = refl
ones_filled (false ∷ bs) zero zero = refl
ones_filled (true ∷ bs) zero (suc c) = omega (arith, ones_filled bs zero c)
ones_filled (false ∷ bs) zero (suc c) = omega (arith, ones_filled bs zero c)

pub ones_cleared : (bs : List Bool) (f c : ℕ) → ones (fill bs f c false) + ones (range bs f c) ≡ ones bs
unfolding fill ones
ones_cleared [] f c = rw (range_end [] f c zero-le)
ones_cleared (true ∷ bs) (suc f) c = omega (arith, ones_cleared bs f c)
ones_cleared (false ∷ bs) (suc f) c = ones_cleared bs f c
ones_cleared (true ∷ bs) zero zero = omega arith
ones_cleared (false ∷ bs) zero zero = omega arith
ones_cleared (true ∷ bs) zero (suc c) = omega (arith, ones_cleared bs zero c)
ones_cleared (false ∷ bs) zero (suc c) = ones_cleared bs zero c

-- a plugged block, cleared, is one less
pub ones_one : (bs : List Bool) (i : ℕ) → block_at bs i ≡ true → suc (ones (fill bs i 1 false)) ≡ ones bs
unfolding fill ones
ones_one [] i e = absurd (let z : ◌≡◌ {A = ℕ} 0 1 = cc in omega arith)
ones_one (true ∷ bs) zero e = rw (fill_none bs 0 false)
ones_one (false ∷ bs) zero e = absurd (let z : ◌≡◌ {A = ℕ} 0 1 = cc in omega arith)
ones_one (true ∷ bs) (suc i) e = ap suc (ones_one bs i e)
ones_one (false ∷ bs) (suc i) e = ones_one bs i e

pub ones_none : (bs : List Bool) → every false bs ≡ true → ones bs ≡ 0
unfolding every ones
ones_none [] h = refl
ones_none (true ∷ bs) h = let z : ◌≡◌ {A = ℕ} 0 1 = cc in absurd (omega arith)
ones_none (false ∷ bs) h = ones_none bs h

pub ones_all : (bs : List Bool) → every true bs ≡ true → ones bs ≡ length bs
unfolding every ones
ones_all [] h = refl
ones_all (true ∷ bs) h = ap suc (ones_all bs h)
ones_all (false ∷ bs) h = let z : ◌≡◌ {A = ℕ} 0 1 = cc in absurd (omega arith)

pub ones-length : (bs : List Bool) → ones bs ≤ length bs
unfolding ones
ones-length [] = omega arith
ones-length (true ∷ bs) = omega (arith, ones-length bs)
ones-length (false ∷ bs) = omega (arith, ones-length bs)

-- what a plug adds and an unplug takes away
pub ones_plugged : (bs : List Bool) (f c : ℕ) → f + c ≤ length bs → all_are bs f c false ≡ true → ones (fill bs f c true) ≡ ones bs + c
ones_plugged bs f c h e = omega (arith, ones_filled bs f c, ones_none (range bs f c) e, range_length bs f c)

pub ones_unplugged : (bs : List Bool) (f c : ℕ) → f + c ≤ length bs → all_are bs f c true ≡ true → ones (fill bs f c false) + c ≡ ones bs
ones_unplugged bs f c h e = omega (arith, ones_cleared bs f c, ones_all (range bs f c) e, range_length bs f c)

-- ---- the same: all of a range that was filled is in that state; a range in that state already is left as it is
every-replicate : (n : ℕ) (v : Bool) → every v (replicate n v) ≡ true
unfolding every
every-replicate zero v = refl
every-replicate (suc n) true = every-replicate n true
every-replicate (suc n) false = every-replicate n false

pub all_filled : (bs : List Bool) (f c : ℕ) (v : Bool) → all_are (fill bs f c v) f c v ≡ true
all_filled bs f c v = rw (fill_inside bs f c v) (every-replicate (length (range bs f c)) v)

pub fill_same : (bs : List Bool) (f c : ℕ) (v : Bool) → all_are bs f c v ≡ true → fill bs f c v ≡ bs
unfolding fill every
fill_same [] f c v h = refl
fill_same (b ∷ bs) (suc f) c v h = rw (fill_same bs f c v h)
fill_same (b ∷ bs) zero zero v h = refl
fill_same (true ∷ bs) zero (suc c) true h = rw (fill_same bs zero c true h)
fill_same (false ∷ bs) zero (suc c) false h = rw (fill_same bs zero c false h)
fill_same (true ∷ bs) zero (suc c) false h = let z : ◌≡◌ {A = ℕ} 0 1 = cc in absurd (omega arith)
fill_same (false ∷ bs) zero (suc c) true h = let z : ◌≡◌ {A = ℕ} 0 1 = cc in absurd (omega arith)

-- ---- two fills: their order does not matter
pub fill_swap : (bs : List Bool) (f c g d : ℕ) (v : Bool) → fill (fill bs f c v) g d v ≡ fill (fill bs g d v) f c v
unfolding fill
fill_swap [] f c g d v = refl
fill_swap (b ∷ bs) (suc f) c (suc g) d v = rw (fill_swap bs f c g d v)
fill_swap (b ∷ bs) (suc f) c zero zero v = refl
fill_swap (b ∷ bs) (suc f) c zero (suc d) v = rw (fill_swap bs f c zero d v)
fill_swap (b ∷ bs) zero zero g d v = sym (fill_none (fill (b ∷ bs) g d v) 0 v)
fill_swap (b ∷ bs) zero (suc c) (suc g) d v = rw (fill_swap bs zero c g d v)
fill_swap (b ∷ bs) zero (suc c) zero zero v = refl
fill_swap (b ∷ bs) zero (suc c) zero (suc d) v = rw (fill_swap bs zero c zero d v)

-- a range that is clear after another was set was clear before
pub clear_before : (bs : List Bool) (f c g d : ℕ) → all_are (fill bs f c true) g d false ≡ true → all_are bs g d false ≡ true
unfolding fill every
clear_before [] f c g d h = h
clear_before (b ∷ bs) (suc f) c (suc g) d h = clear_before bs f c g d h
clear_before (b ∷ bs) (suc f) c zero zero h = refl
clear_before (false ∷ bs) (suc f) c zero (suc d) h = clear_before bs f c zero d h
clear_before (true ∷ bs) (suc f) c zero (suc d) h = h
clear_before (b ∷ bs) zero zero g d h = h
clear_before (b ∷ bs) zero (suc c) (suc g) d h = clear_before bs zero c g d h
clear_before (b ∷ bs) zero (suc c) zero zero h = refl
clear_before (b ∷ bs) zero (suc c) zero (suc d) h = let z : ◌≡◌ {A = ℕ} 0 1 = cc in absurd (omega arith)

-- and then the other, if it was clear, is still clear after this one is set
pub clear_instead : (bs : List Bool) (f c g d : ℕ) → all_are bs f c false ≡ true → all_are (fill bs f c true) g d false ≡ true → all_are (fill bs g d true) f c false ≡ true
unfolding fill every
clear_instead [] f c g d e h = e
clear_instead (b ∷ bs) (suc f) c (suc g) d e h = clear_instead bs f c g d e h
clear_instead (b ∷ bs) (suc f) c zero zero e h = e
clear_instead (false ∷ bs) (suc f) c zero (suc d) e h = clear_instead bs f c zero d e h
clear_instead (true ∷ bs) (suc f) c zero (suc d) e h = let z : ◌≡◌ {A = ℕ} 0 1 = cc in absurd (omega arith)
clear_instead (b ∷ bs) zero zero g d e h = refl
clear_instead (false ∷ bs) zero (suc c) (suc g) d e h = clear_instead bs zero c g d e h
clear_instead (true ∷ bs) zero (suc c) (suc g) d e h = e
clear_instead (b ∷ bs) zero (suc c) zero zero e h = e
clear_instead (b ∷ bs) zero (suc c) zero (suc d) e h = let z : ◌≡◌ {A = ℕ} 0 1 = cc in absurd (omega arith)

-- ---- a bitmap of which the first n blocks are used
pub take-fill : (n : ℕ) (bs : List Bool) (f c : ℕ) (v : Bool) → take n (fill bs f c v) ≡ fill (take n bs) f c v
unfolding fill
take-fill zero bs f c v = refl
take-fill (suc n) [] f c v = refl
take-fill (suc n) (b ∷ bs) (suc f) c v = rw (take-fill n bs f c v)
take-fill (suc n) (b ∷ bs) zero zero v = refl
take-fill (suc n) (b ∷ bs) zero (suc c) v = rw (take-fill n bs zero c v)

pub range-take : (n : ℕ) (bs : List Bool) (f c : ℕ) → f + c ≤ n → range (take n bs) f c ≡ range bs f c
range-take zero bs f c h = let z : c ≡ 0 = omega arith in rw z
range-take (suc n) [] f c h = refl
range-take (suc n) (b ∷ bs) (suc f) c h = range-take n bs f c (omega arith)
range-take (suc n) (b ∷ bs) zero zero h = refl
range-take (suc n) (b ∷ bs) zero (suc c) h = rw (range-take n bs zero c (omega arith))

-- ---- a whole bitmap in one state
pub fill_whole : (bs : List Bool) (c : ℕ) (v : Bool) → length bs ≤ c → fill bs 0 c v ≡ replicate (length bs) v
unfolding fill
fill_whole [] c v h = refl
fill_whole (b ∷ bs) zero v h = absurd (omega arith)
fill_whole (b ∷ bs) (suc c) v h = rw (fill_whole bs c v (omega arith))

-- the first n blocks, after filling at least those; and after clearing them
pub take_whole : (n : ℕ) (bs : List Bool) (c : ℕ) (v : Bool) → n ≤ c → take n (fill bs 0 c v) ≡ replicate (length (take n bs)) v
take_whole n bs c v h = take-fill n bs 0 c v ∙ fill_whole (take n bs) c v (omega (arith, length-take n bs))

pub ones_clear : (n : ℕ) → ones (replicate n false) ≡ 0
unfolding ones
ones_clear zero = refl
ones_clear (suc n) = ones_clear n

pub take_cleared : (n : ℕ) (bs : List Bool) (c : ℕ) → n ≤ c → ones (take n (fill bs 0 c false)) ≡ 0
take_cleared n bs c h = rw (take_whole n bs c false h) (ones_clear (length (take n bs)))

-- ---- the next block in the state v
-- i is the lowest one from `from` up to, not including, `end`
pub record Lowest (v : Bool) (bs : List Bool) (from end i : ℕ) : Type 0 where
  pub from_on : from ≤ i
  pub before_end : i < end
  pub exists : i < length bs
  pub found : block_at bs i ≡ v
  pub none_below : all_are bs from (i - from) (not v) ≡ true

record First (v : Bool) (s i : ℕ) (bs : List Bool) : Type 0 where
  from_on : s ≤ i
  exists : i - s < length bs
  found : block_at bs (i - s) ≡ v
  none_below : every (not v) (take (i - s) bs) ≡ true

-- the first of the list, or one of the others
first_here : (v b : Bool) (s i : ℕ) (bs : List Bool) → b ≡ v → s ≡ i → First v s i (b ∷ bs)
unfolding every
first_here v b s i bs q e =
    let z : i - s ≡ 0 = omega arith in
    record { from_on = omega arith; exists = omega arith; found = rw z q; none_below = rw z }

first_later : (v b : Bool) (s i : ℕ) (bs : List Bool) → beq b (not v) ≡ true → First v (suc s) i bs → First v s i (b ∷ bs)
unfolding every
first_later v b s i bs q r =
    let w : i - s ≡ suc (i - suc s) = omega (arith, r.from_on) in
    record { from_on = omega (arith, r.from_on); exists = omega (arith, r.exists); found = rw w r.found; none_below = rw (w, q) r.none_below }

first_at : (v : Bool) (s i : ℕ) (bs : List Bool) → first_from v s bs ≡ Some i → First v s i bs
unfolding first_from
first_at v s i [] e = absurd (let z : ◌≡◌ {A = ℕ} 0 1 = cc in omega arith)
first_at true s i (true ∷ bs) e = let w : s ≡ i = cc in first_here true true s i bs refl w
first_at false s i (false ∷ bs) e = let w : s ≡ i = cc in first_here false false s i bs refl w
first_at true s i (false ∷ bs) e = first_later true false s i bs refl (first_at true (suc s) i bs e)
first_at false s i (true ∷ bs) e = first_later false true s i bs refl (first_at false (suc s) i bs e)

pub next_at : (v : Bool) (bs : List Bool) (f e i : ℕ) → next_in_state v bs f e ≡ Some i → Lowest v bs f e i
next_at v bs f e i p =
    let r = first_at v f i (range bs f (e - f)) p in
    let l = range_length bs f (e - f) in
    record {
      from_on = r.from_on;
      before_end = omega (arith, r.from_on, r.exists);
      exists = omega (arith, r.from_on, r.exists);
      found = sym (range_at bs f (e - f) i r.from_on (omega (arith, r.exists))) ∙ r.found;
      none_below = rw (take-take (i - f) (e - f) (drop f bs) (omega (arith, r.exists))) at r.none_below;
    }

first_nothing : (v : Bool) (s : ℕ) (bs : List Bool) → first_from v s bs ≡ None → every (not v) bs ≡ true
unfolding first_from every
first_nothing v s [] e = refl
first_nothing true s (true ∷ bs) e = absurd (let z : ◌≡◌ {A = ℕ} 0 1 = cc in omega arith)
first_nothing false s (false ∷ bs) e = absurd (let z : ◌≡◌ {A = ℕ} 0 1 = cc in omega arith)
first_nothing true s (false ∷ bs) e = first_nothing true (suc s) bs e
first_nothing false s (true ∷ bs) e = first_nothing false (suc s) bs e

pub next_nothing : (v : Bool) (bs : List Bool) (f e : ℕ) → next_in_state v bs f e ≡ None → all_are bs f (e - f) (not v) ≡ true
next_nothing v bs f e p = first_nothing v f (range bs f (e - f)) p

pub next_nothing_ones : (bs : List Bool) (f e : ℕ) → next_set bs f e ≡ None → ones (range bs f (e - f)) ≡ 0
next_nothing_ones bs f e p = ones_none (range bs f (e - f)) (next_nothing true bs f e p)

-- a search goes on past clear blocks
next_step_in : (bs : List Bool) (f e : ℕ) → block_at bs f ≡ false → f < e → next_set bs (suc f) e ≡ next_set bs f e
unfolding first_from
next_step_in bs f e p h =
    let w : e - f ≡ suc (e - suc f) = omega arith in
    ⊎_elim (λ l. rw (w, range_step bs f (e - suc f) l, p))
    (λ g.
    let q : length bs ≤ suc f = omega arith in
    rw (range_end bs f (e - f) g, range_end bs (suc f) (e - suc f) q))
    (lt_or_ge f (length bs))

next_step : (bs : List Bool) (f e : ℕ) → block_at bs f ≡ false → next_set bs (suc f) e ≡ next_set bs f e
unfolding first_from
next_step bs f e p =
    ⊎_elim (next_step_in bs f e p) (λ h. let y : e - suc f ≡ 0 = omega arith in let z : e - f ≡ 0 = omega arith in rw (y, z)) (lt_or_ge f e)

next_skip : (k : ℕ) (bs : List Bool) (f e : ℕ) → ((i : ℕ) → f ≤ i → i < f + k → block_at bs i ≡ false) → next_set bs (f + k) e ≡ next_set bs f e
next_skip zero bs f e h = rw add-zero
next_skip (suc k) bs f e h =
    let w : f + suc k ≡ suc f + k = omega arith in
    rw w (next_skip k bs (suc f) e (λ i p q. h i (omega arith) (omega arith)) ∙ next_step bs f e (h f (omega arith) (omega arith)))

-- the block that was found, cleared: the search goes on after it
pub next_cleared : (bs : List Bool) (f e i : ℕ) → next_set bs f e ≡ Some i → next_set (fill bs i 1 false) f e ≡ next_set bs (suc i) e
next_cleared bs f e i p =
    let r = next_at true bs f e i p in
    let w : f + suc (i - f) ≡ suc i = omega arith in
    let h : (x : ℕ) → f ≤ x → x < f + suc (i - f) → block_at (fill bs i 1 false) x ≡ false =
    λ x a b.
    ⊎_elim (λ l. at_before bs i 1 false x l ∙ all_clear_at bs f (i - f) x r.none_below a (omega arith))
    (λ g. at_inside bs i 1 false x g (omega arith) (omega arith))
    (lt_or_ge x i) in
    sym (next_skip (suc (i - f)) (fill bs i 1 false) f e h)
    ∙ rw w (ap (first_from true (suc i)) (fill_after bs i 1 false (suc i) (e - suc i) (omega arith)))
