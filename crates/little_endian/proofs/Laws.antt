-- SPDX-License-Identifier: Apache-2.0 AND BSD-3-Clause
-- Laws on numbers as bytes and on bytes written at a place. Every caller cites them.
use Prim.Native.Nat.{ℕ, zero, suc, ◌+◌, ◌-◌, ◌*◌, ◌/◌, ◌%◌, ◌^◌, ◌≤◌, ◌<◌, min}
use mathlib.Core.Path.{◌≡◌, refl, sym, ap, ◌∙◌}
use mathlib.Core.List.{List, [], ◌∷◌, ◌++◌, append-nil, append_assoc}
use borrow.Rule.Slice.PartMut.{put_mid}
use native.Mathlib.Nat.{pow-succ', one-le-pow, div-one, div-div-eq-div-mul, mul_assoc, mul_comm, add-mul-mod_self_left, mod-lt, mod-one, mod-eq_of_lt, div-add-mod, zero-add, suc-add, zero-sub, suc-sub-suc, sub-zero}
use native.Mathlib.Omega.{arith}
use native.Mathlib.Numerals.{add-one}
use lib.ListN.{length, take, drop, get_or, set, replicate, length-take, length-drop, length-set, length-replicate, drop_of_length-le}
use Rattle.std.specs.Int.{sum_through, byte_worth, byte_at, bytes_low_first}
use lib.Seq.{take_all, drop-cons, sets, sets-eq, set_out, take-set-le, drop-set-lt, drop-set-add, take-take, take-add, drop-drop, take_at, drop_at, length-take-le, take-nil, drop-nil}
use Rattle.little_endian.specs.Bytes.{value, little_endian, part, put}

-- ---- numbers as bytes

mod_split : (v m : ℕ) → 0 < m → v % (256 * m) ≡ v % 256 + 256 * (v / 256 % m)
mod_split v m h =
    let x : ℕ = v % 256 + 256 * (v / 256 % m) in
    let b : v / 256 % m < m = mod-lt (v / 256) h in
    let e : v ≡ x + 256 * m * (v / 256 / m) =
    omega (arith, div-add-mod v 256, div-add-mod (v / 256) m, mul_assoc 256 m (v / 256 / m)) in
    let s : x < 256 * m = omega arith in
    ap (λ (n : ℕ). n % (256 * m)) e ∙ add-mul-mod_self_left x (256 * m) (v / 256 / m) ∙ mod-eq_of_lt s

pub length-little_endian : (n v : ℕ) → length (little_endian n v) ≡ n
unfolding little_endian
length-little_endian zero v = refl
length-little_endian (suc n) v = ap suc (length-little_endian n (v / 256))

-- the lowest n bytes of v mean v without what lies above them
pub value-little_endian : (n v : ℕ) → value (little_endian n v) ≡ v % 256 ^ n
unfolding value little_endian
value-little_endian zero v = sym (mod-one v)
value-little_endian (suc n) v =
    rw (value-little_endian n (v / 256), pow-succ') (sym (mod_split v (256 ^ n) (one-le-pow n 256 (omega arith))))

-- and v itself where it fits
pub value_fits : (n v : ℕ) → v < 256 ^ n → value (little_endian n v) ≡ v
value_fits n v h = value-little_endian n v ∙ mod-eq_of_lt h

-- the number of two parts, one behind the other
value_append : (xs ys : List ℕ) → value (xs ++ ys) ≡ value xs + 256 ^ length xs * value ys
unfolding value
value_append [] ys = omega arith
value_append (x ∷ xs) ys = rw (value_append xs ys, pow-succ', mul_assoc) (omega arith)

-- the n lowest bytes of a number's m
pub take-little_endian : (n m v : ℕ) → n ≤ m → take n (little_endian m v) ≡ little_endian n v
unfolding little_endian
take-little_endian zero m v h = refl
take-little_endian (suc n) zero v h = absurd (omega arith)
take-little_endian (suc n) (suc m) v h = rw (take-little_endian n m (v / 256) (omega arith))

-- a number of a + b bytes is its a lowest bytes and the b above them
little_endian_append : (a b v : ℕ) → little_endian (a + b) v ≡ little_endian a v ++ little_endian b (v / 256 ^ a)
unfolding little_endian
little_endian_append zero b v = rw (zero-add, div-one)
little_endian_append (suc a) b v = rw (suc-add, pow-succ', ← div-div-eq-div-mul v 256 (256 ^ a), ← little_endian_append a b (v / 256))

-- ---- bytes written at a place

pub length-put : (xs : List ℕ) (at : ℕ) (ys : List ℕ) → length (put xs at ys) ≡ length xs
unfolding put
length-put xs at [] = refl
length-put xs at (y ∷ ys) = length-put (set xs at y) (suc at) ys ∙ length-set xs at y

-- past the end nothing is written
pub put_past : (xs : List ℕ) (at : ℕ) (ys : List ℕ) → length xs ≤ at → put xs at ys ≡ xs
unfolding put
put_past xs at [] h = refl
put_past xs at (y ∷ ys) h =
    let e : set xs at y ≡ xs = set_out xs at y h in
    rw e (put_past xs (suc at) ys (omega arith))

-- two parts are written one after the other
pub put_append : (xs : List ℕ) (at : ℕ) (ys zs : List ℕ) → put xs at (ys ++ zs) ≡ put (put xs at ys) (at + length ys) zs
unfolding put
put_append xs at [] zs = let e : at + 0 ≡ at = omega arith in rw e
put_append xs at (y ∷ ys) zs =
    let e : at + suc (length ys) ≡ suc at + length ys = omega arith in
    rw e (put_append (set xs at y) (suc at) ys zs)

-- the bytes before a place stay
put_cons : (x : ℕ) (xs : List ℕ) (at : ℕ) (ys : List ℕ) → put (x ∷ xs) (suc at) ys ≡ x ∷ put xs at ys
unfolding put
put_cons x xs at [] = refl
put_cons x xs at (y ∷ ys) = put_cons x (set xs at y) (suc at) ys

pub put_from : (xs : List ℕ) (at : ℕ) (ys : List ℕ) → put xs at ys ≡ take at xs ++ put (drop at xs) 0 ys
put_from [] at ys = rw (take-nil at, drop-nil at, put_past [] at ys (omega arith), put_past [] 0 ys (omega arith))
put_from (x ∷ xs) zero ys = refl
put_from (x ∷ xs) (suc at) ys = put_cons x xs at ys ∙ ap (λ (l : List ℕ). x ∷ l) (put_from xs at ys)

-- from the start on as many are written as have a place
pub put_start : (xs ys : List ℕ) → put xs 0 ys ≡ take (min (length xs) (length ys)) ys ++ drop (min (length xs) (length ys)) xs
unfolding put
put_start [] ys = let e : min 0 (length ys) ≡ 0 = omega arith in rw (e, put_past [] 0 ys (omega arith))
put_start (x ∷ xs) [] = let e : min (suc (length xs)) 0 ≡ 0 = omega arith in rw e
put_start (x ∷ xs) (y ∷ ys) =
    let e : min (suc (length xs)) (suc (length ys)) ≡ suc (min (length xs) (length ys)) = omega arith in
    rw e (put_cons y xs 0 ys ∙ ap (λ (l : List ℕ). y ∷ l) (put_start xs ys))

-- a slice from a place on, with ys written from its start on
pub put_rest : (xs ys : List ℕ) (at : ℕ) → put_mid at (length xs - at) xs (put (drop at xs) 0 ys) ≡ put xs at ys
put_rest xs ys at =
    let e : drop (length xs - at) (drop at xs) ≡ [] = drop_of_length-le (drop at xs) (omega (arith, length-drop at xs)) in
    rw (e, append-nil) (sym (put_from xs at ys))

-- so are the two halves of a number
pub put_halves : (xs : List ℕ) (at a b v : ℕ) {ys zs : List ℕ} → ys ≡ put xs at (little_endian a v)
    → zs ≡ put ys (at + a) (little_endian b (v / 256 ^ a)) → zs ≡ put xs at (little_endian (a + b) v)
put_halves xs at a b v e f =
    let n : length (little_endian a v) ≡ a = length-little_endian a v in
    rw (little_endian_append a b v, put_append, n, ← e) f

-- the bytes behind what is written stay
pub drop-put : (n : ℕ) (xs : List ℕ) (at : ℕ) (ys : List ℕ) → at + length ys ≤ n → drop n (put xs at ys) ≡ drop n xs
unfolding put
drop-put n xs at [] h = refl
drop-put n xs at (y ∷ ys) h =
    drop-put n (set xs at y) (suc at) ys (omega arith) ∙ drop-set-lt n xs at y (omega arith)

-- where all of ys fits: what is before, ys, and what is behind
put-sets : (xs : List ℕ) (at : ℕ) (ys : List ℕ) → put xs at ys ≡ sets xs at ys
unfolding put
put-sets xs at [] = refl
put-sets xs at (y ∷ ys) = put-sets (set xs at y) (suc at) ys

pub put_fits : (xs : List ℕ) (at : ℕ) (ys : List ℕ) → at + length ys ≤ length xs
    → put xs at ys ≡ take at xs ++ ys ++ drop (at + length ys) xs
put_fits xs at ys h = put-sets xs at ys ∙ sets-eq ys xs at h

-- ---- parts

drop-take : (k m : ℕ) (l : List ℕ) → drop k (take m l) ≡ take (m - k) (drop k l)
drop-take zero m l = rw sub-zero
drop-take (suc k) zero l = rw zero-sub
drop-take (suc k) (suc m) [] = rw (take-nil (suc m - suc k))
drop-take (suc k) (suc m) (x ∷ l) = rw (suc-sub-suc) (drop-take k m l)

-- a part of what stands from a place on
pub part-drop : (xs : List ℕ) (at k n : ℕ) → part (drop at xs) k n ≡ part xs (at + k) n
unfolding part
part-drop xs at k n = ap (take n) (drop-drop k at xs)

-- a number is read by its two halves
pub value_halves : (xs : List ℕ) (at a b : ℕ) {low high : ℕ} → at + a ≤ length xs → low ≡ value (part xs at a)
    → high ≡ value (part xs (at + a) b) → low + high * 256 ^ a ≡ value (part xs at (a + b))
unfolding part
value_halves xs at a b {low} {high} h e f =
    let n : length (take a (drop at xs)) ≡ a = simp (length-take, length-drop) (omega arith) in
    rw (take-add a b (drop at xs), value_append, n, drop-drop a at xs, ← e, ← f) (omega (arith, mul_comm high (256 ^ a)))

-- one byte is a number
byte : (xs : List ℕ) (at : ℕ) → at < length xs → get_or xs at 0 ≡ value (part xs at 1)
unfolding value part
byte xs at h = rw (drop-cons xs at 0 h) (omega arith)

-- the number that std reads from bytes
std_value : (xs : List ℕ) (k : ℕ) → k < length xs → sum_through (λ (i : ℕ). byte_worth i (get_or xs i 0)) k ≡ value (part xs 0 (suc k))
std_value xs zero h = byte xs 0 h
std_value xs (suc k) h =
    let z : 0 + suc k ≡ suc k = omega arith in
    let high : get_or xs (suc k) 0 ≡ value (part xs (0 + suc k) 1) = rw z (byte xs (suc k) h) in
    rw add-one at (value_halves xs 0 (suc k) 1 (omega arith) (std_value xs k (omega arith)) high)

pub std_reads : (xs : List ℕ) (k : ℕ) → length xs ≡ suc k → sum_through (λ (i : ℕ). byte_worth i (get_or xs i 0)) k ≡ value xs
unfolding part
std_reads xs k h = std_value xs k (omega arith) ∙ ap value (take_all (suc k) xs (omega arith))

-- the bytes that std makes of a number
std_byte : (i v : ℕ) → byte_at i v ≡ v / 256 ^ i % 256
std_byte zero v = rw div-one
std_byte (suc i) v = refl

std_bytes : (i n v : ℕ) → bytes_low_first i n v ≡ little_endian n (v / 256 ^ i)
unfolding little_endian
std_bytes i zero v = refl
std_bytes i (suc n) v =
    let e : v / 256 ^ suc i ≡ v / 256 ^ i / 256 = rw (pow-succ', mul_comm) (sym (div-div-eq-div-mul v (256 ^ i) 256)) in
    rw (std_byte i v, std_bytes (suc i) n v, e)

pub std_writes : (n v : ℕ) → bytes_low_first 0 n v ≡ little_endian n v
std_writes n v = std_bytes 0 n v ∙ ap (little_endian n) (div-one v)

-- n bytes mean a number below 256 to the n
pub value_below : (xs : List ℕ) → ((i : ℕ) → get_or xs i 0 < 256) → (at n : ℕ) → value (part xs at n) < 256 ^ n
unfolding value part
value_below [] h at n = rw (drop-nil at, take-nil n) (one-le-pow n 256 (omega arith))
value_below (x ∷ xs) h zero zero = omega arith
value_below (x ∷ xs) h zero (suc n) =
    let here : x < 256 = h 0 in
    let there : value (take n xs) < 256 ^ n = value_below xs (λ i. h (suc i)) 0 n in
    rw (pow-succ' 256 n) (omega arith)
value_below (x ∷ xs) h (suc at) n = value_below xs (λ i. h (suc i)) at n

drop-replicate : (n m a : ℕ) → drop n (replicate m a) ≡ replicate (m - n) a
drop-replicate zero m a = rw sub-zero
drop-replicate (suc n) zero a = rw zero-sub
drop-replicate (suc n) (suc m) a = rw suc-sub-suc (drop-replicate n m a)

value_zeros : (n m : ℕ) → value (take n (replicate m 0)) ≡ 0
unfolding value
value_zeros zero m = refl
value_zeros (suc n) zero = refl
value_zeros (suc n) (suc m) = rw (value_zeros n m)

value_behind : (xs : List ℕ) (m k n : ℕ) → value (part (xs ++ replicate m 0) k n) ≡ value (part xs k n)
unfolding value part
value_behind [] m k n = rw (drop-replicate k m 0, value_zeros n (m - k), drop-nil k, take-nil n)
value_behind (x ∷ xs) m zero zero = refl
value_behind (x ∷ xs) m zero (suc n) = rw (value_behind xs m 0 n)
value_behind (x ∷ xs) m (suc k) n = value_behind xs m k n

-- zeros behind the bytes that are there change no number
pub value_padded : (xs : List ℕ) (m at k n : ℕ) → length xs ≤ at + m
    → value (part (put (replicate m 0) 0 (drop at xs)) k n) ≡ value (part xs (at + k) n)
value_padded xs m at k n h =
    let ys : List ℕ = drop at xs in
    let zeros : List ℕ = replicate m 0 in
    let l : 0 + length ys ≤ length zeros = simp (length-replicate, length-drop) (omega arith) in
    rw (put_fits zeros 0 ys l, zero-add, drop-replicate (length ys) m 0)
    (value_behind ys (m - length ys) k n ∙ ap value (part-drop xs at k n))

-- a part of a part
pub part-part : (xs : List ℕ) (at m k n : ℕ) → k + n ≤ m → part (part xs at m) k n ≡ part xs (at + k) n
unfolding part
part-part xs at m k n h =
    let e : drop k (take m (drop at xs)) ≡ take (m - k) (drop k (drop at xs)) = drop-take k m (drop at xs) in
    let i : n ≤ m - k = omega arith in
    rw (e, take-take n (m - k) (drop k (drop at xs)) i, drop-drop k at xs)

-- what was written reads back
pub part-put : (xs : List ℕ) (at : ℕ) (ys : List ℕ) → at + length ys ≤ length xs → part (put xs at ys) at (length ys) ≡ ys
unfolding part
part-put xs at ys h =
    let n : length (take at xs) ≡ at = length-take-le at xs (omega arith) in
    rw (put_fits xs at ys h, append_assoc, drop_at (take at xs) (ys ++ drop (at + length ys) xs) at n)
    (take_at ys (drop (at + length ys) xs) (length ys) refl)

-- and so does each part of it
pub part-put_inside : (xs : List ℕ) (at : ℕ) (ys : List ℕ) (k n : ℕ) → at + length ys ≤ length xs → k + n ≤ length ys
    → part (put xs at ys) (at + k) n ≡ part ys k n
part-put_inside xs at ys k n h i =
    sym (part-part (put xs at ys) at (length ys) k n i) ∙ ap (λ (l : List ℕ). part l k n) (part-put xs at ys h)

part-set_before : (xs : List ℕ) (at y i n : ℕ) → i + n ≤ at → part (set xs at y) i n ≡ part xs i n
unfolding part
part-set_before xs at y i n h =
    let e : i + (at - i) ≡ at = omega arith in
    let d : drop i (set xs at y) ≡ set (drop i xs) (at - i) y = rw e at (drop-set-add i xs (at - i) y) in
    let k : n ≤ at - i = omega arith in
    rw (d, take-set-le n (drop i xs) (at - i) y k)

-- a part before what is written stays
pub part-put_before : (xs : List ℕ) (at : ℕ) (ys : List ℕ) (i n : ℕ) → i + n ≤ at → part (put xs at ys) i n ≡ part xs i n
unfolding put part
part-put_before xs at [] i n h = refl
part-put_before xs at (y ∷ ys) i n h =
    part-put_before (set xs at y) (suc at) ys i n (omega arith)
    ∙ part-set_before xs at y i n h

-- a part behind what is written stays
pub part-put_behind : (xs : List ℕ) (at : ℕ) (ys : List ℕ) (i n : ℕ) → at + length ys ≤ i → part (put xs at ys) i n ≡ part xs i n
unfolding part
part-put_behind xs at ys i n h = ap (take n) (drop-put i xs at ys h)
