-- SPDX-License-Identifier: Apache-2.0 AND BSD-3-Clause
-- The laws of `specs/Numbers.antt` that the crates above cite.
use Prim.Native.Nat.{ℕ, zero, suc, ◌+◌, ◌-◌, ◌*◌, ◌/◌, ◌%◌, ◌^◌, ◌≤◌, ◌<◌}
use mathlib.Core.Path.{◌≡◌, refl, sym, ◌∙◌}
use native.Mathlib.Nat.{div-add-mod', mod-lt, mod_self, mod-eq_of_lt, sub-zero, mul-zero, add-mul, pow-succ', div-div-eq-div-mul, div-one, mul-le-mul}
use native.Mathlib.Omega.{arith}
use mathlib.Core.Bool.{Bool, true, false}
use lib.Dec.{leb}
use borrow.Author.Tests.{leb-true, leb-false}
use lib.Arith.{digits_div}
use lib.Count.{count_trailing_zeros, under}
use Rattle.units.specs.Numbers.{top, saturated, bytes_of, twos, next_multiple}

-- ---- what a test said of a sum or a product n: within the limit, or past it
pub within : {n limit : ℕ} (r : Bool) → r ≡ leb n limit → r ≡ true → n ≤ limit
within {n} {limit} r e t = leb-true n limit (sym e ∙ t)

pub past : {n limit : ℕ} (r : Bool) → r ≡ leb n limit → r ≡ false → limit < n
past {n} {limit} r e t = leb-false n limit (sym e ∙ t)

-- what fits stays as it is
pub saturated_fits : {n : ℕ} → n ≤ top → saturated n ≡ n
saturated_fits h = omega arith

-- a request's blocks have a size that fits
pub bytes_fit : (b n : ℕ) → b ≤ 4294967295 → n ≤ 65535 → bytes_of b n ≤ top
bytes_fit b n h few = let small : n * b ≤ 65535 * 4294967295 = mul-le-mul few h in omega arith

-- ---- rounding up: a multiple stays, anything else goes to the next multiple
pub round_multiple : (n to : ℕ) → 0 < to → n % to ≡ 0 → next_multiple n to ≡ n
unfolding next_multiple
round_multiple n to h e =
    let split : n / to * to + (to - 1) ≡ n + (to - 1) = omega (arith, div-add-mod' n to) in
    rw (← split, digits_div (n / to) {m = to} {r = to - 1} (omega arith)) (omega (arith, div-add-mod' n to))

pub round_next : (n to : ℕ) → 0 < n % to → 0 < to → next_multiple n to ≡ n + (to - n % to)
unfolding next_multiple
round_next n to r h =
    let small : n % to < to = mod-lt n h in
    let split : (n / to + 1) * to + (n % to - 1) ≡ n + (to - 1) = omega (arith, div-add-mod' n to, add-mul (n / to) 1 to) in
    rw (← split, digits_div (n / to + 1) {m = to} {r = n % to - 1} (omega arith)) (omega (arith, div-add-mod' n to, add-mul (n / to) 1 to))

pub round_none : (n : ℕ) → next_multiple n 0 ≡ 0
unfolding next_multiple
round_none n = mul-zero ((n + (0 - 1)) / 0)

-- as std rounds up
pub rounded : (n to : ℕ) → 0 < to → n + (to - n % to) % to ≡ next_multiple n to
rounded n to h = by_rest (n % to) refl
  where
    by_rest : (r : ℕ) → n % to ≡ r → n + (to - n % to) % to ≡ next_multiple n to
    by_rest zero e = rw (e, sub-zero, mod_self) (omega (arith, round_multiple n to h e))
    by_rest (suc r) e =
        let few : to - n % to < to = omega arith in
        rw (mod-eq_of_lt few) (sym (round_next n to (omega arith) h))

-- ---- the largest power of two that divides a number: it divides, and what it leaves is odd
halved : (n t : ℕ) → n / 2 ^ suc t ≡ n / 2 / 2 ^ t
halved n t = rw (pow-succ' 2 t) (sym (div-div-eq-div-mul n 2 (2 ^ t)))

divides : (d n : ℕ) → n / 2 ^ count_trailing_zeros d n * 2 ^ count_trailing_zeros d n ≡ n
unfolding count_trailing_zeros
divides zero n = omega (arith, div-one n)
divides (suc d) n = by_lowest (n % 2) refl (divides d (n / 2))
  where
    by_lowest : (r : ℕ) → n % 2 ≡ r → n / 2 / 2 ^ count_trailing_zeros d (n / 2) * 2 ^ count_trailing_zeros d (n / 2) ≡ n / 2
        → n / 2 ^ under r (count_trailing_zeros d (n / 2)) * 2 ^ under r (count_trailing_zeros d (n / 2)) ≡ n
    by_lowest zero e ih =
        let t = count_trailing_zeros d (n / 2) in
        let q = n / 2 / 2 ^ t in
        rw (halved n t, pow-succ' 2 t) (omega (arith, ih))
    by_lowest (suc r) e ih = omega (arith, div-one n)

leaves_odd : (d n : ℕ) → 0 < n → n < 2 ^ d → n / 2 ^ count_trailing_zeros d n % 2 ≡ 1
unfolding count_trailing_zeros
leaves_odd zero n h k = omega arith
leaves_odd (suc d) n h k = by_lowest (n % 2) refl (λ p. leaves_odd d (n / 2) p (let e : 2 ^ suc d ≡ 2 * 2 ^ d = pow-succ' 2 d in omega arith))
  where
    by_lowest : (r : ℕ) → n % 2 ≡ r → (0 < n / 2 → n / 2 / 2 ^ count_trailing_zeros d (n / 2) % 2 ≡ 1) → n / 2 ^ under r (count_trailing_zeros d (n / 2)) % 2 ≡ 1
    by_lowest zero e ih = rw (halved n (count_trailing_zeros d (n / 2))) (ih (omega arith))
    by_lowest (suc r) e ih = rw (div-one n) (omega arith)

pub twos_divides : (n : ℕ) → n / 2 ^ twos n * 2 ^ twos n ≡ n
unfolding twos
twos_divides n = divides 64 n

pub twos_largest : (n : ℕ) → 0 < n → n < 2 ^ 64 → n / 2 ^ twos n % 2 ≡ 1
unfolding twos
twos_largest n = leaves_odd 64 n
