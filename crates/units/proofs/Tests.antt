-- SPDX-License-Identifier: Apache-2.0 AND BSD-3-Clause
-- Laws on tests: how an order, a flag and a row of tests turn into each other. Every crate above cites them.
use Prim.Native.Nat.{ℕ, ◌≤◌, ◌<◌}
use mathlib.Core.Path.{◌≡◌, refl, sym, ◌∙◌}
use mathlib.Core.Bool.{Bool, true, false, not, ◌&&◌}
use native.Mathlib.Omega.{arith}
use lib.Dec.{leb}
use borrow.Author.Tests.{le-leb, leb-true, leb-false}

-- a test holds or fails
pub by_test : {A : Type 0} (t : Bool) → (t ≡ true → A) → (t ≡ false → A) → A
by_test true f g = f refl
by_test false f g = g refl

-- two orders that say the same are the same test
pub leb_same : (a b c d : ℕ) → (a ≤ b → c ≤ d) → (c ≤ d → a ≤ b) → leb a b ≡ leb c d
leb_same a b c d f g =
    by_test (leb a b) (λ t. t ∙ sym (le-leb c d (f (leb-true a b t))))
    (λ t.
    t
    ∙ by_test (leb c d)
    (λ u. let h : a ≤ b = g (leb-true c d u) in let k : b < a = leb-false a b t in absurd (omega arith))
    (λ u. sym u))

-- a callee's flag r, that is the test b, came out as t
pub flag : (b r t : Bool) → r ≡ b → r ≡ t → b ≡ t
flag b r t p q = sym p ∙ q

-- after `if !f(..) { return .. }`: on the way out, and past it
pub refused : (b r : Bool) → r ≡ b → not r ≡ true → b ≡ false
refused b true p q = sym p ∙ sym q
refused b false p q = sym p

pub passed : (b r : Bool) → r ≡ b → not r ≡ false → b ≡ true
passed b true p q = sym p
passed b false p q = sym p ∙ sym q

pub and_left : (a b : Bool) → (a && b) ≡ true → a ≡ true
and_left true b e = refl
and_left false b e = e

pub and_right : (a b : Bool) → (a && b) ≡ true → b ≡ true
and_right true b e = e
and_right false b e = absurd (let z : ◌≡◌ {A = ℕ} 0 1 = cc in omega arith)
