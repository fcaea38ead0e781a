-- SPDX-License-Identifier: Apache-2.0 AND BSD-3-Clause
-- Putting one text after another puts the two joined.
use Prim.Native.Nat.{ℕ, suc, ◌+◌, ◌≤◌, min}
use mathlib.Core.Path.{◌≡◌, refl, sym, ap, ◌∙◌}
use mathlib.Core.List.{List, [], ◌∷◌, ◌++◌}
use native.Mathlib.Omega.{arith}
use borrow.Author.Tests.{leb-true, leb-false}
use lib.Dec.{leb}
use lib.ListN.{length, set, length-append}
use lib.Seq.{sets, length-sets, set_out}
use Rattle.units.proofs.Tests.{by_test}
use Rattle.text.specs.Putting.{Put}

pub sets_append : (l : List ℕ) (i : ℕ) (xs ys : List ℕ) → sets l i (xs ++ ys) ≡ sets (sets l i xs) (i + length xs) ys
sets_append l i [] ys = let e : i + 0 ≡ i = omega arith in rw e
sets_append l i (x ∷ xs) ys =
    let e : i + suc (length xs) ≡ suc i + length xs = omega arith in
    rw e (sets_append (set l i x) (suc i) xs ys)

-- past the end nothing is stored
pub sets_out : (l : List ℕ) (i : ℕ) (vs : List ℕ) → length l ≤ i → sets l i vs ≡ l
sets_out l i [] h = refl
sets_out l i (v ∷ vs) h = rw (set_out l i v h) (sets_out l (suc i) vs (omega arith))

-- a position past the end is as good as any other
sets_same : (l : List ℕ) (i k : ℕ) (vs : List ℕ) → min i (length l + 1) ≡ min k (length l + 1) → sets l i vs ≡ sets l k vs
sets_same l i k vs h =
    by_test (leb i (length l))
    (λ e. let f : i ≡ k = omega (arith, leb-true i (length l) e) in rw f)
    (λ e. let f = leb-false i (length l) e in sets_out l i vs (omega arith) ∙ sym (sets_out l k vs (omega arith)))

module _ {b : List ℕ} {at : ℕ} {x y b1 b2 : List ℕ} {p q : ℕ} where
  pub then : Put b at x b1 p → Put b1 p y b2 q → Put b at (x ++ y) b2 q
  then f g =
      let n = length-sets b at x in
      let k = f.held in
      let m : length b1 ≡ length b = ap length k ∙ n in
      let e = f.next in
      let d = g.next in
      let a = length-append x y in
      record {
        held =
            g.held ∙ sets_same b1 p (at + length x) y (omega arith)
            ∙ ap (λ (l : List ℕ). sets l (at + length x) y) k
            ∙ sym (sets_append b at x y);
        next = omega arith;
      }
