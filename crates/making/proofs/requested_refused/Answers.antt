-- SPDX-License-Identifier: Apache-2.0 AND BSD-3-Clause
-- `making::requested_refused` meets its contract: the product is made only where it is at most the region.
use Prim.Native.Nat.{ℕ, ◌*◌, ◌%◌}
use mathlib.Core.Path.{◌≡◌, refl, ap, ◌∙◌}
use mathlib.Core.Bool.{Bool, true, false, not, ◌&&◌}
use lib.Dec.{leb, eqb}
use native.Mathlib.Omega.{arith}
use borrow.Author.Tests.{leb-true}
use Rattle.units.proofs.Tests.{flag}
use Rattle.record.specs.Shape.{size_ok}
use Rattle.making.proofs.requested_refused.Goals as goal

-- whole blocks and not above the region, the second first
above : (b size region : ℕ) → leb size region ≡ false → true ≡ not (size_ok b size region)
unfolding size_ok
above b size region e = rw e (either (eqb (size % b) 0))
  where
    either : (whole : Bool) → true ≡ not (whole && false)
    either true = refl
    either false = refl

at_most : (b size region : ℕ) → leb size region ≡ true → not (eqb (size % b) 0) ≡ not (size_ok b size region)
unfolding size_ok
at_most b size region e = rw e (either (eqb (size % b) 0))
  where
    either : (whole : Bool) → not whole ≡ not (whole && true)
    either true = refl
    either false = refl

pub returns-then-not-product_within : goal.returns-then-not-product_within
returns-then-not-product_within c = above _ _ _ (flag _ _ _ c.product_within.ensures c.if-not-product_within.true)

pub overflow_mul-mib : goal.overflow_mul-mib
overflow_mul-mib c =
    let a = c.args in
    omega (arith, leb-true (a.mib * 1048576) a.region (flag _ _ _ c.product_within.ensures c.if-not-product_within.false))

pub returns : goal.returns
returns c =
    ap not c.is_multiple.ensures
    ∙ at_most _ _ _ (flag _ _ _ c.product_within.ensures c.if-not-product_within.false)
