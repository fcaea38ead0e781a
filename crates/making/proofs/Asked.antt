-- SPDX-License-Identifier: Apache-2.0 AND BSD-3-Clause
-- A size in bytes that is past the tests of 1.
use Prim.Native.Nat.{ℕ, ◌%◌, ◌≤◌}
use mathlib.Core.Path.{◌≡◌, sym, ◌∙◌}
use mathlib.Core.Bool.{Bool, false, not, ◌&&◌}
use borrow.Author.Tests.{leb-true, eqb-true, not-false}
use lib.Dec.{leb, eqb}
use Rattle.units.proofs.Tests.{and_left, and_right}
use Rattle.record.specs.Shape.{size_ok}

pub record Asked (b bytes region : ℕ) : Type 0 where
  pub within : bytes ≤ region
  pub whole : bytes % b ≡ 0

pub asked_is : (b bytes region : ℕ) (t : Bool) → t ≡ not (size_ok b bytes region) → t ≡ false → Asked b bytes region
unfolding size_ok
asked_is b bytes region t e f =
    let ok = not-false (eqb (bytes % b) 0 && leb bytes region) (sym e ∙ f) in
    record {
      within = leb-true bytes region (and_right (eqb (bytes % b) 0) (leb bytes region) ok);
      whole = eqb-true (bytes % b) 0 (and_left (eqb (bytes % b) 0) (leb bytes region) ok);
    }
