-- SPDX-License-Identifier: Apache-2.0 AND BSD-3-Clause
-- What the code knows on each way: past the test of a sum, and where a pattern did not fit.
use Prim.Native.Nat.{ℕ, ◌≤◌, ◌<◌}
use mathlib.Core.Path.{◌≡◌, refl}
use mathlib.Core.Bool.{Bool, true, false, not}
use lib.Dec.{leb}
use borrow.Author.Tests.{leb-true, leb-false}
use Rattle.units.proofs.Tests.{passed, refused}

-- past `if !sum_within(..) { return .. }`, and on the way out
pub sum_within_lem : (n limit : ℕ) (r : Bool) → r ≡ leb n limit → not r ≡ false → n ≤ limit
sum_within_lem n limit r e t = leb-true n limit (passed _ _ e t)

pub sum_past : (n limit : ℕ) (r : Bool) → r ≡ leb n limit → not r ≡ true → limit < n
sum_past n limit r e t = leb-false n limit (refused _ _ e t)
