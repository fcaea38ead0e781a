-- SPDX-License-Identifier: Apache-2.0 AND BSD-3-Clause
-- `too_short` meets its contract.
use Prim.Native.Nat.{ℕ, ◌*◌, ◌+◌, ◌/◌, ◌%◌, min}
use mathlib.Core.Path.{◌≡◌}
use native.Mathlib.Omega.{arith}
use lib.Dec.{ltb}
use borrow.Author.Tests.{lt-ltb, le-ltb, ltb-true, ltb-false}
use Rattle.units.proofs.Tests.{by_test}
use Rattle.bitmap.proofs.Laws.{blocks-length}
use Rattle.driver.proofs.too_short.Goals as goal

same : (n m k : ℕ) → k ≡ m / 8 + min 1 (m % 8) → ltb n k ≡ ltb (8 * n) m
same n m k e =
    by_test (ltb (8 * n) m) (λ t. rw t (lt-ltb n k (omega (arith, ltb-true (8 * n) m t))))
    (λ t. rw t (le-ltb n k (omega (arith, ltb-false (8 * n) m t))))

pub returns : goal.returns
returns c = rw (blocks-length c.args.bitmap.now) (same _ _ _ c.div_ceil.ensures)
