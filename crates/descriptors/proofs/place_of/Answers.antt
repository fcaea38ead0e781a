-- SPDX-License-Identifier: Apache-2.0 AND BSD-3-Clause
-- `descriptors::place_of` meets its contract: at or past the base, the two flags of the second test are those of `inside`.
use Prim.Native.Nat.{ℕ, ◌+◌, ◌-◌, ◌≤◌}
use mathlib.Core.Path.{◌≡◌}
use mathlib.Core.Bool.{◌&&◌}
use native.Mathlib.Omega.{arith}
use borrow.Author.Tests.{le-leb, lt-leb}
use lib.Dec.{leb}
use lib.ListN.{length}
use Rattle.units.proofs.Tests.{leb_same}
use Rattle.descriptors.specs.Descriptors.{inside, place_of}
use Rattle.descriptors.proofs.place_of.Goals as goal
use Rattle.descriptors.proofs.place_of.Goals.{After-ends_below}

-- the end counted from the base, and counted from 0
end_same : (len base addr n : ℕ) → base ≤ addr → leb (addr - base + n) len ≡ leb (addr + n) (base + len)
end_same len base addr n h = leb_same (addr - base + n) len (addr + n) (base + len) (λ k. omega arith) (λ k. omega arith)

pub returns-then-at-first : goal.returns-then-at-first
unfolding place_of inside
returns-then-at-first c = simp (lt-leb _ _ c.if-at-first.true)

-- past the first test, `inside` is the two flags together
flags : (c : After-ends_below) → let a = c.args in
    inside (length a.mem.now) a.base.0 a.addr.0 a.size ≡ (c.sum_within.result && c.ends_below.result)
unfolding inside
flags c =
    let a = c.args in
    let above = c.if-at-first.false in
    simp (
      le-leb _ _ above,
      ← end_same (length a.mem.now) a.base.0 a.addr.0 a.size above,
      c.sum_within.ensures,
      c.ends_below.ensures,
    )

pub returns-then-sum_within-ends_below : goal.returns-then-sum_within-ends_below
unfolding place_of
returns-then-sum_within-ends_below c = simp (flags (goal.at.returns-then-sum_within-ends_below c).After-ends_below, c.if-sum_within-ends_below.true)

pub returns-else-sum_within-ends_below : goal.returns-else-sum_within-ends_below
unfolding place_of
returns-else-sum_within-ends_below c = simp (flags (goal.at.returns-else-sum_within-ends_below c).After-ends_below, c.if-sum_within-ends_below.false)
