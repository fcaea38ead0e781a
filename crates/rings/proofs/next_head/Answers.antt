-- SPDX-License-Identifier: Apache-2.0 AND BSD-3-Clause
-- `rings::next_head` meets its contract: each return is one of 14, 15, none and a head, in their order.
use native.Mathlib.Omega.{arith}
use borrow.Author.Tests.{lt-ltb, le-ltb, eq-eqb, ne_eqb}
use lib.ListN.{length}
use mathlib.Core.Bool.{true}
use mathlib.Core.Path.{◌≡◌}
use Rattle.units.proofs.Tests.{flag}
use Rattle.rings.specs.Rings.{rings_inside, next_head}
use Rattle.rings.proofs.Laws.{RingsLie, rings_lie}
use Rattle.rings.proofs.next_head.Goals as goal
use Rattle.rings.proofs.next_head.Goals.{Else-not-rings_inside}

pub returns-then-not-rings_inside : goal.returns-then-not-rings_inside
unfolding next_head
returns-then-not-rings_inside c = simp (flag _ _ _ c.rings_inside.ensures c.if-not-rings_inside.true)

-- past 14
inside_both : (c : Else-not-rings_inside) → let a = c.args in rings_inside (length a.mem.now) a.base.0 a.q ≡ true
inside_both c = flag _ _ _ c.rings_inside.ensures c.if-not-rings_inside.false

lie : (c : Else-not-rings_inside) → let a = c.args in RingsLie (length a.mem.now) a.base.0 a.q
lie c = rings_lie _ _ _ (inside_both c)

pub overflow_sub-available : goal.overflow_sub-available
overflow_sub-available c = let f = (lie (goal.at.overflow_sub-available c).Else-not-rings_inside).available_lies in omega arith

pub overflow_add-available : goal.overflow_add-available
overflow_add-available c = let f = (lie (goal.at.overflow_add-available c).Else-not-rings_inside).available_lies in omega arith

pub read_u16-requires : goal.read_u16-requires
read_u16-requires c = let f = (lie (goal.at.read_u16-requires c).Else-not-rings_inside).available_lies in omega arith

pub returns-then-over_full : goal.returns-then-over_full
unfolding next_head
returns-then-over_full c =
    simp (inside_both (goal.at.returns-then-over_full c).Else-not-rings_inside, ← c.read_u16.ensures, ← c.ahead_of-ahead.ensures, lt-ltb _ _ c.if-over_full.true)

pub returns-then-ahead-eq0 : goal.returns-then-ahead-eq0
unfolding next_head
returns-then-ahead-eq0 c =
    simp (inside_both (goal.at.returns-then-ahead-eq0 c).Else-not-rings_inside, ← c.read_u16.ensures, ← c.ahead_of-ahead.ensures, le-ltb _ _ c.if-over_full.false, eq-eqb _ _ c.if-ahead-eq0.true)

pub overflow_add-available-2 : goal.overflow_add-available-2
overflow_add-available-2 c = let f = (lie (goal.at.overflow_add-available-2 c).Else-not-rings_inside).available_lies in omega arith

pub overflow_add-available-3 : goal.overflow_add-available-3
overflow_add-available-3 c = let f = (lie (goal.at.overflow_add-available-3 c).Else-not-rings_inside).available_lies in omega arith

pub read_u16-head-requires : goal.read_u16-head-requires
read_u16-head-requires c = let f = (lie (goal.at.read_u16-head-requires c).Else-not-rings_inside).available_lies in omega arith

pub returns : goal.returns
unfolding next_head
returns c =
    simp (inside_both (goal.at.returns c).Else-not-rings_inside, ← c.read_u16.ensures, ← c.ahead_of-ahead.ensures, le-ltb _ _ c.if-over_full.false, ne_eqb _ _ c.if-ahead-eq0.false, ← c.read_u16-head.ensures)
