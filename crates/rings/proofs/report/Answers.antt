-- SPDX-License-Identifier: Apache-2.0 AND BSD-3-Clause
-- `rings::report` meets its contract: the element and the index are put where the ring is placed, and nothing where it is not.
use native.Mathlib.Omega.{arith}
use lib.ListN.{length}
use Rattle.descriptors.proofs.Laws.{Found, place_found, place_outside}
use Rattle.rings.specs.Rings.{reported}
use Rattle.rings.proofs.Laws.{reported_by}
use Rattle.rings.proofs.report.Goals as goal
use Rattle.rings.proofs.report.Goals.{In-Some}

pub returns-in_default : goal.returns-in_default
unfolding reported
returns-in_default c = simp (place_outside _ _ _ _ _ c.place_of.ensures c.in_default.is)

placed : (c : In-Some) → let a = c.args in
    Found (length a.mem.now) a.base.0 a.used.0 1030 c.in-Some.at
placed c = place_found _ _ _ _ _ _ c.place_of.ensures c.in-Some.is

pub overflow_add-element : goal.overflow_add-element
overflow_add-element c = let f = placed (goal.at.overflow_add-element c).In-Some in omega arith

pub overflow_add-element-2 : goal.overflow_add-element-2
overflow_add-element-2 c = let f = placed (goal.at.overflow_add-element-2 c).In-Some in omega arith

pub overflow_add-element-3 : goal.overflow_add-element-3
overflow_add-element-3 c = let f = placed (goal.at.overflow_add-element-3 c).In-Some in omega arith

pub overflow_add-at : goal.overflow_add-at
overflow_add-at c = let f = placed (goal.at.overflow_add-at c).In-Some in omega arith

pub returns : goal.returns
returns c =
    let f = placed (goal.at.returns c).In-Some in
    reported_by _ _ _ _ _ _ _ _ f.lies f.place c.write_u32.ensures c.write_u32-2.ensures c.write_u16.ensures
    c.index_after.ensures
