-- SPDX-License-Identifier: Apache-2.0 AND BSD-3-Clause
-- `descriptors::link_at` meets its contract: an index below 128 whose 16 bytes would pass 2^64 - 1, or are not placed, is missing.
use Prim.Native.Nat.{◌+◌, ◌*◌}
use native.Mathlib.Omega.{arith}
use borrow.Author.Tests.{le-ltb, lt-ltb, leb-true, leb-false}
use lib.ListN.{length}
use Rattle.units.proofs.Tests.{flag}
use Rattle.descriptors.specs.Standard.{descriptor_addr}
use Rattle.descriptors.specs.Descriptors.{link_at}
use Rattle.descriptors.proofs.Laws.{past_last, Found, place_found, place_outside}
use Rattle.descriptors.proofs.link_at.Goals as goal
use Rattle.descriptors.proofs.link_at.Goals.{In-Some}

pub returns-then-past_table : goal.returns-then-past_table
unfolding link_at
returns-then-past_table c = simp (le-ltb c.args.index 128 (omega arith))

pub returns-then-not-sum_within : goal.returns-then-not-sum_within
unfolding link_at descriptor_addr
returns-then-not-sum_within c =
    let a = c.args in
    let addr = a.table.0 + 16 * a.index in
    let late = leb-false addr 18446744073709551615 (flag _ _ _ c.sum_within.ensures c.if-not-sum_within.true) in
    simp (
      lt-ltb c.args.index 128 (omega arith),
      past_last (length a.mem.now) a.base.0 addr 16 (omega arith),
    )

pub overflow_add-table : goal.overflow_add-table
overflow_add-table c =
    let a = c.args in
    let addr = a.table.0 + 16 * a.index in
    let early = leb-true addr 18446744073709551615 (flag _ _ _ c.sum_within.ensures c.if-not-sum_within.false) in
    record { fits = omega arith }

pub returns-in_default : goal.returns-in_default
unfolding link_at descriptor_addr
returns-in_default c =
    simp (
      lt-ltb c.args.index 128 (omega arith),
      place_outside _ _ _ _ _ c.place_of.ensures c.in_default.is,
    )

-- where the 16 bytes are placed, they lie inside
placed : (c : In-Some) → let a = c.args in
    Found (length a.mem.now) a.base.0 (a.table.0 + 16 * a.index) 16 c.in-Some.at
placed c = place_found _ _ _ _ _ _ c.place_of.ensures c.in-Some.is

pub descriptor_at-requires : goal.descriptor_at-requires
descriptor_at-requires c = let f = placed (goal.at.descriptor_at-requires c).In-Some in omega arith

pub returns : goal.returns
unfolding link_at descriptor_addr
returns c =
    let f = placed (goal.at.returns c).In-Some in
    simp (
      lt-ltb c.args.index 128 (omega arith),
      f.lies,
      ← f.place,
      c.descriptor_at.ensures,
    )
