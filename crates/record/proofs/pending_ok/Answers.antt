-- SPDX-License-Identifier: Apache-2.0 AND BSD-3-Clause
-- `record::pending_ok` meets its contract: each arm is one row of `pending_ok`; a count is counted against the whole blocks of the plugged size.
use Prim.Native.Nat.{◌*◌, ◌/◌}
use mathlib.Core.Path.{◌≡◌}
use native.Mathlib.Nat.{le-div_iff_mul-le}
use lib.Dec.{leb}
use Rattle.units.proofs.Tests.{leb_same}
use Rattle.record.specs.Shape.{pending_ok}
use borrow.Author.Rules.{rules}
use Rattle.record.proofs.pending_ok.Goals as goal

pub returns-in-Nothing : goal.returns-in-Nothing
unfolding pending_ok
returns-in-Nothing c = search rules

pub returns-in-Create : goal.returns-in-Create
unfolding pending_ok
returns-in-Create c = rw c.in-Create.is (cc)

pub returns-in-Discard : goal.returns-in-Discard
unfolding pending_ok
returns-in-Discard c =
    let a = c.args in
    let count = c.in-Discard.count in
    let whole = le-div_iff_mul-le {x = count} {y = a.plugged} c.requires in
    let same : leb count (a.plugged / a.block_size) ≡ leb (count * a.block_size) a.plugged = leb_same count (a.plugged / a.block_size) (count * a.block_size) a.plugged whole.0 whole.1 in
    rw (c.in-Discard.is, ← same) (cc)

pub returns-in-DiscardOne : goal.returns-in-DiscardOne
unfolding pending_ok
returns-in-DiscardOne c = rw c.in-DiscardOne.is (cc)
