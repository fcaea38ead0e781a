-- SPDX-License-Identifier: Apache-2.0 AND BSD-3-Clause
-- `sentences::same_row` meets its contract.
use mathlib.Core.Path.{◌≡◌, sym}
use native.Mathlib.Omega.{arith}
use Rattle.bitmap.specs.Blocks.{blocks}
use Rattle.sentences.proofs.Rows.{same_none, same_more, same_not}
use Rattle.sentences.proofs.same_row.Goals as goal

pub loop-i-init : goal.loop-i-init
loop-i-init c = same_none _ _ _

pub loop-i-preserved : goal.loop-i-preserved
loop-i-preserved c =
    same_more (blocks c.args.bitmap.now) c.args.a c.args.b c.loop-i.i c.loop-i.invariant c.is_set-one.ensures c.is_set-other.ensures c.if-one-other.false

pub returns-then-one-other : goal.returns-then-one-other
returns-then-one-other c =
    sym (same_not (blocks c.args.bitmap.now) c.args.a c.args.b c.loop-i.i c.args.count c.loop-i-test.true c.is_set-one.ensures c.is_set-other.ensures c.if-one-other.true)

pub returns : goal.returns
returns c =
    let t = c.loop-i-test.false in
    let o = c.loop-i in
    let e : o.i ≡ c.args.count = omega arith in
    sym (rw e at o.invariant)
