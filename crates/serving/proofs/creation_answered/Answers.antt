-- SPDX-License-Identifier: Apache-2.0 AND BSD-3-Clause
-- `serving::creation_answered` meets its contract: 10 where the host failed, then 9.
use native.Mathlib.Omega.{arith}
use Rattle.record.proofs.Laws.{shaped_is, create_is}
use Rattle.serving.proofs.Creation.{failed, past, done}
use Rattle.serving.proofs.creation_answered.Goals as goal

pub returns-then-not-ok : goal.returns-then-not-ok
returns-then-not-ok c = failed _ _ _ _ _ _ _ _ c.pending_to.ensures c.if-not-ok.true c.refuse_as.ensures

pub covered_by-requires : goal.covered_by-requires
covered_by-requires c =
    let r = create_is _ c.args.shaped.shape _ _ c.requires in
    let s = shaped_is _ c.args.shaped.shape in
    (r.ordered, omega (arith, r.inside, s.rows_few))

pub returns-then-not-sum_within : goal.returns-then-not-sum_within
returns-then-not-sum_within c =
    past _ _ _ _ _ _ _ c.if-not-ok.false _ _ c.covered_by.ensures c.sum_within.ensures c.if-not-sum_within.true c.refuse_as-then-not-sum_within.ensures

pub returns : goal.returns
returns c = done _ _ _ _ _ _ _ c.if-not-ok.false _ _ c.covered_by.ensures c.sum_within.ensures c.if-not-sum_within.false _ c.created.ensures
