-- SPDX-License-Identifier: Apache-2.0 AND BSD-3-Clause
-- `serving::one_answered` meets its contract: the block is clear when the search goes on behind it.
use native.Mathlib.Omega.{arith}
use Rattle.record.proofs.Laws.{shaped_is, discard_one_is}
use Rattle.serving.proofs.Entries.{less_shaped, one_fails, one_done}
use Rattle.serving.proofs.one_answered.Goals as goal

pub returns-then-not-ok : goal.returns-then-not-ok
returns-then-not-ok c = one_fails _ _ _ c.args.shaped.shape _ _ _ _ _ c.if-not-ok.true c.stopped.ensures

pub overflow_add-block : goal.overflow_add-block
overflow_add-block c =
    omega (arith, shaped_is _ c.args.shaped.shape, discard_one_is _ c.args.shaped.shape _ _ c.requires)

pub invariant_of-cleared : goal.invariant_of-cleared
invariant_of-cleared c = record { shape = less_shaped _ _ _ _ c.args.shaped.shape c.saturating_sub-left.ensures c.plugged_to.ensures c.pending_to.ensures }

pub returns : goal.returns
returns c =
    one_done _ _ _ c.args.shaped.shape _ _ _ _ _ c.if-not-ok.false _ c.set_range.ensures _ c.saturating_sub-left.ensures _ _
    c.plugged_to.ensures c.pending_to.ensures c.unplug_all.ensures
