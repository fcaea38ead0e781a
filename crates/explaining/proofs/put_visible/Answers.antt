-- SPDX-License-Identifier: Apache-2.0 AND BSD-3-Clause
-- `explaining::put_visible` meets its contract.
use lib.Seq.{take_all}
use Rattle.text.proofs.Puts.{then}
use Rattle.sentences.proofs.Rows.{put_none, put_long}
use Rattle.explaining.specs.Explaining.{visibles}
use Rattle.explaining.proofs.Laws.{visible_more}
use Rattle.explaining.proofs.put_visible.Goals as goal

pub loop-x-init : goal.loop-x-init
unfolding visibles
loop-x-init c = put_none _ _ _ c.within-to.ensures

pub loop-x-preserved : goal.loop-x-preserved
loop-x-preserved c =
    rw (visible_more _ c.loop-x.x-index c.loop-x-test.true, ← c.shown_as.ensures)
    (then c.loop-x.invariant c.put-to.ensures)

pub shape_of-out : goal.shape_of-out
shape_of-out c = put_long c.loop-x.invariant

pub returns : goal.returns
returns c =
    let end = c.loop-x-test.false in
    rw (← c.first_bytes-first.ensures, ← take_all c.loop-x.x-index c.first_bytes-first.result.now end) c.loop-x.invariant
