-- SPDX-License-Identifier: Apache-2.0 AND BSD-3-Clause
-- `sentences::put_row` meets its contract.
use mathlib.Core.Path.{◌≡◌}
use native.Mathlib.Omega.{arith}
use Rattle.text.proofs.Puts.{then}
use Rattle.sentences.specs.Summary.{row_text}
use Rattle.sentences.proofs.Rows.{put_none, put_long, row_more}
use Rattle.sentences.proofs.put_row.Goals as goal

pub loop-i-init : goal.loop-i-init
unfolding row_text
loop-i-init c = put_none _ _ _ c.within-to.ensures

pub loop-i-preserved : goal.loop-i-preserved
loop-i-preserved c =
    rw (row_more _ _ _, ← c.is_set.ensures, ← c.mark_of.ensures)
    (then c.loop-i.invariant c.put-to.ensures)

pub shape_of-out : goal.shape_of-out
shape_of-out c = put_long c.loop-i.invariant

pub returns : goal.returns
returns c =
    let t = c.loop-i-test.false in
    let o = c.loop-i in
    let e : o.i ≡ c.args.count = omega arith in
    rw (← e) o.invariant
