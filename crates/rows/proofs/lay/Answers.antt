-- SPDX-License-Identifier: Apache-2.0 AND BSD-3-Clause
-- `lay` meets its contract. The invariant: laying the rest of the slots from row j on, in the table as it stands now, gives what laying them all in the lent table gives.
use mathlib.Core.Path.{refl, sym, ap, ◌∙◌}
use lib.ListN.{drop_of_length-le}
use Rattle.rows.specs.Rows.{rows_of, written}
use Rattle.rows.proofs.Turns.{laid_start, laid_none, laid_put}
use Rattle.rows.proofs.Words.{whole, put_length}
use Rattle.rows.proofs.lay.Goals as goal

pub loop-j-init : goal.loop-j-init
loop-j-init c = let t = c.args.table.now in (refl, ap (written t) (laid_start (rows_of t) c.args.slots.now))

pub loop-j-preserved : goal.loop-j-preserved
loop-j-preserved c =
    let a = c.args in
    let o = c.loop-j in
    let p = c.put_row in
    let e = rw c.from.ensures at p.ensures in
    (put_length o.table p.new.table o.j _ e ∙ o.invariant.0, laid_put o.table p.new.table o.j a.slots.now c.loop-j-test.true e ∙ o.invariant.1)

pub returns : goal.returns
returns c =
    let o = c.loop-j in
    sym (whole o.table) ∙ rw (drop_of_length-le c.args.slots.now c.loop-j-test.false, laid_none) at o.invariant.1
