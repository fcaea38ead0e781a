-- SPDX-License-Identifier: Apache-2.0 AND BSD-3-Clause
-- `rows::put_row` meets its contract: row i stands in the words 3i, 3i + 1 and 3i + 2.
use Prim.Native.Nat.{◌+◌, ◌*◌, ◌<◌}
use mathlib.Core.Path.{sym, ap, ◌∙◌}
use native.Mathlib.Omega.{arith}
use lib.ListN.{length, length-set}
use Rattle.rows.specs.Rows.{rows_of, written}
use lib.Seq.{set_out}
use Rattle.rows.proofs.Words.{count, whole, stores}
use Rattle.rows.proofs.put_row.Goals as goal

pub returns-then-row_count-row : goal.returns-then-row_count-row
returns-then-row_count-row c =
    let a = c.args in
    sym (ap (written a.table.now) (set_out (rows_of a.table.now) a.row a.to (omega arith)) ∙ whole a.table.now)

pub bounds-table-at-2 : goal.bounds-table-at-2
bounds-table-at-2 c =
    let a = c.args in
    let h : 3 * a.row + 1 < length a.table.now = omega (arith, count a.table.now) in
    simp length-set h

pub bounds-table-at-3 : goal.bounds-table-at-3
bounds-table-at-3 c =
    let a = c.args in
    let h : 3 * a.row + 2 < length a.table.now = omega (arith, count a.table.now) in
    simp length-set h

pub returns : goal.returns
returns c = stores c.args.table.now c.args.row c.args.to.slot c.args.to.mapped c.args.to.host.0 (omega arith)
