-- SPDX-License-Identifier: Apache-2.0 AND BSD-3-Clause
-- `rows::mapping_of` meets its contract: a row is mapped exactly if its second word is not 0.
use Rattle.std.specs.Prelude.{Some}
use mathlib.Core.Path.{sym, ap, ◌∙◌}
use native.Mathlib.Omega.{arith}
use Rattle.std.proofs.Common.{◌≢◌}
use Rattle.rows.specs.Rows.{rows_of}
use Rattle.rows.proofs.Laws.{mapping_unmapped, mapping_at}
use Rattle.rows.proofs.mapping_of.Goals as goal

pub returns-then-unmapped : goal.returns-then-unmapped
returns-then-unmapped c =
    let a = c.args in
    let e = ap (λ r. r.mapped) c.row_at-found.ensures in
    sym (mapping_unmapped (rows_of a.table.now) a.row (omega arith))

pub returns : goal.returns
returns c =
    let a = c.args in
    let e = c.row_at-found.ensures in
    let n : c.row_at-found.result.mapped ≢ 0 = omega arith in
    ap (λ r. Some r.host) e ∙ sym (mapping_at (rows_of a.table.now) a.row (λ z. n (ap (λ r. r.mapped) e ∙ z)))
