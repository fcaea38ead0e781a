-- SPDX-License-Identifier: Apache-2.0 AND BSD-3-Clause
-- `first_unmapped` meets its contract. The invariant: the search from `row` on gives what the search from `first` on gives.
use Prim.Native.Nat.{suc, ◌+◌, ◌-◌}
use mathlib.Core.Path.{◌≡◌, refl, sym, ap, ◌∙◌}
use native.Mathlib.Omega.{arith}
use Rattle.rows.specs.Rows.{rows_of, row_at, unmapped_from}
use Rattle.rows.proofs.Turns.{range_nothing, search_on, search_ends}
use Rattle.rows.proofs.first_unmapped.Goals as goal

pub loop-row-init : goal.loop-row-init
loop-row-init c = refl

pub loop-row-preserved : goal.loop-row-preserved
loop-row-preserved c =
    let a = c.args in
    let o = c.loop-row in
    let n : a.last + 1 - o.row ≡ suc (a.last + 1 - (o.row + 1)) = omega arith in
    search_on (rows_of a.table.now) o.row (a.last + 1 - (o.row + 1)) (omega arith) (λ z. c.if-unmapped.false (ap (λ r. r.mapped) c.row_at-unmapped.ensures ∙ z)) ∙ rw n at o.invariant

pub returns-then-unmapped : goal.returns-then-unmapped
returns-then-unmapped c =
    let a = c.args in
    let o = c.loop-row in
    let n : a.last + 1 - o.row ≡ suc (a.last + 1 - (o.row + 1)) = omega arith in
    let z : (row_at (rows_of a.table.now) o.row).mapped ≡ 0 = sym (ap (λ r. r.mapped) c.row_at-unmapped.ensures) ∙ c.if-unmapped.true in
    search_ends (rows_of a.table.now) o.row (a.last + 1 - (o.row + 1)) (omega arith) z ∙ rw n at o.invariant

pub returns-then-end-row : goal.returns-then-end-row
unfolding unmapped_from
returns-then-end-row c =
    let a = c.args in
    let o = c.loop-row in
    rw (range_nothing (rows_of a.table.now) o.row (a.last + 1 - o.row) (omega arith)) at o.invariant
