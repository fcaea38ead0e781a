-- SPDX-License-Identifier: Apache-2.0 AND BSD-3-Clause
-- `fill` meets its contract. The invariant: filling the table from `row` on, as it stands now, gives what filling the lent table gives.
use Prim.Native.Nat.{suc, ◌+◌, ◌-◌, ◌*◌, ◌<◌}
use mathlib.Core.Path.{◌≡◌, refl, sym, ◌∙◌}
use native.Mathlib.Omega.{arith}
use lib.ListN.{length}
use Rattle.units.specs.Numbers.{saturated, map_region}
use Rattle.rows.specs.Rows.{rows_of}
use Rattle.rows.proofs.Laws.{fill_nothing}
use Rattle.rows.proofs.Turns.{next_at, saturated_twice, fill_put}
use Rattle.rows.proofs.Words.{count, whole, put_length}
use Rattle.rows.proofs.fill.Goals as goal

pub loop-row-init : goal.loop-row-init
loop-row-init c =
    let a = c.args in
    let e : a.host.0 + (a.first - a.first) * map_region ≡ a.host.0 = omega arith in
    (refl, rw e)

pub loop-row-preserved : goal.loop-row-preserved
loop-row-preserved c =
    let a = c.args in
    let o = c.loop-row in
    let p = c.put_row in
    let l : o.row < length (rows_of o.table) = omega (arith, count o.table, count a.table.now) in
    let n : a.last + 1 - o.row ≡ suc (a.last + 1 - (o.row + 1)) = omega arith in
    let h : a.host.0 + (o.row + 1 - a.first) * map_region ≡ a.host.0 + (o.row - a.first) * map_region + map_region = next_at a.host.0 a.first o.row (omega arith) in
    let e : c.host_from-at.result.0 ≡ saturated (a.host.0 + (o.row - a.first) * map_region) =
    saturated_twice a.host.0 c.of_map_region.result.0 ((o.row - a.first) * map_region) c.host_from-at.result.0 c.of_map_region.ensures c.host_from-at.ensures in
    (put_length o.table p.new.table o.row _ p.ensures ∙ o.invariant.0, rw h (fill_put o.table p.new.table o.row (a.last + 1 - (o.row + 1)) (a.host.0 + (o.row - a.first) * map_region) c.slot_of-slot.result c.host_from-at.result.0 l c.slot_of-slot.ensures e p.ensures) ∙ rw n at o.invariant.1)

pub returns : goal.returns
returns c =
    let a = c.args in
    let o = c.loop-row in
    sym (whole o.table) ∙ rw (fill_nothing (rows_of o.table) o.row (a.last + 1 - o.row) (a.host.0 + (o.row - a.first) * map_region) (omega (arith, count o.table, count a.table.now))) at o.invariant.1
