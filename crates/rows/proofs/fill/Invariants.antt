-- SPDX-License-Identifier: Apache-2.0 AND BSD-3-Clause
-- `fill` meets its contract. The invariant: filling the table from `row` on, as it stands now, gives what filling the lent table gives.
use Prim.Native.Nat.{◌+◌, ◌-◌, ◌*◌}
use mathlib.Core.Path.{◌≡◌}
use lib.ListN.{length}
use Rattle.units.specs.Numbers.{map_region}
use Rattle.rows.specs.Rows.{rows_of, written, fill_rows, rows_filled}
use Rattle.rows.proofs.fill.Given as goal

abbrev pub invariant-loop-row : goal.invariant-loop-row
invariant-loop-row l =
    (length l.table ≡ length l.initial.table) × (written l.table (fill_rows (rows_of l.table) l.row (l.last + 1 - l.row) (l.host.0 + (l.row - l.first) * map_region)) ≡ written l.initial.table (rows_filled (rows_of l.initial.table) l.first l.last l.host.0))
