-- SPDX-License-Identifier: Apache-2.0 AND BSD-3-Clause
-- `first_unmapped` meets its contract. The invariant: the search from `row` on gives what the search from `first` on gives.
use Prim.Native.Nat.{◌+◌, ◌-◌}
use mathlib.Core.Path.{◌≡◌}
use lib.ListN.{take, drop}
use Rattle.rows.specs.Rows.{rows_of, unmapped_from, first_unmapped}
use Rattle.rows.proofs.first_unmapped.Given as goal

abbrev pub invariant-loop-row : goal.invariant-loop-row
invariant-loop-row l = unmapped_from l.row (take (l.last + 1 - l.row) (drop l.row (rows_of l.table))) ≡ first_unmapped (rows_of l.table) l.first l.last

abbrev pub decreases-loop-row : goal.decreases-loop-row
decreases-loop-row l = l.end - l.row
