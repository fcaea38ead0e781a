-- SPDX-License-Identifier: Apache-2.0 AND BSD-3-Clause
-- `lay` meets its contract. The invariant: laying the rest of the slots from row j on, in the table as it stands now, gives what laying them all in the lent table gives.
use mathlib.Core.Path.{◌≡◌}
use lib.ListN.{length, drop}
use Rattle.rows.specs.Rows.{rows_of, written, rows_laid}
use Rattle.rows.proofs.Turns.{laid_from}
use Rattle.rows.proofs.lay.Given as goal

abbrev pub invariant-loop-j : goal.invariant-loop-j
invariant-loop-j l = (length l.table ≡ length l.initial.table) × (written l.table (laid_from l.j (rows_of l.table) (drop l.j l.slots)) ≡ written l.initial.table (rows_laid (rows_of l.initial.table) l.slots))
