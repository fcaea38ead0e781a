-- SPDX-License-Identifier: Apache-2.0 AND BSD-3-Clause
-- `rows::row_at` meets its contract: row i stands in the words 3i, 3i + 1 and 3i + 2.
use mathlib.Core.Path.{sym}
use native.Mathlib.Omega.{arith}
use Rattle.rows.specs.Rows.{rows_of}
use lib.ListN.{get_or-eq_default}
use Rattle.rows.proofs.Words.{words_of_row}
use Rattle.rows.proofs.row_at.Goals as goal

pub returns-then-row_count-row : goal.returns-then-row_count-row
returns-then-row_count-row c = sym (get_or-eq_default (rows_of c.args.table.now) _ (omega arith))

pub returns : goal.returns
returns c = words_of_row c.args.table.now c.args.row (omega arith)
