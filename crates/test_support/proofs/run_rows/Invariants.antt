-- SPDX-License-Identifier: Apache-2.0 AND BSD-3-Clause
-- `test_support::run_rows`: the invariant is that no more rows differ than there are.
use Rattle.std.proofs.Common.{◌≤◌}
use Rattle.test_support.proofs.run_rows.Given as goal

abbrev pub invariant-loop-line : goal.invariant-loop-line
invariant-loop-line g l = l.count.differing ≤ l.count.rows
