-- SPDX-License-Identifier: Apache-2.0 AND BSD-3-Clause
-- `explain::write_map` is safe. Invariant: the first row of the run stands before the row, and there are at most 4,096.
use Rattle.std.proofs.Common.{◌≤◌, ◌<◌}
use Rattle.explain.proofs.write_map.Given as goal

abbrev pub invariant-loop-row : goal.invariant-loop-row
invariant-loop-row g l = (l.first < l.row) × (l.rows ≤ 4096)
