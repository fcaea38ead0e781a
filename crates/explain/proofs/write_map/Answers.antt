-- SPDX-License-Identifier: Apache-2.0 AND BSD-3-Clause
-- `explain::write_map` is safe: there are at most 4,096 rows.
use Rattle.std.proofs.Common.{arith}
use Rattle.explain.proofs.write_map.Goals as goal

pub loop-row-init : goal.loop-row-init
loop-row-init g c = let e = c.min-rows.ensures in (omega arith, omega arith)
