-- SPDX-License-Identifier: Apache-2.0 AND BSD-3-Clause
-- `run_rows` meets its contract: before the first row none differs.
use native.Mathlib.Omega.{arith}
use Rattle.test_support.proofs.run_rows.Goals as goal

pub loop-line-init : goal.loop-line-init
loop-line-init g c = omega arith
