-- SPDX-License-Identifier: Apache-2.0 AND BSD-3-Clause
-- `runs::runs_length` meets its contract.
use native.Mathlib.Omega.{arith}
use Rattle.bitmap.specs.Blocks.{blocks}
use Rattle.runs.proofs.Turns.{measured_start, measured_run, measured_none, run_inside}
use Rattle.runs.proofs.runs_length.Goals as goal

pub loop-run-init : goal.loop-run-init
loop-run-init c = measured_start _

pub overflow_add-i : goal.overflow_add-i
overflow_add-i c = omega (arith, (run_inside (blocks c.args.bitmap.now) c.args.end c.loop-run.i _ c.in-Some.ensures).0)

pub loop-run-smaller : goal.loop-run-smaller
loop-run-smaller c = let k = run_inside (blocks c.args.bitmap.now) c.args.end c.loop-run.i _ c.in-Some.ensures in omega (arith, k.0, k.1)

pub loop-run-preserved : goal.loop-run-preserved
loop-run-preserved c = measured_run _ c.loop-run.invariant _ c.in-Some.ensures _ _ c.line_length.ensures c.saturating_add-sum.ensures

pub returns : goal.returns
returns c = measured_none _ c.loop-run.invariant c.in_default.ensures
