-- SPDX-License-Identifier: Apache-2.0 AND BSD-3-Clause
-- `runs::put_runs` meets its contract.
use native.Mathlib.Omega.{arith}
use Rattle.bitmap.specs.Blocks.{blocks}
use Rattle.runs.proofs.Turns.{going_start, going_long, going_run, going_none, run_inside}
use Rattle.runs.proofs.put_runs.Goals as goal

pub loop-run-init : goal.loop-run-init
loop-run-init c = going_start _ _ _ _ c.within-to.ensures

pub overflow_add-i : goal.overflow_add-i
overflow_add-i c = omega (arith, (run_inside (blocks c.args.bitmap.now) c.args.end c.loop-run.i _ c.in-Some.ensures).0)

pub loop-run-smaller : goal.loop-run-smaller
loop-run-smaller c = let k = run_inside (blocks c.args.bitmap.now) c.args.end c.loop-run.i _ c.in-Some.ensures in omega (arith, k.0, k.1)

pub loop-run-preserved : goal.loop-run-preserved
loop-run-preserved c = going_run _ c.loop-run.invariant _ c.in-Some.ensures c.put_form_at-to.ensures

pub shape_of-out : goal.shape_of-out
shape_of-out c = going_long c.loop-run.invariant

pub returns : goal.returns
returns c = going_none _ c.loop-run.invariant c.in_default.ensures
