-- SPDX-License-Identifier: Apache-2.0 AND BSD-3-Clause
-- `runs::lay_runs` meets its contract. The invariant: what is right for the text that is left is right for the whole (`Setting`).
use Rattle.runs.proofs.Lines.{setting_start, set_none, line_less, set_turn}
use Rattle.runs.proofs.lay_runs.Goals as goal

pub loop-run-init : goal.loop-run-init
loop-run-init c = setting_start _ _ _

pub loop-run-smaller : goal.loop-run-smaller
loop-run-smaller c = line_less _ _ _ c.in-Some.ensures

pub loop-run-preserved : goal.loop-run-preserved
loop-run-preserved c = set_turn c.loop-run.invariant _ c.in-Some.ensures _ c.set_range.ensures

pub returns : goal.returns
returns c = set_none c.loop-run.invariant c.in_default.ensures
