-- SPDX-License-Identifier: Apache-2.0 AND BSD-3-Clause
-- `trace_run::go_on` meets its contract: the answer of the op is printed.
use mathlib.Core.Path.{refl}
use Rattle.step.specs.World.{world_of}
use Rattle.step.specs.Step.{step}
use Rattle.trace_run.specs.Ops.{op_call}
use Rattle.trace_run.proofs.Laws.{applied_comes}
use Rattle.trace_run.proofs.go_on.Goals as goal

pub returns : goal.returns
returns c =
    let a = c.args in
    let m = c.apply-s.ensures in
    applied_comes (step (world_of a.d a.bitmap.now a.table.now) (op_call a.op a.mem.now)) _
    m.answered m.recorded m.leaves.marked m.leaves.mapped m.leaves.left c.answer.ensures refl
