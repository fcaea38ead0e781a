-- SPDX-License-Identifier: Apache-2.0 AND BSD-3-Clause
-- `line_input::answer_lines` meets its contract.
use Rattle.std.proofs.Common.{arith}
use Rattle.line_input.proofs.Going.{on_ok, reached_first, reached_next, reached_end}
use Rattle.line_input.proofs.answer_lines.Goals as goal

pub loop-init : goal.loop-init
loop-init g c = reached_first _ _ _ c.in_ok-line.ensures.items

pub returns-then-n-eq0 : goal.returns-then-n-eq0
returns-then-n-eq0 g c = on_ok _ (reached_end _ _ _ _ _ _ _ _ _ c.if-n-eq0.true c.loop.invariant c.in_ok-n.ensures.bytes.0 (c.in_ok-n.ensures.bytes.1 c.if-n-eq0.true (omega arith))) c.finish.ensures

pub loop-preserved : goal.loop-preserved
loop-preserved g c = reached_next _ _ _ _ _ _ _ _ _ _ c.loop.invariant c.in_ok-n.ensures.bytes.0 c.in_ok-take_all.ensures c.in_ok-flush.ensures
