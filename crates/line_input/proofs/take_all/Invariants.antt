-- SPDX-License-Identifier: Apache-2.0 AND BSD-3-Clause
-- `line_input::take_all` meets its contract. The invariant: the bytes before the index have gone in.
use Rattle.std.proofs.Common.{take}
use Rattle.line_input.specs.Lines.{Goes}
use Rattle.line_input.proofs.take_all.Given as goal

abbrev pub invariant-loop-b : goal.invariant-loop-b
invariant-loop-b g l = Goes l.fn.line.items (g.T.AnswerLine.answered l.fn.to) (take l.b-index l.piece) l.line.items (g.T.AnswerLine.answered l.to)
