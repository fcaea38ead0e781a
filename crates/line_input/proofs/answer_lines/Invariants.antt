-- SPDX-License-Identifier: Apache-2.0 AND BSD-3-Clause
-- `line_input::answer_lines` meets its contract. The invariant: with what is left of the input, the answers are those of the whole.
use Rattle.line_input.proofs.Going.{Reached}
use Rattle.line_input.proofs.answer_lines.Given as goal

abbrev pub invariant-loop : goal.invariant-loop
invariant-loop g l = Reached (g.R.Read.remaining l.fn.from) (g.T.AnswerLine.answered l.fn.to) l.line.items (g.R.Read.remaining l.from) (g.T.AnswerLine.answered l.to)
