-- SPDX-License-Identifier: Apache-2.0 AND BSD-3-Clause
-- `line_input::take_all` meets its contract.
use Rattle.std.proofs.lemmas.List.{take_more}
use Rattle.line_input.proofs.Going.{goes_nowhere, goes_on}
use Rattle.line_input.proofs.take_all.Goals as goal

pub loop-b-init : goal.loop-b-init
loop-b-init g c = goes_nowhere _ _

pub loop-b-preserved : goal.loop-b-preserved
loop-b-preserved g c = rw (take_more c.args.piece.now c.loop-b.b-index 0 c.loop-b-test.true) (goes_on _ _ _ _ _ _ _ _ c.loop-b.invariant c.in_ok-take.ensures)
