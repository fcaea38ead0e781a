-- SPDX-License-Identifier: Apache-2.0 AND BSD-3-Clause
-- `line_input::finish` meets its contract.
use Rattle.std.proofs.Common.{arith}
use Rattle.line_input.proofs.Going.{none_left}
use Rattle.line_input.proofs.finish.Goals as goal

pub returns-then-is_empty : goal.returns-then-is_empty
returns-then-is_empty g c = none_left _ _ _ _ c.is_empty.ensures c.if-is_empty.true (omega arith)
