-- SPDX-License-Identifier: Apache-2.0 AND BSD-3-Clause
-- `runs::line_length` meets its contract.
use mathlib.Core.Path.{refl}
use native.Mathlib.Omega.{arith}
use Rattle.runs.proofs.Turns.{line_is}
use Rattle.runs.proofs.line_length.Goals as goal

pub returns : goal.returns
returns c = line_is _ _ _ refl (omega arith) (omega arith) c.put_form_at.ensures
