-- SPDX-License-Identifier: Apache-2.0 AND BSD-3-Clause
-- `step::sized` meets its contract.
use Rattle.step.proofs.sized.Goals as goal

pub returns : goal.returns
returns c = simp (c.grown_size-usable.ensures, c.new_size-new.ensures)
