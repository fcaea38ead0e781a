-- SPDX-License-Identifier: Apache-2.0 AND BSD-3-Clause
-- `serving::asked` meets its contract.
use Rattle.serving.proofs.asked.Goals as goal

pub returns : goal.returns
returns c = cc
