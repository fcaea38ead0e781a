-- SPDX-License-Identifier: Apache-2.0 AND BSD-3-Clause
-- `Refusal::number` meets its contract.
use Rattle.refusal.proofs.Numbered.{numbered}
use Rattle.refusal.proofs.Refusal.number.Goals as goal

pub returns : goal.returns
returns c = numbered c.args.self
