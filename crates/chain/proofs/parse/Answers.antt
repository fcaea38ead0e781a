-- SPDX-License-Identifier: Apache-2.0 AND BSD-3-Clause
-- `chain::parse` meets its contract: its two calls are those of `parsed`.
use Rattle.chain.specs.Chain.{parsed}
use Rattle.chain.proofs.parse.Goals as goal

pub returns : goal.returns
unfolding parsed
returns c = simp (c.with_first.ensures, c.link_at.ensures)
