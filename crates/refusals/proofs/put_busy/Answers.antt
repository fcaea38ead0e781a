-- SPDX-License-Identifier: Apache-2.0 AND BSD-3-Clause
-- `refusals::put_busy` meets its contract: one text after the other.
use Rattle.refusals.specs.Refusals.{busy_text}
use Rattle.text.proofs.Puts.{then}
use Rattle.refusals.proofs.put_busy.Goals as goal

pub returns : goal.returns
unfolding busy_text
returns c = then c.put_form_at-to.ensures c.put_waits.ensures
