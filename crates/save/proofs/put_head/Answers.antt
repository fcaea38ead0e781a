-- SPDX-License-Identifier: Apache-2.0 AND BSD-3-Clause
-- `save::put_head` meets its contract.
use Rattle.text.proofs.Puts.{then}
use Rattle.save.proofs.put_head.Goals as goal

pub returns : goal.returns
returns c = then c.put_form-to.ensures c.put_form_at.ensures
