-- SPDX-License-Identifier: Apache-2.0 AND BSD-3-Clause
-- `responses::put_nack` meets its contract.
use Rattle.responses.proofs.put_nack.Goals as goal

pub returns : goal.returns
returns c = c.put_form_at.ensures
