-- SPDX-License-Identifier: Apache-2.0 AND BSD-3-Clause
-- `explaining::put_shown` meets its contract: the line, then whether it is cut.
use Rattle.text.proofs.Puts.{then}
use Rattle.explaining.proofs.put_shown.Goals as goal

pub returns : goal.returns
returns c = then c.put_visible-to.ensures c.put_cut.ensures
