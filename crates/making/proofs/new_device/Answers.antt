-- SPDX-License-Identifier: Apache-2.0 AND BSD-3-Clause
-- `making::new_device` meets its contract.
use Rattle.making.proofs.new_device.Goals as goal

pub returns : goal.returns
returns c = simp (c.features.ensures, c.is_some.ensures, c.new-config.ensures, c.unwrap_or.ensures)
