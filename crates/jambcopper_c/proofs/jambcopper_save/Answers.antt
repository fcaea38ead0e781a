-- SPDX-License-Identifier: Apache-2.0 AND BSD-3-Clause
-- `jambcopper_c::jambcopper_save` promises what the function that it calls does. `search` finds that too, but of a wrong program it only says that it gave up.
use Rattle.jambcopper_c.proofs.jambcopper_save.Goals as goal

pub returns : goal.returns
returns c = c.jambcopper_save.ensures
