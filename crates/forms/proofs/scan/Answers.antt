-- SPDX-License-Identifier: Apache-2.0 AND BSD-3-Clause
-- `forms::scan` meets its contract: the scan at 0, if it ends where the text does.
use Rattle.forms.proofs.Turns.{scan_at_end}
use Rattle.forms.proofs.scan.Goals as goal

pub returns-in-Some : goal.returns-in-Some
returns-in-Some c = scan_at_end _ _ c.scan_at.ensures _ c.in-Some.is
