-- SPDX-License-Identifier: Apache-2.0 AND BSD-3-Clause
-- `runs::run_at` meets its contract.
use Rattle.runs.proofs.Lines.{run_found, run_nowhere}
use Rattle.runs.proofs.run_at.Goals as goal

pub returns-in_err-next : goal.returns-in_err-next
returns-in_err-next c = rw c.from_residual.ensures (run_nowhere _ c.args.at c.scan_at.ensures c.in_err-next.was)

pub returns : goal.returns
returns c = run_found _ c.args.at c.scan_at.ensures _ c.in_ok-next.was
