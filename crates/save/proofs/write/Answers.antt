-- SPDX-License-Identifier: Apache-2.0 AND BSD-3-Clause
-- `save::write` meets its contract.
use mathlib.Core.Path.{refl}
use Rattle.std.proofs.lemmas.Result.{err_from_is_err_and}
use Rattle.save.proofs.Turns.{write_refused, write_short, write_fits, text_put}
use Rattle.save.proofs.write.Goals as goal

pub returns-in_err-n : goal.returns-in_err-n
returns-in_err-n c =
    let err = err_from_is_err_and c.from_residual.result c.from_residual.ensures.1 in
    rw (err.1, err.2) record { answer = write_refused _ _ _ _ c.in_err-n.ensures; buffer = refl }

pub returns-then-out-n : goal.returns-then-out-n
returns-then-out-n c = record { answer = write_short _ _ _ c.in_ok-n.ensures _ c.if-out-n.true; buffer = refl }

pub returns : goal.returns
returns c = record { answer = write_fits _ _ _ c.in_ok-n.ensures _ c.if-out-n.false; buffer = text_put _ _ _ c.blocks_in-all.ensures c.put_head-to.ensures c.put_runs.ensures }
