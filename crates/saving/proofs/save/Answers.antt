-- SPDX-License-Identifier: Apache-2.0 AND BSD-3-Clause
-- `saving::save` meets its contract.
use Rattle.std.proofs.lemmas.Result.{err_from_is_err_and}
use Rattle.saving.proofs.Turns.{not_saved, saved}
use Rattle.saving.proofs.save.Goals as goal

pub returns-in_err-entry_refusal : goal.returns-in_err-entry_refusal
returns-in_err-entry_refusal c =
    let err = err_from_is_err_and c.from_residual.result c.from_residual.ensures.1 in
    rw (err.1, err.2) (not_saved _ _ _ c.in_err-entry_refusal.ensures _)

pub returns : goal.returns
returns c = saved _ _ c.in_ok-entry_refusal.ensures _ c.fields_in.ensures _ _ _ c.write.ensures
