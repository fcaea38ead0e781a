-- SPDX-License-Identifier: Apache-2.0 AND BSD-3-Clause
-- `saving::save_length` meets its contract.
use Rattle.std.proofs.lemmas.Result.{err_from_is_err_and}
use Rattle.saving.proofs.Turns.{not_measured, measured}
use Rattle.saving.proofs.save_length.Goals as goal

pub returns-in_err-entry_refusal : goal.returns-in_err-entry_refusal
returns-in_err-entry_refusal c =
    let err = err_from_is_err_and c.from_residual.result c.from_residual.ensures.1 in
    rw (err.1, err.2) (not_measured _ _ _ c.in_err-entry_refusal.ensures)

pub returns : goal.returns
returns c = measured _ _ c.in_ok-entry_refusal.ensures _ c.fields_in.ensures _ c.text_length.ensures
