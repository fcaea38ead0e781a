-- SPDX-License-Identifier: Apache-2.0 AND BSD-3-Clause
-- `saving::restore` meets its contract.
use Rattle.std.proofs.lemmas.Result.{err_from_is_err_and}
use Rattle.saving.proofs.Turns.{shut_out, bitmap_short, text_bad, unfit, laid}
use Rattle.saving.proofs.restore.Goals as goal

pub returns-in_err-entry_refusal : goal.returns-in_err-entry_refusal
returns-in_err-entry_refusal c =
    let err = err_from_is_err_and c.from_residual.result c.from_residual.ensures.1 in
    rw (err.1, err.2) (shut_out _ _ _ _ c.in_err-entry_refusal.ensures)

pub returns-then-is_short : goal.returns-then-is_short
returns-then-is_short c = bitmap_short _ _ _ c.in_ok-entry_refusal.ensures _ c.blocks_in.ensures _ c.is_short.ensures c.if-is_short.true

pub returns-in_err-found : goal.returns-in_err-found
returns-in_err-found c =
    let err = err_from_is_err_and c.from_residual-in_err-found.result c.from_residual-in_err-found.ensures.1 in
    rw (err.1, err.2) (text_bad _ _ _ c.in_ok-entry_refusal.ensures _ c.blocks_in.ensures _ c.is_short.ensures c.if-is_short.false _ c.in_err-found.ensures)

pub returns-then-not-fits_on : goal.returns-then-not-fits_on
returns-then-not-fits_on c = unfit _ _ _ c.in_ok-entry_refusal.ensures _ c.blocks_in.ensures _ c.is_short.ensures c.if-is_short.false _ _ c.in_ok-found.ensures _ c.fits_on.ensures c.if-not-fits_on.true

pub returns : goal.returns
returns c = laid _ _ _ c.in_ok-entry_refusal.ensures _ c.blocks_in.ensures _ c.is_short.ensures c.if-is_short.false _ _ c.in_ok-found.ensures _ c.fits_on.ensures c.if-not-fits_on.false _ c.lay_runs.ensures
