-- SPDX-License-Identifier: Apache-2.0 AND BSD-3-Clause
-- `save::read` meets its contract.
use mathlib.Core.Path.{refl}
use mathlib.Core.List.{[]}
use borrow.Author.Tests.{lt-ltb, le-ltb}
use Rattle.std.proofs.lemmas.Result.{err_from_is_err_and}
use Rattle.save.proofs.Turns.{too_short, not_read, read_large, read_state}
use Rattle.save.proofs.read.Goals as goal

pub returns-then-bitmap-lt-BITMAP : goal.returns-then-bitmap-lt-BITMAP
returns-then-bitmap-lt-BITMAP c = (too_short _ _ _ (lt-ltb _ _ c.if-bitmap-lt-BITMAP.true), refl)

pub returns-in_err-found : goal.returns-in_err-found
returns-in_err-found c =
    let err = err_from_is_err_and c.from_residual.result c.from_residual.ensures.1 in
    rw (err.1, err.2) (not_read _ _ _ _ (le-ltb _ _ c.if-bitmap-lt-BITMAP.false) c.in_err-found.ensures, refl)

pub returns-then-most-all : goal.returns-then-most-all
returns-then-most-all c = (read_large _ c.args.bitmap.now [] [] c.if-bitmap-lt-BITMAP.false _ _ c.in_ok-found.ensures _ c.blocks_in-all.ensures _ c.if-most-all.true, refl)

pub returns : goal.returns
returns c = read_state _ _ _ _ c.if-bitmap-lt-BITMAP.false _ _ c.in_ok-found.ensures _ c.blocks_in-all.ensures _ c.if-most-all.false c.set_range.ensures c.lay_runs.ensures
