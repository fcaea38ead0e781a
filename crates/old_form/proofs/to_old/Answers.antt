-- SPDX-License-Identifier: Apache-2.0 AND BSD-3-Clause
-- `old_form::to_old` meets its contract.
use mathlib.Core.Path.{refl}
use Rattle.std.proofs.lemmas.Result.{err_from_is_err_and}
use Rattle.old_form.proofs.Turns.{fits_both, unpacked}
use Rattle.old_form.proofs.to_old.Goals as goal

pub returns-in_err-f : goal.returns-in_err-f
returns-in_err-f c = let g = c.in_err-f.ensures in let err = err_from_is_err_and c.from_residual.result c.from_residual.ensures.1 in
    rw (err.1, err.2) (g.0, g.1, refl)

pub unpack-requires : goal.unpack-requires
unpack-requires c = fits_both c.args.s.now c.args.scratch.now _ c.args.old.now _ c.in_ok-f.ensures _ c.blocks_in-all.ensures

pub returns : goal.returns
returns c = unpacked _ _ _ _ _ c.in_ok-f.ensures _ c.blocks_in-all.ensures _ c.unpack.ensures
