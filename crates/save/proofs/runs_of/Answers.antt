-- SPDX-License-Identifier: Apache-2.0 AND BSD-3-Clause
-- `save::runs_of` meets its contract: a law for each of its ways out.
use mathlib.Core.Path.{refl, sym, ◌∙◌}
use native.Mathlib.Omega.{arith}
use Rattle.std.proofs.lemmas.Result.{err_from_is_err_and}
use Rattle.save.proofs.Laying.{missing_is, laid_shape, end_few, laid_bad, laid_other, laid}
use Rattle.save.proofs.runs_of.Goals as goal

pub returns-then-not-shape_ok : goal.returns-then-not-shape_ok
returns-then-not-shape_ok c = laid_shape _ _ _ c.shape_ok.ensures c.if-not-shape_ok.true

pub overflow_cast-end : goal.overflow_cast-end
overflow_cast-end c = let h = end_few _ _ (sym c.shape_ok.ensures ∙ c.if-not-shape_ok.false) c.blocks_in-end.ensures in omega arith

pub returns-in_err-n : goal.returns-in_err-n
returns-in_err-n c =
    let err = err_from_is_err_and c.from_residual.result c.from_residual.ensures.1 in
    let none = missing_is _ _ _ c.in_err-n.ensures.value in
    rw (err.1, err.2, none.0)
    (laid_bad _ _ (sym c.shape_ok.ensures ∙ c.if-not-shape_ok.false) c.blocks_in-end.ensures _ refl _ _ c.count_runs.ensures none.1)

pub returns-then-plugged-n : goal.returns-then-plugged-n
returns-then-plugged-n c = laid_other _ _ (sym c.shape_ok.ensures ∙ c.if-not-shape_ok.false) c.blocks_in-end.ensures _ refl _ _ c.count_runs.ensures _ _ c.in_ok-n.ensures.ok_part c.blocks_in-plugged.ensures c.if-plugged-n.true

pub returns : goal.returns
returns c = (refl, refl, laid _ _ (sym c.shape_ok.ensures ∙ c.if-not-shape_ok.false) c.blocks_in-end.ensures _ refl _ _ c.count_runs.ensures _ _ c.in_ok-n.ensures.ok_part c.blocks_in-plugged.ensures c.if-plugged-n.false)
