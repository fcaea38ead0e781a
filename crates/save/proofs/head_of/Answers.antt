-- SPDX-License-Identifier: Apache-2.0 AND BSD-3-Clause
-- `save::head_of` meets its contract: a law for each of its ways out.
use Rattle.std.proofs.lemmas.Result.{err_from_is_err_and}
use Rattle.save.proofs.Heading.{form_found, form_nowhere, head_none, head_later, head_other, head_two}
use Rattle.save.proofs.Laying.{missing_is}
use Rattle.save.proofs.head_of.Goals as goal

pub returns-in_err-at : goal.returns-in_err-at
returns-in_err-at c =
    let err = err_from_is_err_and c.from_residual.result c.from_residual.ensures.1 in
    let none = missing_is _ _ _ c.in_err-at.ensures.value in
    rw (err.1, err.2, none.0) (head_none _ (form_nowhere _ c.scan_at-found.ensures none.1))

pub returns-then-form-gt-FORM : goal.returns-then-form-gt-FORM
returns-then-form-gt-FORM c = head_later _ _ _ (form_found _ c.scan_at-found.ensures _ c.in_ok-at.ensures.ok_part) c.if-form-gt-FORM.true

pub returns-then-form-ne-FORM : goal.returns-then-form-ne-FORM
returns-then-form-ne-FORM c = head_other _ _ _ (form_found _ c.scan_at-found.ensures _ c.in_ok-at.ensures.ok_part) c.if-form-gt-FORM.false c.if-form-ne-FORM.true

pub returns : goal.returns
returns c = head_two _ _ _ (form_found _ c.scan_at-found.ensures _ c.in_ok-at.ensures.ok_part) c.if-form-ne-FORM.false c.fields_at.result c.fields_at.ensures
