-- SPDX-License-Identifier: Apache-2.0 AND BSD-3-Clause
-- `save::fields_at` meets its contract.
use mathlib.Core.Path.{refl}
use Rattle.std.proofs.lemmas.Result.{err_from_is_err_and}
use Rattle.save.proofs.Heading.{fields_found, fields_nowhere}
use Rattle.save.proofs.Laying.{missing_is}
use Rattle.save.proofs.fields_at.Goals as goal

pub returns-in_err-runs : goal.returns-in_err-runs
returns-in_err-runs c =
    let err = err_from_is_err_and c.from_residual.result c.from_residual.ensures.1 in
    let none = missing_is _ _ _ c.in_err-runs.ensures.value in
    rw (err.1, err.2, none.0) (refl, fields_nowhere _ c.args.at c.scan_at-found.ensures none.1)

pub returns : goal.returns
returns c = let f = fields_found _ c.args.at c.scan_at-found.ensures _ c.in_ok-runs.ensures.ok_part in (refl, f.0, f.1)
