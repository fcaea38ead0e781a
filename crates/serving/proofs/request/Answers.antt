-- SPDX-License-Identifier: Apache-2.0 AND BSD-3-Clause
-- `serving::request` meets its contract: 12, 7, 5 and 11, then the chain's reason, then the request.
use mathlib.Core.Path.{refl, sym, ◌∙◌}
use Rattle.step.proofs.Entry.{ready_is}
use Rattle.step.proofs.Giving.{as_given, answers}
use Rattle.serving.proofs.Entries.{request_refused, request_bad, request_got}
use Rattle.serving.proofs.request.Goals as goal

pub returns-in-Err : goal.returns-in-Err
returns-in-Err c = as_given (request_refused _ _ _ _ c.ready_refusal.ensures _ _ _ _ c.in-Err.is) (answers _ _ c.refuse_as.ensures refl refl)

pub invariant_of-shaped : goal.invariant_of-shaped
invariant_of-shaped c = record { shape = (ready_is _ _ _ (sym c.ready_refusal.ensures ∙ c.in_default.is)).shaped }

pub returns-in-Ok : goal.returns-in-Ok
returns-in-Ok c = as_given (request_got _ _ _ _ c.ready_refusal.ensures _ _ _ c.in_default.is _ c.parse.ensures _ c.in-Ok.is) c.serve.ensures

pub returns-in-Err-parse : goal.returns-in-Err-parse
returns-in-Err-parse c = as_given (request_bad _ _ _ _ c.ready_refusal.ensures _ _ _ c.in_default.is _ c.parse.ensures _ c.in-Err-parse.is) (answers _ _ (rw c.number.ensures refl) refl refl)
