-- SPDX-License-Identifier: Apache-2.0 AND BSD-3-Clause
-- `serving::serve` meets its contract, type by type.
use mathlib.Core.Path.{refl, ◌∙◌}
use native.Mathlib.Omega.{arith}
use Rattle.step.proofs.Giving.{as_given, answers}
use Rattle.serving.proofs.Ways.{states, serve-plug, serve-unplug, serve-unplug_all, serve_unknown, typed, untyped}
use Rattle.serving.proofs.serve.Goals as goal

pub returns-in_default : goal.returns-in_default
returns-in_default c =
    let none = untyped _ _ c.try_from.ensures c.in_default.is in
    as_given (serve_unknown _ _ _ _ (λ e. omega (arith, none)) (λ e. omega (arith, none)) (λ e. omega (arith, none)) (λ e. omega (arith, none))) (answers _ _ (rw c.number.ensures refl) refl refl)

pub returns-in-Plug : goal.returns-in-Plug
returns-in-Plug c = as_given (serve-plug _ _ _ _ (typed _ _ _ c.try_from.ensures c.in-Ok.is c.in-Plug.is)) c.plug.ensures

pub returns-in-Unplug : goal.returns-in-Unplug
returns-in-Unplug c = as_given (serve-unplug _ _ _ _ (typed _ _ _ c.try_from.ensures c.in-Ok.is c.in-Unplug.is)) c.unplug.ensures

pub returns-in-UnplugAll : goal.returns-in-UnplugAll
returns-in-UnplugAll c = as_given (serve-unplug_all _ _ _ _ (typed _ _ _ c.try_from.ensures c.in-Ok.is c.in-UnplugAll.is)) c.unplug_all.ensures

pub returns-in-State : goal.returns-in-State
returns-in-State c = states _ _ _ _ _ _ _ (typed _ _ _ c.try_from.ensures c.in-Ok.is c.in-State.is) _ (rw c.blocks_of.ensures at c.state-verdict.ensures) c.respond.ensures
