-- SPDX-License-Identifier: Apache-2.0 AND BSD-3-Clause
-- `step::ready_refusal` meets its contract: its tests stand in the order 12, 7, 5, 11, as in the definition.
use mathlib.Core.Path.{refl}
use Rattle.units.proofs.Tests.{flag, passed, refused}
use Rattle.step.specs.Step.{ready_refusal}
use Rattle.step.proofs.ready_refusal.Goals as goal

pub returns-then-not-shaped : goal.returns-then-not-shaped
unfolding ready_refusal
returns-then-not-shaped c = simp (flag _ _ _ c.shaped.ensures c.if-not-shaped.true)

pub returns-then-not-is_idle : goal.returns-then-not-is_idle
unfolding ready_refusal
returns-then-not-is_idle c = simp (flag _ _ _ c.shaped.ensures c.if-not-shaped.false, flag _ _ _ c.is_idle.ensures c.if-not-is_idle.true)

pub returns-then-not-d : goal.returns-then-not-d
unfolding ready_refusal
returns-then-not-d c = simp (flag _ _ _ c.shaped.ensures c.if-not-shaped.false, flag _ _ _ c.is_idle.ensures c.if-not-is_idle.false, refused c.args.d.placed _ refl c.if-not-d.true)

pub returns-then-not-tables_fit : goal.returns-then-not-tables_fit
unfolding ready_refusal
returns-then-not-tables_fit c = simp (flag _ _ _ c.shaped.ensures c.if-not-shaped.false, flag _ _ _ c.is_idle.ensures c.if-not-is_idle.false, passed c.args.d.placed _ refl c.if-not-d.false, flag _ _ _ c.tables_fit.ensures c.if-not-tables_fit.true)

pub returns : goal.returns
unfolding ready_refusal
returns c = simp (flag _ _ _ c.shaped.ensures c.if-not-shaped.false, flag _ _ _ c.is_idle.ensures c.if-not-is_idle.false, passed c.args.d.placed _ refl c.if-not-d.false, flag _ _ _ c.tables_fit.ensures c.if-not-tables_fit.false)
