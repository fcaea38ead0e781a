-- SPDX-License-Identifier: Apache-2.0 AND BSD-3-Clause
-- `step::pending_refusal` meets its contract: its tests stand in the order 12, 8, 11, as in the definition.
use Rattle.units.proofs.Tests.{flag}
use Rattle.step.specs.Step.{pending_refusal}
use Rattle.step.proofs.pending_refusal.Goals as goal

pub returns-then-not-shaped : goal.returns-then-not-shaped
unfolding pending_refusal
returns-then-not-shaped c = simp (flag _ _ _ c.shaped.ensures c.if-not-shaped.true)

pub returns-then-is_idle : goal.returns-then-is_idle
unfolding pending_refusal
returns-then-is_idle c = simp (flag _ _ _ c.shaped.ensures c.if-not-shaped.false, flag _ _ _ c.is_idle.ensures c.if-is_idle.true)

pub returns-then-not-tables_fit : goal.returns-then-not-tables_fit
unfolding pending_refusal
returns-then-not-tables_fit c = simp (flag _ _ _ c.shaped.ensures c.if-not-shaped.false, flag _ _ _ c.is_idle.ensures c.if-is_idle.false, flag _ _ _ c.tables_fit.ensures c.if-not-tables_fit.true)

pub returns : goal.returns
unfolding pending_refusal
returns c = simp (flag _ _ _ c.shaped.ensures c.if-not-shaped.false, flag _ _ _ c.is_idle.ensures c.if-is_idle.false, flag _ _ _ c.tables_fit.ensures c.if-not-tables_fit.false)
