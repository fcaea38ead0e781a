-- SPDX-License-Identifier: Apache-2.0 AND BSD-3-Clause
-- `step::unplaced_refusal` meets its contract: its tests stand in the order 12, 7, 6, 11, as in the definition.
use Rattle.units.proofs.Tests.{flag}
use Rattle.step.specs.Step.{unplaced_refusal}
use Rattle.step.proofs.unplaced_refusal.Goals as goal

pub returns-then-not-shaped : goal.returns-then-not-shaped
unfolding unplaced_refusal
returns-then-not-shaped c = simp (flag _ _ _ c.shaped.ensures c.if-not-shaped.true)

pub returns-then-not-is_idle : goal.returns-then-not-is_idle
unfolding unplaced_refusal
returns-then-not-is_idle c = simp (flag _ _ _ c.shaped.ensures c.if-not-shaped.false, flag _ _ _ c.is_idle.ensures c.if-not-is_idle.true)

pub returns-then-d : goal.returns-then-d
unfolding unplaced_refusal
returns-then-d c = simp (flag _ _ _ c.shaped.ensures c.if-not-shaped.false, flag _ _ _ c.is_idle.ensures c.if-not-is_idle.false, c.if-d.true)

pub returns-then-not-tables_fit : goal.returns-then-not-tables_fit
unfolding unplaced_refusal
returns-then-not-tables_fit c = simp (flag _ _ _ c.shaped.ensures c.if-not-shaped.false, flag _ _ _ c.is_idle.ensures c.if-not-is_idle.false, c.if-d.false, flag _ _ _ c.tables_fit.ensures c.if-not-tables_fit.true)

pub returns : goal.returns
unfolding unplaced_refusal
returns c = simp (flag _ _ _ c.shaped.ensures c.if-not-shaped.false, flag _ _ _ c.is_idle.ensures c.if-not-is_idle.false, c.if-d.false, flag _ _ _ c.tables_fit.ensures c.if-not-tables_fit.false)
