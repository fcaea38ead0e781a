-- SPDX-License-Identifier: Apache-2.0 AND BSD-3-Clause
-- `saving::entry_refusal` meets its contract.
use Rattle.saving.proofs.Turns.{no_shape_lem, busy, ready}
use Rattle.saving.proofs.entry_refusal.Goals as goal

pub returns-then-not-shaped : goal.returns-then-not-shaped
returns-then-not-shaped c = no_shape_lem _ _ c.shaped.ensures c.if-not-shaped.true

pub returns-then-not-is_idle : goal.returns-then-not-is_idle
returns-then-not-is_idle c = busy _ _ c.shaped.ensures c.if-not-shaped.false _ c.is_idle.ensures c.if-not-is_idle.true

pub returns : goal.returns
returns c = ready _ _ c.shaped.ensures c.if-not-shaped.false _ c.is_idle.ensures c.if-not-is_idle.false
