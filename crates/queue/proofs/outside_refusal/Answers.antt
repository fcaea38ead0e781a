-- SPDX-License-Identifier: Apache-2.0 AND BSD-3-Clause
-- `queue::outside_refusal` meets its contract: 12, 11 and then 14.
use Rattle.units.proofs.Tests.{flag}
use Rattle.step.specs.Step.{tables_fit}
use Rattle.queue.specs.Queue.{outside_refusal}
use Rattle.queue.proofs.outside_refusal.Goals as goal

pub returns-then-not-shaped : goal.returns-then-not-shaped
unfolding outside_refusal
returns-then-not-shaped c = rw (flag _ _ _ c.shaped.ensures c.if-not-shaped.true)

pub returns-then-not-tables_fit : goal.returns-then-not-tables_fit
unfolding outside_refusal tables_fit
returns-then-not-tables_fit c = rw (flag _ _ _ c.shaped.ensures c.if-not-shaped.false, flag _ _ _ c.tables_fit.ensures c.if-not-tables_fit.true)

pub returns : goal.returns
unfolding outside_refusal tables_fit
returns c = rw (flag _ _ _ c.shaped.ensures c.if-not-shaped.false, flag _ _ _ c.tables_fit.ensures c.if-not-tables_fit.false)
