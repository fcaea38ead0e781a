-- SPDX-License-Identifier: Apache-2.0 AND BSD-3-Clause
-- `save::text_length` meets its contract.
use native.Mathlib.Omega.{arith}
use Rattle.save.proofs.Turns.{length_short, length_bad, length_fits, length_is}
use Rattle.save.proofs.text_length.Goals as goal

pub returns-then-is_short : goal.returns-then-is_short
returns-then-is_short c = length_short _ _ _ c.blocks_in-all.ensures _ c.is_short.ensures c.if-is_short.true

pub returns-then-not-valid : goal.returns-then-not-valid
returns-then-not-valid c = length_bad _ _ _ c.blocks_in-all.ensures _ c.is_short.ensures c.if-is_short.false _ c.valid.ensures c.if-not-valid.true

pub overflow_add-result : goal.overflow_add-result
overflow_add-result c = let h = length_fits _ _ _ c.blocks_in-all.ensures _ c.is_short.ensures c.if-is_short.false _ c.valid.ensures c.if-not-valid.false _ _ c.head_length.ensures c.runs_length.ensures (omega arith, (omega arith, (omega arith, (omega arith, (omega arith, tt))))) in omega arith

pub returns : goal.returns
returns c = length_is _ _ _ c.blocks_in-all.ensures _ c.is_short.ensures c.if-is_short.false _ c.valid.ensures c.if-not-valid.false _ _ c.head_length.ensures c.runs_length.ensures
