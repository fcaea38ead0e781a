-- SPDX-License-Identifier: Apache-2.0 AND BSD-3-Clause
-- `save::valid` meets its contract.
use mathlib.Core.List.{[]}
use native.Mathlib.Omega.{arith}
use Rattle.save.proofs.Turns.{shape_bad, used_in, past_bad, set_few, plugged_is}
use Rattle.save.proofs.valid.Goals as goal

pub returns-then-not-shape_ok : goal.returns-then-not-shape_ok
returns-then-not-shape_ok c = shape_bad _ _ _ c.shape_ok.ensures c.if-not-shape_ok.true

pub overflow_sub-all : goal.overflow_sub-all
overflow_sub-all c = used_in _ [] _ c.shape_ok.ensures c.if-not-shape_ok.false _ _ c.blocks_in-all.ensures c.blocks_in-used.ensures

pub returns-then-not-all_in_state : goal.returns-then-not-all_in_state
returns-then-not-all_in_state c = past_bad _ _ _ c.shape_ok.ensures c.if-not-shape_ok.false _ _ c.blocks_in-all.ensures c.blocks_in-used.ensures _ c.all_in_state.ensures c.if-not-all_in_state.true

pub overflow_mul-result : goal.overflow_mul-result
overflow_mul-result c = let h = set_few _ _ _ c.shape_ok.ensures c.if-not-shape_ok.false _ _ c.blocks_in-all.ensures c.blocks_in-used.ensures _ c.count_set-set.ensures in omega arith

pub returns : goal.returns
returns c = plugged_is _ _ _ c.shape_ok.ensures c.if-not-shape_ok.false _ _ c.blocks_in-all.ensures c.blocks_in-used.ensures _ c.all_in_state.ensures c.if-not-all_in_state.false _ c.count_set-set.ensures
