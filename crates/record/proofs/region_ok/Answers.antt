-- SPDX-License-Identifier: Apache-2.0 AND BSD-3-Clause
-- `record::region_ok` meets its contract.
use native.Mathlib.Omega.{arith}
use Rattle.record.proofs.Laws.{aligned}
use Rattle.record.specs.Shape.{region_ok}
use Rattle.record.proofs.region_ok.Goals as goal

pub overflow_mul-result : goal.overflow_mul-result
overflow_mul-result c = let h = aligned _ c.requires in omega arith

pub nonzero_rem-result : goal.nonzero_rem-result
nonzero_rem-result c = let h = aligned _ c.requires in omega arith

pub returns : goal.returns
unfolding region_ok
returns c = simp c.requires
