-- SPDX-License-Identifier: Apache-2.0 AND BSD-3-Clause
-- `serving::unplug_one` meets its contract: past the test of the usable size, the map table decides.
use native.Mathlib.Omega.{arith}
use Rattle.serving.proofs.Ways.{block_fits, one_past, one_errs, one_asks}
use Rattle.serving.proofs.unplug_one.Goals as goal

pub overflow_mul-offset : goal.overflow_mul-offset
overflow_mul-offset c = let fits = block_fits _ c.args.shaped.shape _ c.requires.0 in omega arith

pub returns-then-d-offset : goal.returns-then-d-offset
returns-then-d-offset c = one_past _ _ _ c.args.shaped.shape _ _ _ _ c.requires.0 c.requires.1 c.if-d-offset.true c.stopped.ensures

pub returns-in-Err : goal.returns-in-Err
returns-in-Err c = one_errs _ _ _ c.args.shaped.shape _ _ _ _ c.requires.0 c.requires.1 c.if-d-offset.false _ c.host_of.ensures _ c.in-Err.is c.stopped-in-Err.ensures

pub returns : goal.returns
returns c = one_asks _ _ _ c.args.shaped.shape _ _ _ _ c.requires.0 c.requires.1 c.if-d-offset.false _ c.host_of.ensures _ c.in-Ok.is c.asked.ensures
