-- SPDX-License-Identifier: Apache-2.0 AND BSD-3-Clause
-- `runs::next_run` meets its contract.
use Rattle.bitmap.specs.Blocks.{blocks}
use Rattle.runs.proofs.Turns.{next_found, next_none}
use Rattle.runs.proofs.next_run.Goals as goal

pub returns-in_err-first : goal.returns-in_err-first
returns-in_err-first c = rw c.from_residual.ensures (next_none (blocks c.args.bitmap.now) _ _ _ c.next_set.ensures c.in_err-first.was)

pub count_from-requires : goal.count_from-requires
count_from-requires c = (next_found (blocks c.args.bitmap.now) _ _ _ c.next_set.ensures _ 0 c.in_ok-first.was).0

pub returns : goal.returns
returns c = (next_found (blocks c.args.bitmap.now) _ _ _ c.next_set.ensures _ _ c.in_ok-first.was).1 c.count_from.ensures
