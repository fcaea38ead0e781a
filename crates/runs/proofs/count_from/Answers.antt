-- SPDX-License-Identifier: Apache-2.0 AND BSD-3-Clause
-- `runs::count_from` meets its contract.
use Prim.Native.Nat.{min}
use mathlib.Core.Path.{ap, sym, ◌∙◌}
use Rattle.bitmap.specs.Blocks.{blocks}
use Rattle.bitmap.proofs.Laws.{blocks-length}
use Rattle.runs.proofs.Turns.{stop_after, room_after, row_stops, row_ends}
use Rattle.runs.proofs.count_from.Goals as goal

pub overflow_sub-result : goal.overflow_sub-result
overflow_sub-result c = stop_after (blocks c.args.bitmap.now) _ _ _ c.next_clear.ensures _ c.in-Some.is

pub overflow_sub-result-in-None : goal.overflow_sub-result-in-None
overflow_sub-result-in-None c = room_after (blocks c.args.bitmap.now) c.args.end c.args.first c.requires _ (c.blocks_within.ensures ∙ ap (min c.args.end) (sym (blocks-length c.args.bitmap.now)))

pub returns-in-Some : goal.returns-in-Some
returns-in-Some c = row_stops (blocks c.args.bitmap.now) _ _ c.requires _ c.next_clear.ensures _ c.in-Some.is

pub returns-in-None : goal.returns-in-None
returns-in-None c = row_ends (blocks c.args.bitmap.now) _ _ c.requires _ c.next_clear.ensures c.in-None.is _ (c.blocks_within.ensures ∙ ap (min c.args.end) (sym (blocks-length c.args.bitmap.now)))
