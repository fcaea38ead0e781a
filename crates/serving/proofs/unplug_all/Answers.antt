-- SPDX-License-Identifier: Apache-2.0 AND BSD-3-Clause
-- `serving::unplug_all` meets its contract: the search goes on from `from`, and where it finds nothing the unplug-all ends.
use Rattle.serving.proofs.Ways.{block_inside, block_plugged, all_ends, all_goes_on}
use Rattle.serving.proofs.unplug_all.Goals as goal

pub returns-in_default : goal.returns-in_default
returns-in_default c = all_ends _ _ _ c.args.shaped.shape _ _ _ _ _ c.blocks_in-end.ensures _ c.next_set.ensures c.in_default.is _ _ c.plugged_to.ensures c.pending_to-none.ensures (rw c.ack.ensures at c.respond.ensures)

pub unplug_one-requires : goal.unplug_one-requires
unplug_one-requires c = (block_inside _ _ _ _ _ _ c.blocks_in-end.ensures c.next_set.ensures c.in-Some.is, block_plugged _ _ _ _ c.next_set.ensures c.in-Some.is)

pub returns : goal.returns
returns c = all_goes_on _ _ _ c.args.shaped.shape _ _ _ _ _ c.blocks_in-end.ensures _ c.next_set.ensures _ c.in-Some.is c.unplug_one.ensures
