-- SPDX-License-Identifier: Apache-2.0 AND BSD-3-Clause
-- `Area::state_of` meets its contract: the blocks that exist are those before the region's count, so the count is cut there.
use native.Mathlib.Nat.{div-zero}
use native.Mathlib.Omega.{arith}
use mathlib.Core.Path.{sym}
use borrow.Author.Tests.{lt-ltb, le-ltb}
use Rattle.change.specs.Change.{state_of}
use Rattle.change.proofs.Laws.{range_cut, state_none_there}
use Rattle.change.proofs.Area.state_of.Goals as goal

pub returns-then-addr-start : goal.returns-then-addr-start
unfolding state_of
returns-then-addr-start c = simp (lt-ltb _ _ c.if-addr-start.true)

pub returns-then-block_size-eq0 : goal.returns-then-block_size-eq0
returns-then-block_size-eq0 c =
    let a = c.args in
    sym (state_none_there a.self.block_size a.self.start.0 a.self.size a.asked.addr.0 a.asked.nb_blocks _ (rw (c.if-block_size-eq0.true, div-zero) (omega arith)))

pub returns : goal.returns
unfolding state_of
returns c =
    let e = c.offset_from-offset.ensures in
    let state = rw (c.blocks_there-count.ensures, c.blocks_in-first.ensures) at c.state_in.ensures in
    simp (le-ltb _ _ c.if-addr-start.false, range_cut, ← e) state
