-- SPDX-License-Identifier: Apache-2.0 AND BSD-3-Clause
-- `Area::change_of` meets its contract: each `return` and each `?` is one of the tests (b), (c), (d), in this order.
use mathlib.Core.Path.{◌≡◌, sym, ◌∙◌}
use mathlib.Core.Bool.{true, not}
use Rattle.std.specs.Prelude.{Ok}
use Rattle.bitmap.specs.Blocks.{blocks, all_are}
use Rattle.units.proofs.Tests.{flag}
use Rattle.change.specs.Change.{range_of, change_in, legal_at}
use borrow.Author.Rules.{rules}
use Rattle.change.proofs.Area.change_of.Goals as goal
use Rattle.change.proofs.Area.change_of.Goals.{Else-not-all_in_state, In_ok-offset}

-- past (b), and past (c)
inside : (c : In_ok-offset) → (let a = c.args in range_of a.self.block_size a.self.start.0 a.self.size a.asked.addr.0 a.asked.nb_blocks) ≡ Ok c.in_ok-offset.offset
inside c = sym c.range_of.ensures ∙ c.in_ok-offset.was

free : (c : Else-not-all_in_state) → (let a = c.args in all_are (blocks a.bitmap.now) c.blocks_in-first.result a.asked.nb_blocks (not a.plug)) ≡ true
free c = flag _ _ _ c.all_in_state.ensures c.if-not-all_in_state.false

pub returns-in_err-offset : goal.returns-in_err-offset
unfolding change_in
returns-in_err-offset c = simp (← c.range_of.ensures, c.in_err-offset.was) (search rules)

pub returns-then-not-all_in_state : goal.returns-then-not-all_in_state
unfolding change_in
returns-then-not-all_in_state c =
    simp
    (inside (goal.at.returns-then-not-all_in_state c).In_ok-offset, ← c.blocks_in-first.ensures, flag _ _ _ c.all_in_state.ensures c.if-not-all_in_state.true)

pub returns-in_err-host : goal.returns-in_err-host
unfolding change_in legal_at
returns-in_err-host c =
    simp
    (inside (goal.at.returns-in_err-host c).In_ok-offset, ← c.blocks_in-first.ensures, free (goal.at.returns-in_err-host c).Else-not-all_in_state, ← c.bytes_of-size.ensures, ← c.host_of.ensures, c.in_err-host.was)
    (search rules)

pub returns : goal.returns
unfolding change_in legal_at
returns c =
    simp
    (inside (goal.at.returns c).In_ok-offset, ← c.blocks_in-first.ensures, free (goal.at.returns c).Else-not-all_in_state, ← c.bytes_of-size.ensures, ← c.host_of.ensures, c.in_ok-host.was)
