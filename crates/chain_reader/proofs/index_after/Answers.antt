-- SPDX-License-Identifier: Apache-2.0 AND BSD-3-Clause
-- `chain_reader::index_after` meets its contract: each return is the case of `index_after` that the tests led to.
use Rattle.chain_reader.specs.Reader.{reader_index}
use Rattle.chain_reader.proofs.index_after.Goals as goal

pub returns-in_default : goal.returns-in_default
unfolding reader_index
returns-in_default c = simp (← c.link_at.ensures, c.in_default.is)

pub returns-then-has_next : goal.returns-then-has_next
unfolding reader_index
returns-then-has_next c =
    simp (← c.link_at.ensures, c.in-Some.is, ← c.has_next.ensures, c.if-has_next.true)

pub returns-else-has_next : goal.returns-else-has_next
unfolding reader_index
returns-else-has_next c =
    simp (← c.link_at.ensures, c.in-Some.is, ← c.has_next.ensures, c.if-has_next.false)
