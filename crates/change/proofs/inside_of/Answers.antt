-- SPDX-License-Identifier: Apache-2.0 AND BSD-3-Clause
-- `change::inside_of` meets its contract: from `start` on, a test of the offset is the same test of the address.
use Prim.Native.Nat.{◌+◌}
use native.Mathlib.Omega.{arith}
use borrow.Author.Tests.{lt-ltb, le-ltb, le-leb, lt-leb}
use Rattle.change.specs.Change.{inside_of}
use Rattle.change.proofs.inside_of.Goals as goal

pub returns-then-addr-start : goal.returns-then-addr-start
unfolding inside_of
returns-then-addr-start c = simp (lt-ltb _ _ c.if-addr-start.true)

pub returns-then-usable-offset : goal.returns-then-usable-offset
unfolding inside_of
returns-then-usable-offset c =
    let a = c.args in
    simp
    (le-ltb a.addr.0 a.start.0 (omega arith), le-leb (a.start.0 + a.usable) a.addr.0 (omega (arith, c.offset_from-offset.ensures)))

pub returns-then-usable-offset-2 : goal.returns-then-usable-offset-2
unfolding inside_of
returns-then-usable-offset-2 c =
    let a = c.args in
    let e = c.offset_from-offset.ensures in
    simp
    (le-ltb a.addr.0 a.start.0 (omega arith), lt-leb (a.start.0 + a.usable) a.addr.0 (omega arith), lt-ltb (a.start.0 + a.usable) (a.addr.0 + a.size) (omega arith))

pub returns : goal.returns
unfolding inside_of
returns c =
    let a = c.args in
    let e = c.offset_from-offset.ensures in
    simp
    (le-ltb a.addr.0 a.start.0 (omega arith), lt-leb (a.start.0 + a.usable) a.addr.0 (omega arith), le-ltb (a.start.0 + a.usable) (a.addr.0 + a.size) (omega arith), ← e)
