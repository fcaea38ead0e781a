-- SPDX-License-Identifier: Apache-2.0 AND BSD-3-Clause
-- `resize::growth_of` meets its contract: each return is one leaf of `growth_of`.
use Rattle.std.specs.Prelude.{Some, None}
use mathlib.Core.Path.{◌≡◌}
use mathlib.Core.Bool.{true}
use native.Mathlib.Omega.{arith}
use borrow.Author.Tests.{lt-ltb, le-ltb}
use Rattle.rows.specs.Rows.{rows_of, first_unmapped}
use Rattle.rows.proofs.Laws.{first_found}
use Rattle.resize.specs.Resize.{growth_of, growth_at, end_row}
use Rattle.resize.proofs.growth_of.Goals as goal

pub returns-then-not-several : goal.returns-then-not-several
unfolding growth_of
returns-then-not-several c = simp (c.if-not-several.true)

pub returns-then-new-usable : goal.returns-then-new-usable
unfolding growth_of
returns-then-new-usable c =
    let a = c.args in
    simp (c.if-not-several.false, le-ltb a.usable a.new c.if-new-usable.true)

pub returns-in_default : goal.returns-in_default
unfolding growth_of growth_at
returns-in_default c =
    let a = c.args in
    let found : first_unmapped (rows_of a.table.now) (end_row a.region true a.usable) (end_row a.region true a.new) ≡ None =
    cc (c.in_default.ensures, c.end_row.ensures, c.end_row-last.ensures) in
    simp (c.if-not-several.false, lt-ltb a.usable a.new c.if-new-usable.false, found)

pub creation_size-requires : goal.creation_size-requires
creation_size-requires c =
    let a = c.args in
    let i = c.in-Some.i in
    let found : first_unmapped (rows_of a.table.now) (end_row a.region true a.usable) (end_row a.region true a.new) ≡ Some i =
    cc (c.in-Some.ensures, c.end_row.ensures, c.end_row-last.ensures) in
    let lies = first_found (rows_of a.table.now) (end_row a.region true a.usable) (end_row a.region true a.new) i found in
    (rw c.end_row-last.ensures lies.to, rw c.end_row-last.ensures (omega arith))

pub returns : goal.returns
unfolding growth_of growth_at
returns c =
    let a = c.args in
    let i = c.in-Some.i in
    let found : first_unmapped (rows_of a.table.now) (end_row a.region true a.usable) (end_row a.region true a.new) ≡ Some i =
    cc (c.in-Some.ensures, c.end_row.ensures, c.end_row-last.ensures) in
    simp (c.if-not-several.false, lt-ltb a.usable a.new c.if-new-usable.false, found, c.creation_size.ensures, c.end_row-last.ensures)
