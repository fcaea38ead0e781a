-- SPDX-License-Identifier: Apache-2.0 AND BSD-3-Clause
-- `resize::new_size` meets its contract.
use native.Mathlib.Nat.{div-mul-le_self}
use native.Mathlib.Omega.{arith}
use borrow.Author.Tests.{eq-eqb, ne_eqb}
use Rattle.resize.specs.Resize.{new_size}
use Rattle.resize.proofs.new_size.Goals as goal

pub returns-then-nothing : goal.returns-then-nothing
unfolding new_size
returns-then-nothing c = simp (eq-eqb c.args.requested 0 (omega arith))

pub overflow_mul-result : goal.overflow_mul-result
overflow_mul-result c =
    let a = c.args in
    let e = c.extent.ensures in
    rw c.blocks_in.ensures (omega (arith, div-mul-le_self c.extent.result a.block_size))

pub returns : goal.returns
unfolding new_size
returns c = simp (ne_eqb c.args.requested 0 (omega arith), c.blocks_in.ensures, c.extent.ensures)
