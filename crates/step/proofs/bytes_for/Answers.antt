-- SPDX-License-Identifier: Apache-2.0 AND BSD-3-Clause
-- `step::bytes_for` meets its contract.
use native.Mathlib.Nat.{div-le_self}
use native.Mathlib.Omega.{arith}
use Rattle.step.proofs.bytes_for.Goals as goal

pub overflow_add-result : goal.overflow_add-result
overflow_add-result c =
    let a = c.args in
    omega (arith, c.blocks_in-blocks.ensures, div-le_self a.region a.block_size)

pub returns-then-blocks-eq0 : goal.returns-then-blocks-eq0
returns-then-blocks-eq0 c = let e = c.blocks_in-blocks.ensures in rw (← e) (omega arith)

pub returns-else-blocks-eq0 : goal.returns-else-blocks-eq0
returns-else-blocks-eq0 c = let e = c.blocks_in-blocks.ensures in rw (← e) (omega arith)
