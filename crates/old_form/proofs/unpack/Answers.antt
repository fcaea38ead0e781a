-- SPDX-License-Identifier: Apache-2.0 AND BSD-3-Clause
-- `old_form::unpack` meets its contract.
use mathlib.Core.Path.{◌∙◌}
use native.Mathlib.Omega.{arith}
use Rattle.old_form.proofs.Turns.{byte_is, unpack_start, unpack_turn, unpack_end}
use Rattle.old_form.proofs.unpack.Goals as goal

pub loop-i-init : goal.loop-i-init
loop-i-init c = unpack_start _ _

pub loop-i-preserved : goal.loop-i-preserved
loop-i-preserved c = unpack_turn c.loop-i.invariant _ _ (omega arith) (omega arith) c.is_set.ensures (c.from.ensures ∙ byte_is c.is_set.result)

pub returns : goal.returns
returns c = unpack_end c.loop-i.invariant _ c.loop-i-test.false (omega arith)
