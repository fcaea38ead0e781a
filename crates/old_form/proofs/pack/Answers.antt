-- SPDX-License-Identifier: Apache-2.0 AND BSD-3-Clause
-- `old_form::pack` meets its contract.
use mathlib.Core.Path.{refl}
use native.Mathlib.Omega.{arith}
use Rattle.old_form.proofs.Turns.{pack_start, pack_turn, pack_end}
use Rattle.old_form.proofs.pack.Goals as goal

pub loop-i-init : goal.loop-i-init
loop-i-init c = pack_start _ _

pub loop-i-preserved : goal.loop-i-preserved
loop-i-preserved c = pack_turn c.loop-i.invariant c.requires _ _ (omega arith) refl c.set_range.ensures

pub returns : goal.returns
returns c = pack_end c.loop-i.invariant c.requires (omega arith) (omega arith)
