-- SPDX-License-Identifier: Apache-2.0 AND BSD-3-Clause
-- `old_form::unpack` meets its contract.
use Rattle.bitmap.specs.Blocks.{blocks}
use Rattle.old_form.proofs.Turns.{Unpacking}
use Rattle.old_form.proofs.unpack.Given as goal

abbrev pub invariant-loop-i : goal.invariant-loop-i
invariant-loop-i l = Unpacking (blocks l.bitmap) l.initial.old l.i l.old
