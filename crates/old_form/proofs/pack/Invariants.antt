-- SPDX-License-Identifier: Apache-2.0 AND BSD-3-Clause
-- `old_form::pack` meets its contract.
use Rattle.old_form.proofs.Turns.{Packing}
use Rattle.old_form.proofs.pack.Given as goal

abbrev pub invariant-loop-i : goal.invariant-loop-i
invariant-loop-i l = Packing l.old l.initial.bitmap l.i l.bitmap
