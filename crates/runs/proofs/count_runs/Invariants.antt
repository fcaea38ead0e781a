-- SPDX-License-Identifier: Apache-2.0 AND BSD-3-Clause
-- `runs::count_runs` meets its contract. The invariant: what is right for the text that is left is right for the whole (`Reading`).
use Prim.Native.Nat.{◌-◌}
use lib.ListN.{length}
use Rattle.runs.proofs.Lines.{Reading}
use Rattle.runs.proofs.count_runs.Given as goal

abbrev pub invariant-loop-i : goal.invariant-loop-i
invariant-loop-i l = Reading l.s l.at l.end l.i l.from l.sum

abbrev pub decreases-loop-i : goal.decreases-loop-i
decreases-loop-i l = length l.s - l.i
