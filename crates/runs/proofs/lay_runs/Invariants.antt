-- SPDX-License-Identifier: Apache-2.0 AND BSD-3-Clause
-- `runs::lay_runs` meets its contract. The invariant: what is right for the text that is left is right for the whole (`Setting`).
use Prim.Native.Nat.{◌-◌}
use lib.ListN.{length}
use Rattle.runs.proofs.Lines.{Setting}
use Rattle.runs.proofs.lay_runs.Given as goal

abbrev pub invariant-loop-run : goal.invariant-loop-run
invariant-loop-run l = Setting l.s l.at l.initial.bitmap l.i l.bitmap

abbrev pub decreases-loop-run : goal.decreases-loop-run
decreases-loop-run l = length l.s - l.i
