-- SPDX-License-Identifier: Apache-2.0 AND BSD-3-Clause
-- `runs::runs_length` meets its contract.
use Prim.Native.Nat.{◌-◌}
use lib.ListN.{take}
use Rattle.bitmap.specs.Blocks.{blocks}
use Rattle.runs.proofs.Turns.{Measured}
use Rattle.runs.proofs.runs_length.Given as goal

abbrev pub invariant-loop-run : goal.invariant-loop-run
invariant-loop-run l = Measured (take l.end (blocks l.bitmap)) l.sum l.i

abbrev pub decreases-loop-run : goal.decreases-loop-run
decreases-loop-run l = l.end - l.i
