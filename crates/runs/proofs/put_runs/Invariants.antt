-- SPDX-License-Identifier: Apache-2.0 AND BSD-3-Clause
-- `runs::put_runs` meets its contract.
use Prim.Native.Nat.{◌-◌}
use lib.ListN.{take}
use Rattle.bitmap.specs.Blocks.{blocks}
use Rattle.runs.proofs.Turns.{Going}
use Rattle.runs.proofs.put_runs.Given as goal

abbrev pub invariant-loop-run : goal.invariant-loop-run
invariant-loop-run l = Going l.initial.out l.at (take l.end (blocks l.bitmap)) l.out l.to l.i

abbrev pub decreases-loop-run : goal.decreases-loop-run
decreases-loop-run l = l.end - l.i
