-- SPDX-License-Identifier: Apache-2.0 AND BSD-3-Clause
-- The invariant of the loop of `trace_run::count_slots`: the slots before `i` count up from the first.
use mathlib.Core.Path.{◌≡◌}
use lib.ListN.{length, take}
use Rattle.trace_run.specs.Run.{counted_from}
use Rattle.trace_run.proofs.count_slots.Given as goal

abbrev pub invariant-loop-i : goal.invariant-loop-i
invariant-loop-i l = (length l.slots ≡ length l.initial.slots) × (take l.i l.slots ≡ counted_from l.first l.i)
