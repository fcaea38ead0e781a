-- SPDX-License-Identifier: Apache-2.0 AND BSD-3-Clause
-- `saved::read_full` is safe and ends: the measure is the room that is left, which a read that brings bytes takes.
use Rattle.std.proofs.Common.{◌-◌, ◌≡◌, ◌≤◌, length}
use Rattle.saved.proofs.read_full.Given as goal

abbrev pub invariant-loop-filled : goal.invariant-loop-filled
invariant-loop-filled g l = (length l.input ≡ length l.initial.input) × (l.filled ≤ length l.input)

abbrev pub decreases-loop-filled : goal.decreases-loop-filled
decreases-loop-filled g l = length l.initial.input - l.filled
