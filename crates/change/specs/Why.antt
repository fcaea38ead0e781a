-- SPDX-License-Identifier: Apache-2.0 AND BSD-3-Clause
-- Which ERROR it was (R10.17): the number of each reason, and 0 where there is none.
use Rattle.std.specs.Prelude.{ℕ, ◌≤◌, ◌≡◌, not, eqb, Option, Some, None}
use Rattle.change.specs.declared.Reason.{Reason}
use Rattle.change.specs.declared.Reason.TheVariants.{Alignment, ZeroBlocks, Overflow, BelowStart, PastUsable, EndPastUsable, WrongState, CrossesBorder, Unmapped, SumPasses, FailedDiscard}

-- R10.17: the range test says which of its parts failed first: alignment, zero blocks, overflow, below start, at or past the usable end, end past the usable end; then a wrong block state; a crossed border, an unmapped row, the host sum; and a failed discard
abbrev pub why : Reason → ℕ
why Alignment = 1
why ZeroBlocks = 2
why Overflow = 3
why BelowStart = 4
why PastUsable = 5
why EndPastUsable = 6
why WrongState = 7
why CrossesBorder = 8
why Unmapped = 9
why SumPasses = 10
why FailedDiscard = 11

-- the number that an answer tells
abbrev pub why_number : Option Reason → ℕ
why_number (Some reason) = why reason
why_number None = 0

-- R10.18: the reason is 0 exactly if the response's type is not ERROR (3), and 1 to 11 otherwise
pub record Reasoned (type why : ℕ) : Type 0 where
  pub exactly : eqb why 0 ≡ not (eqb type 3)
  pub most : why ≤ 11
