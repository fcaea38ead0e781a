-- SPDX-License-Identifier: Apache-2.0 AND BSD-3-Clause
-- The invariant of the loop of `sentences::same_row`: the first i blocks of the rows are alike.
use mathlib.Core.Path.{◌≡◌}
use mathlib.Core.Bool.{true}
use Rattle.bitmap.specs.Blocks.{blocks}
use Rattle.sentences.specs.Summary.{same_row}
use Rattle.sentences.proofs.same_row.Given as goal

abbrev pub invariant-loop-i : goal.invariant-loop-i
invariant-loop-i l = same_row (blocks l.bitmap) l.a l.b l.i ≡ true
