-- SPDX-License-Identifier: Apache-2.0 AND BSD-3-Clause
-- The invariant of the loop of `sentences::put_row`: the row of the first i blocks is put.
use Rattle.bitmap.specs.Blocks.{blocks}
use Rattle.text.specs.Putting.{Put}
use Rattle.sentences.specs.Summary.{row_text}
use Rattle.sentences.proofs.put_row.Given as goal

abbrev pub invariant-loop-i : goal.invariant-loop-i
invariant-loop-i l = Put l.initial.out l.at (row_text (blocks l.bitmap) l.first l.i) l.out l.to
