-- SPDX-License-Identifier: Apache-2.0 AND BSD-3-Clause
-- The lines of runs (R15.2), each ended by one newline, the last too (R15.1).
use Rattle.std.specs.Prelude.{ℕ, List, [], ◌∷◌, ◌++◌}
use Rattle.text.specs.Words.{bytes}
use Rattle.forms.specs.Forms.{filled}
use Rattle.runs.specs.Runs.{Run}

abbrev pub run_line : List ℕ
run_line = bytes "run=#,#\n"

abbrev pub line_of : (first count : ℕ) → List ℕ
line_of first count = filled run_line (first ∷ count ∷ [])

unfoldable pub runs_text : List Run → List ℕ
runs_text [] = []
runs_text (r ∷ rs) = line_of r.first r.count ++ runs_text rs
