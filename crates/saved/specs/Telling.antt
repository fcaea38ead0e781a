-- SPDX-License-Identifier: Apache-2.0 AND BSD-3-Clause
-- What is told of a text.
use Rattle.std.specs.Prelude.{ℕ, Bool, List, Result, Ok, Err}
use Rattle.save.specs.declared.Fields.{Fields}
use Rattle.save.specs.Text.{Says}
use Rattle.save.specs.Reading.{Refuses}
use Rattle.saved.specs.declared.Wrong.{Wrong}

-- R15.17: nothing is wrong exactly with the text of a state; else the number is that of the refusal, 19 for a later form and 18
abbrev pub TellsWrong : List ℕ → Result (Unit {0}) Wrong → Type 0
TellsWrong s (Ok _) = (f : Fields) × (bs : List Bool) × Says s f bs
TellsWrong s (Err wrong) = Refuses s wrong.refusal
