-- SPDX-License-Identifier: Apache-2.0 AND BSD-3-Clause
-- The whole of a program that links the library: it makes a device, calls the exports, and restores, in any order and as often as it likes.
use Rattle.std.specs.Prelude.{ℕ, ◌≡◌, Bool, List, Ok}
use Rattle.record.specs.declared.Device.{Device}
use Rattle.history.specs.History.{Story, next, begun, Demand3}
use Rattle.history.specs.Reached.{Reached}
use Rattle.save.specs.declared.Fields.{Fields}
use Rattle.save.specs.Text.{Says}
use Rattle.linked.specs.Runs.{Use, call_of, Held, leaves, One, Making, made_by, Makes, first, Means, in_hand}
use Rattle.save_linked.specs.Restores.{RestoreCalled, held_then, starts_at}

-- what it holds, and where the definition's run stands. A refused restore leaves what is held, so it is no step here
pub data Program : Held → Story → Type 0 where
  by_making : (m : Making) (words : List ℕ) (d : Device) → Makes m words → made_by m ≡ Ok d → Program (first words) (begun d)
  by_export : {h : Held} {s : Story} → Program h s → (u : Use) → One h u → Program (leaves h u) (next s (call_of u))
  by_restoring : {h : Held} {s : Story} → Program h s → (text words' bitmap' : List ℕ) (f : Fields) (bs : List Bool) → RestoreCalled h text words' bitmap' 0 → Says text f bs
      → Program (held_then h words' bitmap') (starts_at s.world f bs)

-- what it holds means where a run of `history` stands, and demand 3 holds of it
pub record ProgramStands (h : Held) (s : Story) : Type 0 where
  pub means : Means h s.world
  pub reached : Reached s
  pub demand_3 : Demand3 (in_hand h) s.events

abbrev pub Demand3OfPrograms : Type 0
Demand3OfPrograms = (h : Held) (s : Story) → Program h s → ProgramStands h s
