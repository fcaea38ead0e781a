-- SPDX-License-Identifier: Apache-2.0 AND BSD-3-Clause
-- What a public function promises: the one relation between a call, what was lent, what came back and the answer.
use Rattle.std.specs.Prelude.{ℕ, Bool, List, ◌≡◌}
use Rattle.bitmap.specs.Blocks.{blocks}
use Rattle.rows.specs.declared.MapRow.{MapRow}
use Rattle.rows.specs.Rows.{rows_of, written}
use Rattle.units.specs.declared.GuestAddr.{GuestAddr}
use Rattle.record.specs.declared.Device.{Device}
use Rattle.step.specs.declared.Answered.{Answered}
use Rattle.step.specs.Answers.{answer_words}
use Rattle.step.specs.World.{World, Guest, Call, Place, SetRequestedSize, Request, HostAnswer, ReadConfig, WriteConfig, Outcome, world_of}
use Rattle.step.specs.Step.{step}

-- the slices that a caller lends: the bitmap, the map table, and bytes: guest memory, or what a config read is to fill. A call that is not lent one has none of it
pub record Lent : Type 0 where
  pub bitmap : List ℕ
  pub table : List ℕ
  pub bytes : List ℕ

abbrev pub lent : (bitmap table bytes : List ℕ) → Lent
lent bitmap table bytes = record { bitmap = bitmap; table = table; bytes = bytes }

-- the world of a record on what is lent, and the guest memory from an address on
abbrev pub on : Device → Lent → World
on d l = world_of d l.bitmap l.table

abbrev pub guest_in : Lent → (base : ℕ) → Guest
guest_in l base = record { mem = l.bytes; base = base }

-- what slices mean: the bitmap its blocks, the map table its rows, and bytes themselves
pub record Meant : Type 0 where
  pub blocks : List Bool
  pub rows : List MapRow
  pub bytes : List ℕ

abbrev pub meant : Lent → Meant
meant l = record { blocks = blocks l.bitmap; rows = rows_of l.table; bytes = l.bytes }

abbrev pub left_by : Outcome → Meant
left_by o = record { blocks = o.world.blocks; rows = o.world.rows; bytes = o.bytes }

-- what was lent comes back with this meaning; the map table is as it was but for its rows
pub record Leaves (m : Meant) (before after : Lent) : Type 0 where
  pub marked : blocks after.bitmap ≡ m.blocks
  pub mapped : after.table ≡ written before.table m.rows
  pub left : after.bytes ≡ m.bytes

-- R18.1, R18.2: an outcome is given: its answer, with its number and values, its record, and what was lent as it leaves it
pub record Gives (o : Outcome) (before after : Lent) (s : Answered) : Type 0 where
  pub answered : s.answer ≡ o.answer
  pub told : answer_words s.answer ≡ answer_words o.answer
  pub recorded : s.device ≡ o.world.device
  pub leaves : Leaves (left_by o) before after

-- ---- the calls, of what is lent
abbrev pub place_on : (start size : ℕ) (slots : List ℕ) → Lent → Call
place_on start size slots l = Place start size slots (blocks l.bitmap) (rows_of l.table)

abbrev pub resize_on : (mib : ℕ) → Lent → Call
resize_on mib l = SetRequestedSize mib

abbrev pub request_on : (base descriptors head : ℕ) → Lent → Call
request_on base descriptors head l = Request (guest_in l base) descriptors head

abbrev pub answer_on : (base : ℕ) (ok : Bool) (host : ℕ) → Lent → Call
answer_on base ok host l = HostAnswer (guest_in l base) ok host

abbrev pub read_on : (offset : ℕ) → Lent → Call
read_on offset l = ReadConfig offset l.bytes

abbrev pub write_on : (offset : ℕ) → Lent → Call
write_on offset l = WriteConfig offset l.bytes

-- the call, on what was lent, gives what `step` says
abbrev pub Steps : Device → (Lent → Call) → (before after : Lent) → Answered → Type 0
Steps d call before after s = Gives (step (on d before) (call before)) before after s

-- the same of a part of a call, on the guest memory from `base` on
abbrev pub Does : (World → Guest → Outcome) → Device → (base : GuestAddr) → (before after : Lent) → Answered → Type 0
Does part d base before after s = Gives (part (on d before) (guest_in before base.0)) before after s
