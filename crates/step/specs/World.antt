-- SPDX-License-Identifier: Apache-2.0 AND BSD-3-Clause
-- What a call works on, what it brings, and what it ends in. A definition of `Step.antt` goes from a World and a Call to an Outcome.
use Rattle.std.specs.Prelude.{ℕ, Bool, List, []}
use Rattle.bitmap.specs.Blocks.{blocks}
use Rattle.units.specs.declared.GuestAddr.{GuestAddr}
use Rattle.record.specs.declared.Device.{Device}
use Rattle.rows.specs.declared.MapRow.{MapRow}
use Rattle.rows.specs.Rows.{rows_of}
use Rattle.step.specs.declared.Answer.{Answer}
use Rattle.step.specs.declared.Answered.{Answered}

-- the record and the lent tables: the bitmap as its blocks, the map table as its rows
pub record World : Type 0 where
  pub device : Device
  pub blocks : List Bool
  pub rows : List MapRow

-- guest memory as one call lends it: the bytes, and the address of the first
pub record Guest : Type 0 where
  pub mem : List ℕ
  pub base : ℕ

abbrev pub guest_of : List ℕ → GuestAddr → Guest
guest_of mem base = record { mem = mem; base = base.0 }

-- no guest memory
abbrev pub no_guest : Guest
no_guest = record { mem = []; base = 0 }

-- every call of the device, with all that it brings; placing brings the tables too (R5.1, R6.3, R11.3)
pub data Call : Type 0 where
  Place : (start size : ℕ) (slots : List ℕ) (blocks : List Bool) (rows : List MapRow) → Call
  SetRequestedSize : (mib : ℕ) → Call
  Request : (guest : Guest) (descriptors head : ℕ) → Call
  HostAnswer : (guest : Guest) (ok : Bool) (host : ℕ) → Call
  ReadConfig : (offset : ℕ) (buffer : List ℕ) → Call
  WriteConfig : (offset : ℕ) (buffer : List ℕ) → Call

-- the record and the tables afterwards, the answer, and the bytes that were lent: guest memory, or what a config read was to fill
pub record Outcome : Type 0 where
  pub world : World
  pub answer : Answer
  pub bytes : List ℕ

-- the record and the answer of an outcome
abbrev pub answered_by : Outcome → Answered
answered_by o = record { device = o.world.device; answer = o.answer }

-- the world of a record, the bytes of a bitmap and the words of a map table
abbrev pub world_of : Device → (bitmap table : List ℕ) → World
world_of d bitmap table = record { device = d; blocks = blocks bitmap; rows = rows_of table }
