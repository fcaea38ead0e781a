-- SPDX-License-Identifier: Apache-2.0 AND BSD-3-Clause
-- Demand 3's words: a newly made device, calls from it on, the events that their answers tell, the last event on a block, and how many blocks are plugged.
use Rattle.std.specs.Prelude.{ℕ, ◌+◌, ◌-◌, ◌<◌, ◌≡◌, Bool, true, false, cond, ◌&&◌, List, [], ◌∷◌, ◌++◌, leb, ltb, eqb, take, Ok, Err, Result}
use Rattle.std.proofs.Math.Option.{Option, some, none}
use Rattle.units.specs.Numbers.{bytes_of, blocks_in}
use Rattle.bitmap.specs.Blocks.{block_at, ones}
use Rattle.wire.specs.declared.VirtioMemReq.{VirtioMemReq}
use Rattle.wire.specs.declared.VirtioMemResp.{VirtioMemResp}
use Rattle.chain.specs.declared.Asked.{Asked}
use Rattle.chain.specs.declared.NoRequest.{NoRequest as Unasked}
use Rattle.chain.specs.Chain.{parsed}
use Rattle.record.specs.declared.Device.{Device}
use Rattle.record.specs.declared.Pending.{Pending}
use Rattle.record.specs.declared.Pending.TheVariants.{Nothing, Create as Creating, Discard as Discarding, DiscardOne}
use Rattle.record.specs.declared.HostCall.{HostCall}
use Rattle.record.specs.declared.HostCall.TheVariants.{Create, Discard}
use Rattle.record.specs.Shape.{shaped_of}
use Rattle.step.specs.declared.Answer.{Answer}
use Rattle.step.specs.declared.Answer.TheVariants.{Refused, Wants, Sized, Unserved, Served, Done}
use Rattle.step.specs.Answers.{refusal, response}
use Rattle.step.specs.World.{World, Call, Place, SetRequestedSize, Request, HostAnswer, ReadConfig, WriteConfig}
use Rattle.step.specs.Step.{step, block_size, start, plugged, region_blocks}

-- ---- events: what an observer of calls and answers learns of the blocks. An ACK tells what its request asked for, at once or when the host has answered; the host's yes to an unplug-all tells that a block is discarded
pub data Event : Type 0 where
  PlugAck : (first count : ℕ) → Event
  UnplugAck : (first count : ℕ) → Event
  -- a successful discard in an unplug-all
  Discarded : (block : ℕ) → Event
  UnplugAllAck : Event

-- the block of a guest address, by the start and the block size that the guest reads in the config
abbrev pub block_of : World → (addr : ℕ) → ℕ
block_of w addr = blocks_in (block_size w) (addr - start w)

-- the request that the host was asked for and that has not ended: an observer of calls and answers knows it
pub data Open : Type 0 where
  NoRequest : Open
  Unplugging : (first count : ℕ) → Open
  -- an unplug-all, and the block that the host was asked for last
  UnpluggingAll : (block : ℕ) → Open

-- what is open, as the record has it pending
unfoldable pub open_of : Pending → Open
open_of Nothing = NoRequest
open_of (Creating first last) = NoRequest
open_of (Discarding first count status) = Unplugging first count
open_of (DiscardOne block status) = UnpluggingAll block

-- what an ACK to a request acknowledges at once, by its type (R7.4)
unfoldable pub ack_to_type : World → VirtioMemReq → List Event
ack_to_type w req =
    cond (eqb req.req_type 0) (PlugAck (block_of w req.addr.0) req.nb_blocks ∷ [])
    (cond (eqb req.req_type 1) []
    (cond (eqb req.req_type 2) (UnplugAllAck ∷ []) []))

unfoldable pub ack_to_request : World → Result Asked Unasked → List Event
ack_to_request w (Err reason) = []
ack_to_request w (Ok asked) = ack_to_type w asked.request

-- what an ACK to a host answer acknowledges
unfoldable pub ack_to_host : Open → List Event
ack_to_host NoRequest = []
ack_to_host (Unplugging first count) = UnplugAck first count ∷ []
ack_to_host (UnpluggingAll block) = UnplugAllAck ∷ []

unfoldable pub acknowledges : World → Open → Call → List Event
acknowledges w o (Place at size slots blocks rows) = []
acknowledges w o (SetRequestedSize mib) = []
acknowledges w o (Request g descriptors head) = ack_to_request w (parsed g.mem g.base descriptors head)
acknowledges w o (HostAnswer g ok host) = ack_to_host o
acknowledges w o (ReadConfig offset buffer) = []
acknowledges w o (WriteConfig offset buffer) = []

-- the successful discard that a host answer reports to an unplug-all
unfoldable pub discard_of : Open → List Event
discard_of NoRequest = []
discard_of (Unplugging first count) = []
discard_of (UnpluggingAll block) = Discarded block ∷ []

unfoldable pub reports : Open → Call → List Event
reports o (Place at size slots blocks rows) = []
reports o (SetRequestedSize mib) = []
reports o (Request g descriptors head) = []
reports o (HostAnswer g ok host) = cond ok (discard_of o) []
reports o (ReadConfig offset buffer) = []
reports o (WriteConfig offset buffer) = []

-- R9.10: an ACK counts also where it could not be delivered, with length 0
abbrev pub is_ack : Option VirtioMemResp → Bool
is_ack none = false
is_ack (some resp) = eqb resp.resp_type 0

abbrev pub if_ack : Answer → List Event → List Event
if_ack a es = cond (is_ack (response a)) es []

-- a host answer that is refused is no event
abbrev pub present : {A : Type 0} → Option A → Bool
present none = false
present (some x) = true

abbrev pub if_not_refused : Answer → List Event → List Event
if_not_refused a es = cond (present (refusal a)) [] es

-- the events of one call, newest first: from the call, what was open before it, and its answer
unfoldable pub events_of : World → Open → Call → Answer → List Event
events_of w o c a = if_ack a (acknowledges w o c) ++ if_not_refused a (reports o c)

-- ---- what is open after a call
-- what a discard is asked for by a request
unfoldable pub opened_by_type : World → VirtioMemReq → (block : ℕ) → Open
opened_by_type w req block =
    cond (eqb req.req_type 1) (Unplugging (block_of w req.addr.0) req.nb_blocks) (UnpluggingAll block)

unfoldable pub opened_by_request : World → Result Asked Unasked → (block : ℕ) → Open
opened_by_request w (Err reason) block = NoRequest
opened_by_request w (Ok asked) block = opened_by_type w asked.request block

-- an unplug-all goes on with another block
unfoldable pub goes_on : Open → (block : ℕ) → Open
goes_on NoRequest block = NoRequest
goes_on (Unplugging first count) block = Unplugging first count
goes_on (UnpluggingAll before) block = UnpluggingAll block

unfoldable pub opened_by : World → Open → Call → (block : ℕ) → Open
opened_by w o (Place at size slots blocks rows) block = o
opened_by w o (SetRequestedSize mib) block = o
opened_by w o (Request g descriptors head) block = opened_by_request w (parsed g.mem g.base descriptors head) block
opened_by w o (HostAnswer g ok host) block = goes_on o block
opened_by w o (ReadConfig offset buffer) block = o
opened_by w o (WriteConfig offset buffer) block = o

unfoldable pub asked_by : World → Open → Call → HostCall → Open
asked_by w o c (Create guest size slot) = NoRequest
asked_by w o c (Discard offset size host) = opened_by w o c (blocks_in (block_size w) offset.0)

unfoldable pub open_after : World → Open → Call → Answer → Open
open_after w o c (Refused number) = o
open_after w o c (Wants call) = asked_by w o c call
open_after w o c Sized = NoRequest
open_after w o c (Unserved reason) = NoRequest
open_after w o c (Served reply) = NoRequest
open_after w o c Done = o

-- ---- a run: where the device and its tables stand, what is open, and the events so far, newest first
pub record Story : Type 0 where
  pub world : World
  pub «open» : Open
  pub events : List Event

-- each call works on the record and the tables that the call before gave back
unfoldable pub next : Story → Call → Story
next s c =
    record {
      world = (step s.world c).world;
      «open» = open_after s.world s.«open» c (step s.world c).answer;
      events = events_of s.world s.«open» c (step s.world c).answer ++ s.events;
    }

-- the calls, oldest first
unfoldable pub after : Story → List Call → Story
after s [] = s
after s (c ∷ cs) = after (next s c) cs

-- a newly made device has the stated shape, is not placed, waits for nothing and has nothing plugged or usable
pub record Fresh (d : Device) : Type 0 where
  pub shaped : shaped_of d ≡ true
  pub unplaced : d.placed ≡ false
  pub waits_for_nothing : d.pending ≡ Nothing
  pub nothing_plugged : d.config.plugged_size ≡ 0
  pub nothing_usable : d.config.usable_region_size ≡ 0

-- it has no tables yet: placing brings them
abbrev pub begun : Device → Story
begun d = record { world = record { device = d; blocks = []; rows = [] }; «open» = NoRequest; events = [] }

-- ---- the last event on a block
unfoldable pub within : (first count i : ℕ) → Bool
within first count i = leb first i && ltb i (first + count)

unfoldable pub touches : Event → ℕ → Bool
touches (PlugAck first count) i = within first count i
touches (UnplugAck first count) i = within first count i
touches (Discarded block) i = within block 1 i
touches UnplugAllAck i = false

unfoldable pub last_on : List Event → ℕ → Option Event
last_on [] i = none
last_on (e ∷ es) i = cond (touches e i) (some e) (last_on es i)

unfoldable pub was_plug : Option Event → Bool
was_plug none = false
was_plug (some (PlugAck first count)) = true
was_plug (some (UnplugAck first count)) = false
was_plug (some (Discarded block)) = false
was_plug (some UnplugAllAck) = false

-- ---- the count
-- the blocks of the region; the bitmap that is lent may have more
abbrev pub used : World → List Bool
used w = take (region_blocks w) w.blocks

-- ---- R18.3, R18.4: what demand 3 says of the world that a run led to
pub record Demand3 (w : World) (es : List Event) : Type 0 where
  -- each block of the region is plugged exactly if the last event on it was an acknowledged plug
  pub bits : (i : ℕ) → i < region_blocks w → block_at w.blocks i ≡ was_plug (last_on es i)
  -- the plugged size is the block size times the plugged blocks
  pub count : plugged w ≡ bytes_of (block_size w) (ones (used w))
