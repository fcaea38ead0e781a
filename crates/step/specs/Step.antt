-- SPDX-License-Identifier: Apache-2.0 AND BSD-3-Clause
-- What each call does, in the order of the rules' tests (R2): `step` from a World and a Call to an Outcome. Every ending is a named leaf, and every decision a tree of tests over leaves.
use Rattle.std.specs.Prelude.{ℕ, ◌+◌, ◌-◌, ◌*◌, ◌≡◌, Bool, true, false, cond, not, ◌&&◌, List, [], leb, ltb, eqb, length, drop, Option, Some, None, Result, Ok, Err, ⊤}
use Rattle.units.specs.Numbers.{top, bytes_of, blocks_in, map_region, map_regions, MiB}
use Rattle.bitmap.specs.Blocks.{fill, next_set}
use Rattle.wire.specs.declared.VirtioMemReq.{VirtioMemReq}
use Rattle.little_endian.specs.Bytes.{put}
use Rattle.wire.specs.Layout.{config_bytes}
use Rattle.chain.specs.declared.Asked.{Asked}
use Rattle.chain.specs.declared.NoRequest.{NoRequest}
use Rattle.chain.specs.declared.NoRequest.TheVariants.{UnknownType}
use Rattle.chain.specs.Chain.{parsed, reason, reaches, delivered}
use Rattle.rows.specs.declared.MapRow.{MapRow}
use Rattle.rows.specs.Rows.{row_at, rows_filled, rows_laid}
use Rattle.record.specs.declared.Device.{Device}
use Rattle.record.specs.declared.Pending.{Pending}
use Rattle.record.specs.declared.Pending.TheVariants.{Nothing, Create, Discard, DiscardOne}
use Rattle.record.specs.declared.HostCall.TheVariants.{Create as CreateCall, Discard as DiscardCall}
use Rattle.record.specs.Shape.{shaped_of, is_idle, size_ok, start_ok}
use Rattle.record.specs.Changes.{pending_to, plugged_to, requested_to, start_to, usable_to, placed_to}
use Rattle.resize.specs.declared.Creation.{Creation}
use Rattle.resize.specs.Resize.{new_size, grown, growth_of}
use Rattle.units.specs.declared.RegionOffset.{RegionOffset}
use Rattle.change.specs.declared.Change.{Change}
use Rattle.change.specs.declared.Reason.{Reason}
use Rattle.change.specs.declared.Reason.TheVariants.{FailedDiscard}
use Rattle.change.specs.Change.{range_of, change_of, state_of}
use Rattle.change.specs.Why.{why, why_number}
use Rattle.refusal.specs.declared.Refusal.{Refusal}
use Rattle.refusal.specs.declared.Refusal.TheVariants.{WrongSize, WrongRange, WrongStart, NotPlaced, AlreadyPlaced, CallPending, NothingPending, HostPastTop, CreationFailed, TooShort, NoShape}
use Rattle.refusal.specs.Refusal.{number}
use Rattle.std.specs.Result.{result_err}
use Rattle.step.specs.declared.Verdict.{Verdict}
use Rattle.step.specs.declared.Answer.TheVariants.{Refused, Wants, Sized, Unserved, Done}
use Rattle.step.specs.Answers.{served_with}
use Rattle.step.specs.World.{World, Guest, Call, Place, SetRequestedSize, Request, HostAnswer, ReadConfig, WriteConfig, Outcome}

-- ---- the record's numbers
abbrev pub block_size : World → ℕ
block_size w = w.device.config.block_size

abbrev pub region : World → ℕ
region w = w.device.config.region_size

abbrev pub usable : World → ℕ
usable w = w.device.config.usable_region_size

abbrev pub plugged : World → ℕ
plugged w = w.device.config.plugged_size

abbrev pub requested : World → ℕ
requested w = w.device.config.requested_size

abbrev pub start : World → ℕ
start w = w.device.config.addr.0

abbrev pub several : World → Bool
several w = w.device.several

-- how many blocks, and how many map regions, the region has
abbrev pub region_blocks : World → ℕ
region_blocks w = blocks_in (block_size w) (region w)

abbrev pub region_rows : World → ℕ
region_rows w = map_regions (region w) (several w)

-- the world with another record
abbrev pub device_of : Device → World → World
device_of d w = record { device = d; blocks = w.blocks; rows = w.rows }

-- blocks, rows and the plugged size are as they were
pub record Untouched (w w' : World) : Type 0 where
  pub same_blocks : w'.blocks ≡ w.blocks
  pub same_rows : w'.rows ≡ w.rows
  pub same_plugged : plugged w' ≡ plugged w

-- ---- the endings
-- R2.8: a refusal changes nothing
abbrev pub refused : Refusal → World → List ℕ → Outcome
refused refusal w bytes = record { world = w; answer = Refused (number refusal); bytes = bytes }

-- R9.7: used length 0 with its reason, and nothing written
abbrev pub unserved : NoRequest → World → Guest → Outcome
unserved why w g = record { world = w; answer = Unserved (reason why); bytes = g.mem }

-- what a request comes to: the response, and why it is an ERROR (R10.17)
abbrev pub verdict : (type state why : ℕ) → Verdict
verdict type state why = record { response = record { resp_type = type; state = state }; why = why }

-- R7.4: ACK 0, NACK 1, ERROR 3; R10.2: with state 0
abbrev pub ack : Verdict
ack = verdict 0 0 0

abbrev pub nack : Verdict
nack = verdict 1 0 0

abbrev pub error : (why : ℕ) → Verdict
error why = verdict 3 0 why

-- R9.10; the guest reads the response alone
abbrev pub served : Verdict → (status : ℕ) → World → Guest → Outcome
served v status w g =
    record {
      world = w;
      answer = served_with v (cond (reaches g.mem g.base status) 10 0);
      bytes = delivered g.mem g.base status v.response;
    }

-- R10.8
abbrev pub plugs : World → (first count status : ℕ) → Guest → Outcome
plugs w first count status g =
    served ack status
    (record {
      device = plugged_to (plugged w + bytes_of (block_size w) count) w.device;
      blocks = fill w.blocks first count true;
      rows = w.rows;
    })
    g

-- R10.9, R11.1: an unplug asks for one discard, and the record waits for its answer
abbrev pub asks_discard : World → (first count offset host status : ℕ) → Guest → Outcome
asks_discard w first count offset host status g =
    record {
      world = device_of (pending_to (Discard first count (record { 0 = status })) w.device) w;
      answer = Wants (DiscardCall (record { 0 = offset }) (bytes_of (block_size w) count) (record { 0 = host }));
      bytes = g.mem;
    }

-- R10.10
abbrev pub unplugs : World → (first count status : ℕ) → Guest → Outcome
unplugs w first count status g =
    served ack status
    (record {
      device = pending_to Nothing (plugged_to (plugged w - bytes_of (block_size w) count) w.device);
      blocks = fill w.blocks first count false;
      rows = w.rows;
    })
    g

-- R10.10, R10.13: ERROR, and nothing has changed but that nothing is pending
abbrev pub stops : (why : ℕ) → World → (status : ℕ) → Guest → Outcome
stops why w status g = served (error why) status (device_of (pending_to Nothing w.device) w) g

-- R10.11: an unplug-all asks for one block
abbrev pub asks_one : World → (block offset host status : ℕ) → Guest → Outcome
asks_one w block offset host status g =
    record {
      world = device_of (pending_to (DiscardOne block (record { 0 = status })) w.device) w;
      answer = Wants (DiscardCall (record { 0 = offset }) (bytes_of (block_size w) 1) (record { 0 = host }));
      bytes = g.mem;
    }

-- R10.12: one block of an unplug-all is discarded, and nothing is asked yet
abbrev pub cleared : World → (block : ℕ) → World
cleared w block =
    record {
      device = pending_to Nothing (plugged_to (plugged w - block_size w) w.device);
      blocks = fill w.blocks block 1 false;
      rows = w.rows;
    }

-- R10.14
abbrev pub ends_all : World → (status : ℕ) → Guest → Outcome
ends_all w status g = served ack status (device_of (pending_to Nothing (plugged_to 0 w.device)) w) g

-- R6.1: the usable size that the requested size is worth now
abbrev pub new_usable : World → ℕ
new_usable w = new_size (block_size w) (region w) (requested w) w.device.alignment

-- R6.8, R5.5: the record with its usable size worked out, and placed
abbrev pub sized_of : Device → Device
sized_of d =
    let c = d.config in
    placed_to true (usable_to (grown c.usable_region_size (new_size c.block_size c.region_size c.requested_size d.alignment)) d)

abbrev pub sizes : World → Outcome
sizes w =
    record {
      world = device_of (sized_of w.device) w;
      answer = Sized;
      bytes = [];
    }

-- R6.6, R11.1, R11.5
abbrev pub asks_create : World → (i last size : ℕ) → Outcome
asks_create w i last size =
    record {
      world = device_of (pending_to (Create i last) w.device) w;
      answer = Wants (CreateCall (record { 0 = start w + i * map_region }) size (row_at w.rows i).slot);
      bytes = [];
    }

-- R11.4: the rows are mapped (R6.7), and the usable size is worked out
abbrev pub creates : World → (i last host : ℕ) → List ℕ → Outcome
creates w i last host bytes =
    record {
      world = record {
        device = pending_to Nothing (sized_of w.device);
        blocks = w.blocks;
        rows = rows_filled w.rows i last host;
      };
      answer = Sized;
      bytes = bytes;
    }

-- R1.10; R2.9, R2.10: what was written before the question stands, and nothing else has changed
abbrev pub create_fails : World → List ℕ → Outcome
create_fails w bytes =
    record { world = device_of (pending_to Nothing w.device) w; answer = Refused (number CreationFailed); bytes = bytes }

-- R5.2
abbrev pub placed : World → (start : ℕ) (slots : List ℕ) → List Bool → List MapRow → World
placed w at slots bs rows =
    record {
      device = start_to at w.device;
      blocks = fill bs 0 (region_blocks w) false;
      rows = rows_laid rows slots;
    }

-- ---- the refusals, in their order: the first that is given, or none
-- R1.11
unfoldable pub tables_fit : Device → (blocks rows : ℕ) → Bool
tables_fit d blocks rows =
    leb (blocks_in d.config.block_size d.config.region_size) blocks
    && leb (map_regions d.config.region_size d.several) rows

-- R2.3, R2.4: a request and a size change: 12, 7 (R1.7), 5 (R1.5), 11
unfoldable pub ready_refusal : Device → (blocks rows : ℕ) → Result ⊤ Refusal
ready_refusal d blocks rows =
    cond (not (shaped_of d)) (Err NoShape)
    (cond (not (is_idle d.pending)) (Err CallPending)
    (cond (not d.placed) (Err NotPlaced)
    (cond (not (tables_fit d blocks rows)) (Err TooShort) (Ok tt))))

-- R2.2: placing: 12, 7, 6 (R1.6), 11
unfoldable pub unplaced_refusal : Device → (blocks rows : ℕ) → Result ⊤ Refusal
unplaced_refusal d blocks rows =
    cond (not (shaped_of d)) (Err NoShape)
    (cond (not (is_idle d.pending)) (Err CallPending)
    (cond d.placed (Err AlreadyPlaced)
    (cond (not (tables_fit d blocks rows)) (Err TooShort) (Ok tt))))

-- R2.5: a host answer: 12, 8 (R1.8), 11
unfoldable pub pending_refusal : Device → (blocks rows : ℕ) → Result ⊤ Refusal
pending_refusal d blocks rows =
    cond (not (shaped_of d)) (Err NoShape)
    (cond (is_idle d.pending) (Err NothingPending)
    (cond (not (tables_fit d blocks rows)) (Err TooShort) (Ok tt)))

-- placing's own, of so many slots: 3 and 4
unfoldable pub range_refusal : Device → (start size slots : ℕ) → Result ⊤ Refusal
range_refusal d start size slots =
    let region = d.config.region_size in
    cond (not (eqb slots (map_regions region d.several) && eqb size region)) (Err WrongRange)
    (cond (not (start_ok start region d.several d.alignment)) (Err WrongStart) (Ok tt))

-- the outcome, unless the call is refused
unfoldable pub unless : Result ⊤ Refusal → World → List ℕ → Outcome → Outcome
unless (Ok admitted) w bytes o = o
unless (Err refusal) w bytes o = refused refusal w bytes

-- ---- plug, unplug, unplug-all, state
-- tests (b) to (d) of a range
abbrev pub changing : World → (addr count : ℕ) (wanted : Bool) → Result Change Reason
changing w addr count wanted =
    change_of (block_size w) (start w) (usable w) (several w) addr count wanted w.blocks w.rows

unfoldable pub plug_as : Result Change Reason → World → (count status : ℕ) → Guest → Outcome
plug_as (Ok change) w count status g = plugs w change.first count status g
plug_as (Err reason) w count status g = served (error (why reason)) status w g

-- R10.2; R10.3: test (a), then (b) to (d)
unfoldable pub plug : World → (addr count status : ℕ) → Guest → Outcome
plug w addr count status g =
    cond (ltb (requested w) (plugged w + bytes_of (block_size w) count)) (served nack status w g)
    (plug_as (changing w addr count true) w count status g)

-- R10.9; R2.7: the 12 of an unplug larger than the plugged size comes last
unfoldable pub unplug_as : Result Change Reason → World → (count status : ℕ) → Guest → Outcome
unplug_as (Ok change) w count status g =
    cond (ltb (plugged w) (bytes_of (block_size w) count)) (refused NoShape w g.mem)
    (asks_discard w change.first count change.offset.0 change.host.0 status g)
unplug_as (Err reason) w count status g = served (error (why reason)) status w g

abbrev pub unplug : World → (addr count status : ℕ) → Guest → Outcome
unplug w addr count status g = unplug_as (changing w addr count false) w count status g

-- R10.11, R10.13: each as an unplug of one block
unfoldable pub one_as : Result Change Reason → World → (block status : ℕ) → Guest → Outcome
one_as (Ok change) w block status g = asks_one w block change.offset.0 change.host.0 status g
one_as (Err reason) w block status g = stops (why reason) w status g

abbrev pub unplug_one : World → (block status : ℕ) → Guest → Outcome
unplug_one w block status g = one_as (changing w (start w + bytes_of (block_size w) block) 1 false) w block status g

unfoldable pub next_as : Option ℕ → World → (status : ℕ) → Guest → Outcome
next_as None w status g = ends_all w status g
next_as (Some block) w status g = unplug_one w block status g

-- R10.11, R10.12: the plugged blocks, the lowest first, from a block on
abbrev pub unplug_all : World → (from status : ℕ) → Guest → Outcome
unplug_all w from status g = next_as (next_set w.blocks from (region_blocks w)) w status g

-- R10.15
unfoldable pub state_type : Result RegionOffset Reason → ℕ
state_type (Ok offset) = 0
state_type (Err why) = 3

-- R10.15, R10.16: the state is worked out in either case
abbrev pub state_verdict : World → (addr count : ℕ) → Verdict
state_verdict w addr count =
    let range = range_of (block_size w) (start w) (usable w) addr count in
    verdict (state_type range) (state_of (block_size w) (start w) (region w) addr count w.blocks) (why_number (result_err range))

-- R7.4; R9.8: type 4 or more
unfoldable pub serve : World → VirtioMemReq → (status : ℕ) → Guest → Outcome
serve w req status g =
    cond (eqb req.req_type 0) (plug w req.addr.0 req.nb_blocks status g)
    (cond (eqb req.req_type 1) (unplug w req.addr.0 req.nb_blocks status g)
    (cond (eqb req.req_type 2) (unplug_all w 0 status g)
    (cond (eqb req.req_type 3) (served (state_verdict w req.addr.0 req.nb_blocks) status w g)
    (unserved UnknownType w g))))

-- R9.9: the request and the status address, read once
unfoldable pub request : Result Asked NoRequest → World → Guest → Outcome
request (Err reason) w g = unserved reason w g
request (Ok asked) w g = serve w asked.request asked.status.0 g

-- ---- placing, the size change, and the host's answer
-- a creation is asked for where the growth of the usable size needs one
unfoldable pub resizes : Option Creation → World → Outcome
resizes None w = sizes w
resizes (Some made) w = asks_create w made.first made.last made.size

abbrev pub resized : World → Outcome
resized w = resizes (growth_of (region w) (several w) (usable w) (new_usable w) w.rows) w

-- R5.3; R5.4: several regions ask as the usable size does
unfoldable pub placing : World → Outcome
placing w = cond (several w) (resized w) (asks_create w 0 0 (region w))

-- R5.1; R1.3, then R1.4 (R2.2)
unfoldable pub place : World → (start size : ℕ) (slots : List ℕ) → List Bool → List MapRow → Outcome
place w at size slots bs rows =
    unless (range_refusal w.device at size (length slots)) w [] (placing (placed w at slots bs rows))

-- R6.3; R1.1
unfoldable pub set_requested_size : World → (mib : ℕ) → Outcome
set_requested_size w mib =
    cond (not (size_ok (block_size w) (mib * MiB) (region w))) (refused WrongSize w [])
    (resized (device_of (requested_to (mib * MiB) w.device) w))

-- R1.9: what a creation covers
abbrev pub covered_by : World → (i last : ℕ) → ℕ
covered_by w i last = cond (several w) ((last + 1 - i) * map_region) (region w)

-- R2.5, R11.3, R11.4: by what is pending; a creation then gives 9 or 10, and a discard ends its request or goes on
unfoldable pub host_answer : Pending → World → Guest → (ok : Bool) (host : ℕ) → Outcome
host_answer Nothing w g ok host = refused NothingPending w g.mem
host_answer (Create i last) w g ok host =
    cond ok
    (cond (ltb top (host + covered_by w i last)) (refused HostPastTop w g.mem) (creates w i last host g.mem))
    (create_fails w g.mem)
host_answer (Discard first count status) w g ok host =
    cond ok (unplugs w first count status.0 g) (stops (why FailedDiscard) w status.0 g)
host_answer (DiscardOne block status) w g ok host =
    cond ok (unplug_all (cleared w block) (block + 1) status.0 g) (stops (why FailedDiscard) w status.0 g)

-- ---- the config
-- R7.6, R7.7; R2.6: 12 only
unfoldable pub read_config : World → (offset : ℕ) → List ℕ → Outcome
read_config w offset buffer =
    cond (not (shaped_of w.device)) (refused NoShape w buffer)
    (record { world = w; answer = Done; bytes = put buffer 0 (drop offset (config_bytes w.device.config)) })

unfoldable pub write_config : World → List ℕ → Outcome
write_config w buffer =
    cond (not (shaped_of w.device)) (refused NoShape w buffer) (record { world = w; answer = Done; bytes = buffer })

-- ---- every call
unfoldable pub step : World → Call → Outcome
step w (Place at size slots bs rows) =
    unless (unplaced_refusal w.device (length bs) (length rows)) w [] (place w at size slots bs rows)
step w (SetRequestedSize mib) =
    unless (ready_refusal w.device (length w.blocks) (length w.rows)) w [] (set_requested_size w mib)
step w (Request g descriptors head) =
    unless (ready_refusal w.device (length w.blocks) (length w.rows)) w g.mem
    (request (parsed g.mem g.base descriptors head) w g)
step w (HostAnswer g ok host) =
    unless (pending_refusal w.device (length w.blocks) (length w.rows)) w g.mem
    (host_answer w.device.pending w g ok host)
step w (ReadConfig offset buffer) = read_config w offset buffer
step w (WriteConfig offset buffer) = write_config w buffer
