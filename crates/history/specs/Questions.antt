-- SPDX-License-Identifier: Apache-2.0 AND BSD-3-Clause
-- What the host is asked: exactly what is then pending, and a discard only for an unplug or an unplug-all of the guest's. Of every call c from every world w, and of its outcome o.
use Rattle.std.specs.Prelude.{ℕ, ◌+◌, ◌*◌, ◌≡◌, Bool, true, false, cond, ◌&&◌, ◌||◌, List, eqb, Option, None, Ok, Err, Result}
use Rattle.std.proofs.Math.Option.{Option as Maybe, some, none}
use Rattle.units.specs.Numbers.{bytes_of, map_region}
use Rattle.units.specs.declared.RegionOffset.{RegionOffset}
use Rattle.units.specs.declared.HostAddr.{HostAddr}
use Rattle.chain.specs.declared.Asked.{Asked}
use Rattle.chain.specs.declared.NoRequest.{NoRequest as Unasked}
use Rattle.chain.specs.Chain.{parsed}
use Rattle.rows.specs.declared.MapRow.{MapRow}
use Rattle.rows.specs.Rows.{row_at}
use Rattle.record.specs.declared.Pending.{Pending}
use Rattle.record.specs.declared.Pending.TheVariants.{Nothing, Create, Discard, DiscardOne}
use Rattle.record.specs.declared.HostCall.{HostCall}
use Rattle.record.specs.declared.HostCall.TheVariants.{Create as CreateCall, Discard as DiscardCall}
use Rattle.resize.specs.declared.Creation.{Creation}
use Rattle.resize.specs.Resize.{growth_of, creation}
use Rattle.change.specs.Change.{host_of}
use Rattle.step.specs.declared.Answer.{Answer}
use Rattle.step.specs.declared.Answer.TheVariants.{Wants}
use Rattle.step.specs.World.{World, Call, Place, SetRequestedSize, Request, HostAnswer, ReadConfig, WriteConfig, Outcome}
use Rattle.step.specs.Step.{step, block_size, region, usable, start, several, new_usable}
use Rattle.history.specs.History.{Open, NoRequest, Unplugging, UnpluggingAll, open_of, Story}
use Rattle.history.specs.Rules.{DiscardsNothing}

-- ---- R18.9: what is asked for is what is pending
-- the discard of `count` blocks from `first` on: their offset, their size, and the host address that the row of the map table gives
pub record IsDiscard (w : World) (first count : ℕ) (call : HostCall) : Type 0 where
  pub host : HostAddr
  pub host_is : host_of (several w) w.rows (bytes_of (block_size w) first) (bytes_of (block_size w) count) ≡ Ok host
  pub call_is : call ≡ DiscardCall (record { 0 = bytes_of (block_size w) first }) (bytes_of (block_size w) count) host

-- the creation that is due, its rows and its size: with several regions as R6.4 to R6.6 say; of a single region the whole, in placing (R5.3)
abbrev pub creation_due : World → Option Creation
creation_due w =
    cond (several w) (growth_of (region w) (several w) (usable w) (new_usable w) w.rows) (cond w.device.placed None (creation 0 0 (region w)))

-- R6.6
pub record IsCreation (w : World) (i last : ℕ) (call : HostCall) : Type 0 where
  pub size : ℕ
  pub is_due : creation_due w ≡ creation i last size
  pub call_is : call ≡ CreateCall (record { 0 = start w + i * map_region }) size (row_at w.rows i).slot

-- the question that a pending call waits for
unfoldable pub WaitsFor : World → Pending → HostCall → Type 0
WaitsFor w Nothing call = ⊥
WaitsFor w (Create first last) call = IsCreation w first last call
WaitsFor w (Discard first count status) call = IsDiscard w first count call
WaitsFor w (DiscardOne block status) call = IsDiscard w block 1 call

abbrev pub AsksForPending : World → Call → Outcome → Type 0
AsksForPending w c o = (call : HostCall) → o.answer ≡ Wants call → WaitsFor o.world o.world.device.pending call

-- ---- R18.10: a discard is asked for by an unplug, by an unplug-all, and by the host's yes while an unplug-all is open
-- the type of the request that a chain holds
unfoldable pub type_of : Result Asked Unasked → Maybe ℕ
type_of (Err reason) = none
type_of (Ok asked) = some asked.request.req_type

-- R7.4
unfoldable pub is_unplug : Maybe ℕ → Bool
is_unplug none = false
is_unplug (some type) = eqb type 1 || eqb type 2

unfoldable pub is_unplug_all : Open → Bool
is_unplug_all NoRequest = false
is_unplug_all (Unplugging first count) = false
is_unplug_all (UnpluggingAll block) = true

unfoldable pub may_discard : Open → Call → Bool
may_discard o (Place at size slots blocks rows) = false
may_discard o (SetRequestedSize mib) = false
may_discard o (Request g descriptors head) = is_unplug (type_of (parsed g.mem g.base descriptors head))
may_discard o (HostAnswer g ok host) = ok && is_unplug_all o
may_discard o (ReadConfig offset buffer) = false
may_discard o (WriteConfig offset buffer) = false

abbrev pub DiscardsOnlyBy : Open → Call → Answer → Type 0
DiscardsOnlyBy o c a = (offset : RegionOffset) (size : ℕ) (host : HostAddr) → a ≡ Wants (DiscardCall offset size host) → may_discard o c ≡ true

abbrev pub OnlyUnplugsDiscard : World → Call → Outcome → Type 0
OnlyUnplugsDiscard w c o = DiscardsOnlyBy (open_of w.device.pending) c o.answer

-- and in every good story, as an observer of the calls and answers holds it open
abbrev pub OnlyOpenUnplugsDiscard : Story → Call → Type 0
OnlyOpenUnplugsDiscard s c = DiscardsOnlyBy s.«open» c (step s.world c).answer

-- so placing discards nothing, nor does a config read or write; for a size change see `SizeChangeDiscardsNothing`
pub record OthersDiscardNothing (w : World) : Type 0 where
  pub placing : (at size : ℕ) (slots : List ℕ) (bs : List Bool) (rows : List MapRow) → DiscardsNothing w (Place at size slots bs rows)
  pub reading : (offset : ℕ) (buffer : List ℕ) → DiscardsNothing w (ReadConfig offset buffer)
  pub writing : (offset : ℕ) (buffer : List ℕ) → DiscardsNothing w (WriteConfig offset buffer)
