-- SPDX-License-Identifier: Apache-2.0 AND BSD-3-Clause
-- What Virtio 1.2 asks of every good story, and so of every run, which starts at a newly made device and goes on by calls and restores: M11, M14, M15 and M18, where a run says more than a world alone. The names M11, Q9, .. are clauses of sections 5.15 and 2.7, retold and numbered in docs/STANDARD.md. M5 and M6 are in Config.antt.
use Rattle.std.specs.Prelude.{ℕ, ◌+◌, ◌*◌, ◌%◌, ◌≤◌, ◌<◌, ◌≡◌, Bool, true, false, [], ◌∷◌}
use Rattle.units.specs.Numbers.{map_region}
use Rattle.units.specs.declared.GuestAddr.{GuestAddr}
use Rattle.units.specs.declared.HostAddr.{HostAddr}
use Rattle.units.specs.declared.RegionOffset.{RegionOffset}
use Rattle.bitmap.specs.Blocks.{ones}
use Rattle.wire.specs.declared.VirtioMemReq.{VirtioMemReq}
use Rattle.record.specs.declared.HostCall.TheVariants.{Create, Discard}
use Rattle.step.specs.World.{World, Guest, Call, Place, SetRequestedSize, Request, HostAnswer, ReadConfig, WriteConfig, Outcome}
use Rattle.step.specs.Step.{step, block_size, start, several, usable, plugged, requested, region_blocks}
use Rattle.history.specs.History.{Open, Unplugging, UnpluggingAll, UnplugAllAck, acknowledges, used, Story, next}
use Rattle.history.specs.Rules.{InEveryRun}
use Rattle.standard.specs.Config.{FieldsLaidOut, PluggedSizeIsOfBlocks, OutsideIsUnplugged}
use Rattle.standard.specs.Requests.{Acknowledged, Rejected, AsksFor, AsksToDiscard, IsPlugged, IsUnplugged, Covers, Valid, size_of, offset_of, OneMapping, Brings, CanDiscard, VIRTIO_MEM_REQ_PLUG, VIRTIO_MEM_REQ_UNPLUG, VIRTIO_MEM_REQ_UNPLUG_ALL}

-- ---- M11, M14: in a run the host has memory for the whole usable region. What is narrower is that a request may not cross a border: with several regions each 2 GiB of offsets are a map region
pub record InOneMapRegion (w : World) (req : VirtioMemReq) : Type 0 where
  pub valid : Valid w req
  pub no_border : several w ≡ true → offset_of w req % map_region + size_of w req ≤ map_region

abbrev pub UsableIsMapped : Story → Call → Type 0
UsableIsMapped s c = (req : VirtioMemReq) → InOneMapRegion s.world req → OneMapping s.world (offset_of s.world req) (size_of s.world req)

-- M11, M12, counted by blocks: whatever was refused or failed before, unplugged blocks can be plugged as long as they and the plugged ones are at most requested_size
abbrev pub FreeBlocksPlug : Story → Call → Type 0
FreeBlocksPlug s c = let w = s.world in (b : Brings w c VIRTIO_MEM_REQ_PLUG) → InOneMapRegion w b.req
    → ones (used w) * block_size w + size_of w b.req ≤ requested w → ((i : ℕ) → Covers w b.req i → IsUnplugged w i)
    → Acknowledged (step w c)

-- M14: plugged blocks can be unplugged, since plugged_size has them: the host is asked for their offset and size
abbrev pub PluggedBlocksUnplug : Story → Call → Type 0
PluggedBlocksUnplug s c = let w = s.world in (b : Brings w c VIRTIO_MEM_REQ_UNPLUG) → InOneMapRegion w b.req → ((i : ℕ) → Covers w b.req i → IsPlugged w i)
    → (host : HostAddr) × AsksToDiscard (step w c) (offset_of w b.req) (size_of w b.req) host

-- ---- M15: an ACK to an unplug-all, at once or when the host has discarded the last block, says that no block is plugged and that plugged_size is 0
pub record NonePlugged (w : World) : Type 0 where
  pub each_unplugged : (i : ℕ) → i < region_blocks w → IsUnplugged w i
  pub size_zero : plugged w ≡ 0

abbrev pub UnplugAllAcknowledged : Story → Call → Type 0
UnplugAllAcknowledged s c = acknowledges s.world s.«open» c ≡ UnplugAllAck ∷ []
    → Acknowledged (step s.world c) → NonePlugged (next s c).world

-- M15: every plugged block can be discarded, so an unplug-all meets with an ERROR only by the host's no
abbrev pub PluggedCanBeDiscarded : Story → Call → Type 0
PluggedCanBeDiscarded s c = (i : ℕ) → i < region_blocks s.world → IsPlugged s.world i → CanDiscard s.world i

abbrev pub UnplugAllFailsByHost : Story → Call → Type 0
UnplugAllFailsByHost s c = acknowledges s.world s.«open» c ≡ UnplugAllAck ∷ []
    → Rejected (step s.world c) → (guest : Guest) × (host : ℕ) × (c ≡ HostAnswer guest false host)

-- ---- M18: what the driver asks to unplug, by the request that the call brings, or by one that has not ended
pub data AsksToUnplug (w : World) (o : Open) (c : Call) (i : ℕ) : Type 0 where
  ByUnplug : (b : Brings w c VIRTIO_MEM_REQ_UNPLUG) → Covers w b.req i → AsksToUnplug w o c i
  ByUnplugAll : Brings w c VIRTIO_MEM_REQ_UNPLUG_ALL → AsksToUnplug w o c i
  ByOpenUnplug : (first count : ℕ) → o ≡ Unplugging first count → first ≤ i → i < first + count → AsksToUnplug w o c i
  ByOpenUnplugAll : (block : ℕ) → o ≡ UnpluggingAll block → AsksToUnplug w o c i

-- the host has done what it was asked for
unfoldable pub host_agrees : Call → Bool
host_agrees (Place at size slots blocks rows) = false
host_agrees (SetRequestedSize mib) = false
host_agrees (Request guest descriptors head) = false
host_agrees (HostAnswer guest ok host) = ok
host_agrees (ReadConfig offset buffer) = false
host_agrees (WriteConfig offset buffer) = false

-- no block is plugged but by a plug request that covers it; placing, which clears every block, is before any driver
abbrev pub PluggedByRequest : World → Call → Outcome → Type 0
PluggedByRequest w c o = w.device.placed ≡ true → (i : ℕ) → IsUnplugged w i → IsPlugged o.world i
    → (b : Brings w c VIRTIO_MEM_REQ_PLUG) × Covers w b.req i × Acknowledged o

-- none is unplugged but by an unplug request that covers it, or by an unplug-all, when the host agrees
abbrev pub UnpluggedByRequest : Story → Call → Type 0
UnpluggedByRequest s c = s.world.device.placed ≡ true → (i : ℕ) → IsPlugged s.world i → IsUnplugged (next s c).world i
    → AsksToUnplug s.world s.«open» c i × (host_agrees c ≡ true)

-- and the host is asked to discard no block that the driver did not ask to unplug, nor one that is unplugged
abbrev pub DiscardsByRequest : Story → Call → Type 0
DiscardsByRequest s c = (offset : RegionOffset) (size : ℕ) (host : HostAddr) → AsksFor (step s.world c) (Discard offset size host)
    → (i : ℕ) → offset.0 ≤ i * block_size s.world → i * block_size s.world < offset.0 + size
    → AsksToUnplug s.world s.«open» c i × IsPlugged (next s c).world i

-- a creation touches none either: it begins at the end of the usable region or past it, where no block is plugged (M6)
abbrev pub CreatesOutside : Story → Call → Type 0
CreatesOutside s c = (guest : GuestAddr) (size slot : ℕ) → AsksFor (step s.world c) (Create guest size slot) → start (next s c).world + usable s.world ≤ guest.0

-- ---- all of it, in every run from a newly made device on
pub record ClausesInRuns : Type 0 where
  pub fields_laid_out : InEveryRun FieldsLaidOut
  pub plugged_size_is_of_blocks : InEveryRun PluggedSizeIsOfBlocks
  pub outside_is_unplugged : InEveryRun OutsideIsUnplugged
  pub usable_is_mapped : InEveryRun UsableIsMapped
  pub free_blocks_plug : InEveryRun FreeBlocksPlug
  pub plugged_blocks_unplug : InEveryRun PluggedBlocksUnplug
  pub unplug_all_acknowledged : InEveryRun UnplugAllAcknowledged
  pub plugged_can_be_discarded : InEveryRun PluggedCanBeDiscarded
  pub unplug_all_fails_by_host : InEveryRun UnplugAllFailsByHost
  pub unplugged_by_request : InEveryRun UnpluggedByRequest
  pub discards_by_request : InEveryRun DiscardsByRequest
  pub creates_outside : InEveryRun CreatesOutside
