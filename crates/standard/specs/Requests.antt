-- SPDX-License-Identifier: Apache-2.0 AND BSD-3-Clause
-- What Virtio 1.2 asks of the requests and of the response to each: M8 to M17. The names M8, Q4, .. are clauses of sections 5.15 and 2.7, retold and numbered in docs/STANDARD.md. Everything here holds in every world, whether or not a run leads there. Where a clause is narrower, a line says how, and docs/DIFFERENCES.md has the input.
use Rattle.std.specs.Prelude.{ℕ, ◌+◌, ◌-◌, ◌*◌, ◌%◌, ◌^◌, ◌≤◌, ◌<◌, ◌≡◌, Bool, true, false, ◌||◌, List, [], ◌∷◌, eqb, length, Some, Ok, Err, Result}
use Rattle.std.proofs.Math.Option.{Option, some, none}
use Rattle.units.specs.declared.GuestAddr.{GuestAddr}
use Rattle.units.specs.declared.HostAddr.{HostAddr}
use Rattle.bitmap.specs.Blocks.{block_at}
use Rattle.little_endian.specs.Bytes.{part}
use Rattle.change.specs.Change.{host_of}
use Rattle.wire.specs.Standard.{virtio_mem_resp}
use Rattle.wire.specs.declared.VirtioMemReq.{VirtioMemReq}
use Rattle.wire.specs.declared.VirtioMemResp.{VirtioMemResp}
use Rattle.descriptors.specs.declared.Descriptor.{Descriptor}
use Rattle.descriptors.specs.Standard.{is_write_only}
use Rattle.descriptors.specs.Descriptors.{link_at, link_after}
use Rattle.chain.specs.declared.Asked.{Asked}
use Rattle.chain.specs.declared.NoRequest.{NoRequest}
use Rattle.chain.specs.Chain.{asked, parsed}
use Rattle.record.specs.declared.HostCall.{HostCall}
use Rattle.record.specs.declared.HostCall.TheVariants.{Discard as DiscardCall}
use Rattle.record.specs.declared.Pending.{Pending}
use Rattle.record.specs.declared.Pending.TheVariants.{Nothing, Create, Discard, DiscardOne}
use Rattle.record.specs.Shape.{shaped_of, is_idle}
use Rattle.step.specs.declared.Answer.{Answer}
use Rattle.step.specs.declared.Answer.TheVariants.{Refused, Wants, Unserved, Served}
use Rattle.step.specs.declared.Reply.{Reply}
use Rattle.step.specs.Answers.{response}
use Rattle.step.specs.World.{World, Guest, no_guest, Call, Place, SetRequestedSize, Request, HostAnswer, ReadConfig, WriteConfig, Outcome}
use Rattle.step.specs.Step.{step, block_size, usable, plugged, requested, start, several, region_blocks, tables_fit, cleared}
use Rattle.standard.specs.Config.{config_in}

-- ---- M9, R7.4: the types of requests and responses, and the states
abbrev pub VIRTIO_MEM_REQ_PLUG : ℕ
VIRTIO_MEM_REQ_PLUG = 0

abbrev pub VIRTIO_MEM_REQ_UNPLUG : ℕ
VIRTIO_MEM_REQ_UNPLUG = 1

abbrev pub VIRTIO_MEM_REQ_UNPLUG_ALL : ℕ
VIRTIO_MEM_REQ_UNPLUG_ALL = 2

abbrev pub VIRTIO_MEM_REQ_STATE : ℕ
VIRTIO_MEM_REQ_STATE = 3

abbrev pub VIRTIO_MEM_RESP_ACK : ℕ
VIRTIO_MEM_RESP_ACK = 0

abbrev pub VIRTIO_MEM_RESP_NACK : ℕ
VIRTIO_MEM_RESP_NACK = 1

abbrev pub VIRTIO_MEM_RESP_BUSY : ℕ
VIRTIO_MEM_RESP_BUSY = 2

abbrev pub VIRTIO_MEM_RESP_ERROR : ℕ
VIRTIO_MEM_RESP_ERROR = 3

abbrev pub VIRTIO_MEM_STATE_PLUGGED : ℕ
VIRTIO_MEM_STATE_PLUGGED = 0

abbrev pub VIRTIO_MEM_STATE_UNPLUGGED : ℕ
VIRTIO_MEM_STATE_UNPLUGGED = 1

abbrev pub VIRTIO_MEM_STATE_MIXED : ℕ
VIRTIO_MEM_STATE_MIXED = 2

-- ---- the response
-- its type and its state, where the device has responded
abbrev pub type_field : Option VirtioMemResp → Option ℕ
type_field none = none
type_field (some resp) = some resp.resp_type

abbrev pub state_field : Option VirtioMemResp → Option ℕ
state_field none = none
state_field (some resp) = some resp.state

abbrev pub response_of : Answer → Option ℕ
response_of a = type_field (response a)

abbrev pub Responds : Outcome → (type : ℕ) → Type 0
Responds o type = response_of o.answer ≡ some type

-- ACK, NACK and ERROR
abbrev pub Acknowledged : Outcome → Type 0
Acknowledged o = Responds o VIRTIO_MEM_RESP_ACK

abbrev pub Declined : Outcome → Type 0
Declined o = Responds o VIRTIO_MEM_RESP_NACK

abbrev pub Rejected : Outcome → Type 0
Rejected o = Responds o VIRTIO_MEM_RESP_ERROR

abbrev pub TellsState : Outcome → (state : ℕ) → Type 0
TellsState o state = state_field (response o.answer) ≡ some state

-- one of these
unfoldable pub among : List ℕ → ℕ → Bool
among [] n = false
among (m ∷ ms) n = eqb m n || among ms n

-- a response that is given is one of these
abbrev pub RespondsAmong : Outcome → List ℕ → Type 0
RespondsAmong o types = (type : ℕ) → Responds o type → among types type ≡ true

-- the host is asked for this
abbrev pub AsksFor : Outcome → HostCall → Type 0
AsksFor o call = o.answer ≡ Wants call

-- to discard so many bytes from an offset in the region on
abbrev pub AsksToDiscard : Outcome → (offset size : ℕ) → HostAddr → Type 0
AsksToDiscard o offset size host = AsksFor o (DiscardCall (record { 0 = offset }) size host)

-- ---- the blocks
-- memory block i of the device-managed region begins at this guest address
abbrev pub address_of : World → (i : ℕ) → ℕ
address_of w i = start w + i * block_size w

abbrev pub IsPlugged : World → (i : ℕ) → Type 0
IsPlugged w i = block_at w.blocks i ≡ true

abbrev pub IsUnplugged : World → (i : ℕ) → Type 0
IsUnplugged w i = block_at w.blocks i ≡ false

abbrev pub SameBlock : World → World → (i : ℕ) → Type 0
SameBlock w w' i = block_at w'.blocks i ≡ block_at w.blocks i

-- no block and no config field has changed
pub record Unchanged (w w' : World) : Type 0 where
  pub same_blocks : w'.blocks ≡ w.blocks
  pub same_config : config_in w' ≡ config_in w

-- the bytes that a request is about, from its addr on
abbrev pub size_of : World → VirtioMemReq → ℕ
size_of w req = req.nb_blocks * block_size w

-- the request covers block i: an aligned request covers the blocks that begin in its bytes
pub record Covers (w : World) (req : VirtioMemReq) (i : ℕ) : Type 0 where
  pub begins : req.addr.0 ≤ address_of w i
  pub ends : address_of w i < req.addr.0 + size_of w req

-- M11: addr is aligned to the block size, there is a block, and no block outside of the usable region is covered
pub record Valid (w : World) (req : VirtioMemReq) : Type 0 where
  pub aligned : req.addr.0 % block_size w ≡ 0
  pub some_blocks : 0 < req.nb_blocks
  pub from_start : start w ≤ req.addr.0
  pub to_usable : req.addr.0 + size_of w req ≤ start w + usable w

-- the host has memory for `size` bytes from this offset on, in one mapping: test (d), R10.6, of which the standard has nothing
pub record OneMapping (w : World) (offset size : ℕ) : Type 0 where
  pub host : HostAddr
  pub maps : host_of (several w) w.rows offset size ≡ Ok host

-- where the request begins in the region
abbrev pub offset_of : World → VirtioMemReq → ℕ
offset_of w req = req.addr.0 - start w

-- ---- a request that reaches a device which is ready for it
pub record Hears (w : World) (g : Guest) (descriptors head : ℕ) (req : VirtioMemReq) (status : GuestAddr) : Type 0 where
  pub shaped : shaped_of w.device ≡ true
  pub pending_is_idle : is_idle w.device.pending ≡ true
  pub is_placed : w.device.placed ≡ true
  pub fits : tables_fit w.device (length w.blocks) (length w.rows) ≡ true
  pub reads : parsed g.mem g.base descriptors head ≡ asked req status

-- P holds of every such request, whose type is one of these, and its outcome
abbrev pub OfEveryType : (these : ℕ → Type 0) → (World → VirtioMemReq → Outcome → Type 0) → Type 0
OfEveryType these P = (w : World) (g : Guest) (descriptors head : ℕ) (req : VirtioMemReq) (status : GuestAddr) → Hears w g descriptors head req status → these req.req_type
    → P w req (step w (Request g descriptors head))

abbrev pub OfEvery : (type : ℕ) → (World → VirtioMemReq → Outcome → Type 0) → Type 0
OfEvery type P = OfEveryType (λ t. t ≡ type) P

abbrev pub OfEveryUnknown : (World → VirtioMemReq → Outcome → Type 0) → Type 0
OfEveryUnknown P = OfEveryType (λ t. 3 < t) P

-- the call brings such a request, of this type
pub record Brings (w : World) (c : Call) (type : ℕ) : Type 0 where
  pub guest : Guest
  pub descriptors : ℕ
  pub head : ℕ
  pub req : VirtioMemReq
  pub status : GuestAddr
  pub is_request : c ≡ Request guest descriptors head
  pub hears : Hears w guest descriptors head req status
  pub is_type : req.req_type ≡ type

-- and the host's answer to a call that waits for it, p
pub record Awaits (w : World) (p : Pending) : Type 0 where
  pub shaped : shaped_of w.device ≡ true
  pub waits : w.device.pending ≡ p
  pub fits : tables_fit w.device (length w.blocks) (length w.rows) ≡ true

-- until then no other call changes anything
unfoldable pub is_host_answer : Call → Bool
is_host_answer (Place at size slots blocks rows) = false
is_host_answer (SetRequestedSize mib) = false
is_host_answer (Request guest descriptors head) = false
is_host_answer (HostAnswer guest ok host) = true
is_host_answer (ReadConfig offset buffer) = false
is_host_answer (WriteConfig offset buffer) = false

abbrev pub WaitingStays : World → Call → Outcome → Type 0
WaitingStays w c o = is_idle w.device.pending ≡ false → is_host_answer c ≡ false → o.world ≡ w

-- ---- M8: the response in the guest's bytes
-- the guest memory that a call lends; what lends none has no byte of it
unfoldable pub lent_by : Call → Guest
lent_by (Place at size slots blocks rows) = no_guest
lent_by (SetRequestedSize mib) = no_guest
lent_by (Request guest descriptors head) = guest
lent_by (HostAnswer guest ok host) = guest
lent_by (ReadConfig offset buffer) = no_guest
lent_by (WriteConfig offset buffer) = no_guest

-- where a response goes: to the status address of the chain that the call brings, or of the request that waits for the host
unfoldable pub status_of_chain : Result Asked NoRequest → Option ℕ
status_of_chain (Err reason) = none
status_of_chain (Ok found) = some found.status.0

unfoldable pub status_of_pending : Pending → Option ℕ
status_of_pending Nothing = none
status_of_pending (Create first last) = none
status_of_pending (Discard first count status) = some status.0
status_of_pending (DiscardOne block status) = some status.0

unfoldable pub status_for : World → Call → Option ℕ
status_for w (Place at size slots blocks rows) = none
status_for w (SetRequestedSize mib) = none
status_for w (Request guest descriptors head) = status_of_chain (parsed guest.mem guest.base descriptors head)
status_for w (HostAnswer guest ok host) = status_of_pending w.device.pending
status_for w (ReadConfig offset buffer) = none
status_for w (WriteConfig offset buffer) = none

-- the ten bytes at the status address are the standard's layout of the response, its padding zero, and no other byte has changed
pub record ResponseWritten (g : Guest) (status : ℕ) (resp : VirtioMemResp) (bytes : List ℕ) : Type 0 where
  pub from_base : g.base ≤ status
  pub to_end : status + 10 ≤ g.base + length g.mem
  pub laid_out : part bytes (status - g.base) 10 ≡ virtio_mem_resp resp.resp_type 0 0 0 resp.state
  pub same_before : (i n : ℕ) → i + n ≤ status - g.base → part bytes i n ≡ part g.mem i n
  pub same_behind : (i n : ℕ) → status - g.base + 10 ≤ i → part bytes i n ≡ part g.mem i n
  pub same_length : length bytes ≡ length g.mem

-- a used length of 10 says that the response is written, and 0 that nothing is; it is 10 wherever there is room
pub record Delivered (g : Guest) (status : ℕ) (reply : Reply) (bytes : List ℕ) : Type 0 where
  pub whole : reply.used ≡ 10 → ResponseWritten g status reply.response bytes
  pub nothing : reply.used ≡ 0 → bytes ≡ g.mem
  pub no_other : among (10 ∷ 0 ∷ []) reply.used ≡ true
  pub with_room : g.base ≤ status → status + 10 ≤ g.base + length g.mem → status + 10 ≤ 2 ^ 64 → reply.used ≡ 10

pub record ResponseTo (w : World) (c : Call) (reply : Reply) (bytes : List ℕ) : Type 0 where
  pub status : ℕ
  pub goes_to : status_for w c ≡ some status
  pub delivered : Delivered (lent_by c) status reply bytes

abbrev pub ResponseIsDelivered : World → Call → Outcome → Type 0
ResponseIsDelivered w c o = (reply : Reply) → o.answer ≡ Served reply → ResponseTo w c reply o.bytes

-- Q4: the status address is that of a buffer which the driver gave for writing, the second descriptor of the chain
pub record WritableAt (g : Guest) (descriptors head : ℕ) (status : GuestAddr) : Type 0 where
  pub first : Descriptor
  pub second : Descriptor
  pub heads : link_at g.mem g.base descriptors head ≡ Some first
  pub follows : link_after g.mem g.base descriptors first ≡ Some second
  pub is_writable : is_write_only second ≡ true
  pub is_long : 10 ≤ second.len
  pub is_there : second.addr ≡ status

abbrev pub StatusIsWritable : Type 0
StatusIsWritable = (g : Guest) (descriptors head : ℕ) (req : VirtioMemReq) (status : GuestAddr) → parsed g.mem g.base descriptors head ≡ asked req status → WritableAt g descriptors head status

-- a request that waits for the host keeps the status address of its chain
abbrev pub StatusIsKept : World → Call → Outcome → Type 0
StatusIsKept w c o = (call : HostCall) → AsksFor o call → status_of_pending o.world.device.pending ≡ status_for w c

-- and without a response no byte of guest memory changes
abbrev pub SilenceWritesNothing : Type 0
SilenceWritesNothing = (w : World) (g : Guest) → ((descriptors head : ℕ) → response_of (step w (Request g descriptors head)).answer ≡ none → (step w (Request g descriptors head)).bytes ≡ g.mem)
    × ((ok : Bool) (host : ℕ) → response_of (step w (HostAnswer g ok host)).answer ≡ none → (step w (HostAnswer g ok host)).bytes ≡ g.mem)

-- ---- M10: a request is carried out as a whole and acknowledged, or nothing of it is carried out. Narrower: not an unplug-all (M15)
-- as a whole: every block that it covers is in the state that it asks for and no other has changed, plugged_size has moved by their size, and no other config field has; a state request asks for nothing
pub record CarriedOut (w : World) (req : VirtioMemReq) (w' : World) : Type 0 where
  pub plugs : req.req_type ≡ VIRTIO_MEM_REQ_PLUG → ((i : ℕ) → Covers w req i → IsPlugged w' i) × (plugged w' ≡ plugged w + size_of w req)
  pub unplugs : req.req_type ≡ VIRTIO_MEM_REQ_UNPLUG → ((i : ℕ) → Covers w req i → IsUnplugged w' i) × (plugged w' + size_of w req ≡ plugged w)
  pub tells : req.req_type ≡ VIRTIO_MEM_REQ_STATE → Unchanged w w'
  pub others : (i : ℕ) → (Covers w req i → ⊥) → SameBlock w w' i
  pub same_usable : usable w' ≡ usable w
  pub same_requested : requested w' ≡ requested w

pub record WholeOrNothing (w : World) (req : VirtioMemReq) (o : Outcome) : Type 0 where
  pub acknowledged : Acknowledged o → CarriedOut w req o.world
  pub otherwise : (Acknowledged o → ⊥) → Unchanged w o.world

-- ---- M11, M12, M13: PLUG
-- with the request plugged_size stays within requested_size, or would exceed it
abbrev pub Within : World → VirtioMemReq → Type 0
Within w req = plugged w + size_of w req ≤ requested w

abbrev pub Exceeds : World → VirtioMemReq → Type 0
Exceeds w req = requested w < plugged w + size_of w req

-- what a plug is acknowledged for. Narrower: one mapping of the host has the whole range
pub record CanPlug (w : World) (req : VirtioMemReq) : Type 0 where
  pub within_requested : Within w req
  pub valid : Valid w req
  pub each_unplugged : (i : ℕ) → Covers w req i → IsUnplugged w i
  pub mapped : OneMapping w (offset_of w req) (size_of w req)

pub record Plug (w : World) (req : VirtioMemReq) (o : Outcome) : Type 0 where
  -- M12: rejected with NACK if plugged_size would exceed requested_size, and then only
  pub over : Exceeds w req → Declined o
  pub only_over : Declined o → Exceeds w req
  -- M11: rejected with ERROR if it is not valid, or a block is plugged already. Narrower: NACK goes first
  pub bad_range : Within w req → (Valid w req → ⊥) → Rejected o
  pub already : Within w req → (i : ℕ) → Covers w req i → IsPlugged w i → Rejected o
  -- acknowledged otherwise, and then only
  pub granted : CanPlug w req → Acknowledged o
  pub only_granted : Acknowledged o → CanPlug w req
  -- M10, M13
  pub whole : WholeOrNothing w req o
  pub responses : RespondsAmong o (VIRTIO_MEM_RESP_ACK ∷ VIRTIO_MEM_RESP_NACK ∷ VIRTIO_MEM_RESP_ERROR ∷ [])

-- ---- M14: UNPLUG, in two calls: the request asks the host to discard the memory, and the host's answer decides
pub record CanUnplug (w : World) (req : VirtioMemReq) : Type 0 where
  pub valid : Valid w req
  pub all_plugged : (i : ℕ) → Covers w req i → IsPlugged w i
  pub mapped : OneMapping w (offset_of w req) (size_of w req)

-- what the host's answer brings to a request that was made in the world w: its ok is acknowledged, and all blocks are unplugged (M10); its no is an ERROR
pub record UnplugAnswered (w : World) (req : VirtioMemReq) (ok : Bool) (o : Outcome) : Type 0 where
  pub ok_acknowledged : ok ≡ true → Acknowledged o
  pub no_rejected : ok ≡ false → Rejected o
  pub whole : WholeOrNothing w req o

pub record Unplug (w : World) (req : VirtioMemReq) (o : Outcome) : Type 0 where
  -- rejected with ERROR if it is not valid, or a block is unplugged already
  pub bad_range : (Valid w req → ⊥) → Rejected o
  pub already : (i : ℕ) → Covers w req i → IsUnplugged w i → Rejected o
  -- otherwise the host is asked for the range, by its offset and size. Narrower: where one mapping of the host has it. A plugged_size that has not so much is spoiled, and in no run (`PluggedBlocksUnplug`)
  pub granted : (can : CanUnplug w req) → size_of w req ≤ plugged w → AsksToDiscard o (offset_of w req) (size_of w req) can.mapped.host
  pub spoiled : CanUnplug w req → plugged w < size_of w req → o.answer ≡ Refused 12
  pub only_granted : (call : HostCall) → AsksFor o call → CanUnplug w req
  -- there is no response yet, and nothing is unplugged (M10), until the host has answered
  pub responses : RespondsAmong o (VIRTIO_MEM_RESP_ERROR ∷ [])
  pub whole : WholeOrNothing w req o
  pub answered : (call : HostCall) → AsksFor o call → (g : Guest) (ok : Bool) (host : ℕ) → UnplugAnswered w req ok (step o.world (HostAnswer g ok host))

-- ---- M15: UNPLUG ALL, block after block. Narrower than M10: what is unplugged stays so when a later block fails, and that is an ERROR, which the standard has not for this request
-- the lowest plugged block from `from` on, and that there is none
pub record Lowest (w : World) (from i : ℕ) : Type 0 where
  pub from_there : from ≤ i
  pub in_region : i < region_blocks w
  pub is_plugged : IsPlugged w i
  pub none_below : (j : ℕ) → from ≤ j → j < i → IsUnplugged w j

abbrev pub NoneFrom : World → (from : ℕ) → Type 0
NoneFrom w from = (i : ℕ) → from ≤ i → i < region_blocks w → IsUnplugged w i

-- block i lies in the usable region, as every plugged block does (M6), and a mapping has it
pub record CanDiscard (w : World) (i : ℕ) : Type 0 where
  pub in_usable : i * block_size w < usable w
  pub mapped : OneMapping w (i * block_size w) (block_size w)

-- the host is asked to discard the lowest plugged block, by its offset and size, and the request awaits its answer
pub record AsksLowest (w : World) (from : ℕ) (o : Outcome) : Type 0 where
  pub block : ℕ
  pub lowest : Lowest w from block
  pub can : CanDiscard w block
  pub asks : AsksToDiscard o (block * block_size w) (block_size w) can.mapped.host
  pub status : GuestAddr
  pub awaits : Awaits o.world (DiscardOne block status)

-- an unplug-all that has come to block `from`
pub record UnplugsFrom (w : World) (from : ℕ) (o : Outcome) : Type 0 where
  -- acknowledged if no block is plugged any more, and then only; plugged_size is 0
  pub none_left : NoneFrom w from → Acknowledged o
  pub only_none_left : Acknowledged o → NoneFrom w from
  pub size_zero : Acknowledged o → (o.world.blocks ≡ w.blocks) × (plugged o.world ≡ 0)
  -- otherwise the host is asked for the lowest one, and for no other, which stays plugged until it answers
  pub asks_lowest : (i : ℕ) → Lowest w from i → CanDiscard w i → AsksLowest w from o
  pub only_lowest : (call : HostCall) → AsksFor o call → AsksLowest w from o
  pub not_yet : (Acknowledged o → ⊥) → Unchanged w o.world
  -- ERROR if no mapping has it, and for no other reason
  pub cannot : (i : ℕ) → Lowest w from i → (CanDiscard w i → ⊥) → Rejected o
  pub only_cannot : Rejected o → (i : ℕ) × Lowest w from i × (CanDiscard w i → ⊥)
  pub responses : RespondsAmong o (VIRTIO_MEM_RESP_ACK ∷ VIRTIO_MEM_RESP_ERROR ∷ [])

abbrev pub UnplugAll : World → VirtioMemReq → Outcome → Type 0
UnplugAll w req o = UnplugsFrom w 0 o

-- block j is unplugged, and no other
pub record OneUnplugged (w : World) (j : ℕ) (w' : World) : Type 0 where
  pub is_unplugged : IsUnplugged w' j
  pub others : (i : ℕ) → (i ≡ j → ⊥) → SameBlock w w' i
  pub shrinks : plugged w' ≡ plugged w - block_size w

-- the host has answered for block j of an unplug-all: its no is an ERROR, and nothing has changed; by its ok the block is unplugged, and the next is looked for
pub record OneAnswered (w : World) (j : ℕ) (ok : Bool) (o : Outcome) : Type 0 where
  pub no_rejected : ok ≡ false → Rejected o
  pub no_unchanged : ok ≡ false → Unchanged w o.world
  pub ok_unplugs : OneUnplugged w j (cleared w j)
  pub ok_goes_on : ok ≡ true → UnplugsFrom (cleared w j) (j + 1) o

abbrev pub OfEveryOne : Type 0
OfEveryOne = (w : World) (j : ℕ) (status : GuestAddr) → Awaits w (DiscardOne j status) → (g : Guest) (ok : Bool) (host : ℕ) → OneAnswered w j ok (step w (HostAnswer g ok host))

-- ---- M16: STATE
pub record StateRequest (w : World) (req : VirtioMemReq) (o : Outcome) : Type 0 where
  -- rejected with ERROR if it is not valid, and acknowledged otherwise
  pub bad_range : (Valid w req → ⊥) → Rejected o
  pub acknowledged : Valid w req → Acknowledged o
  -- with PLUGGED, UNPLUGGED or MIXED
  pub all_plugged : Valid w req → ((i : ℕ) → Covers w req i → IsPlugged w i) → TellsState o VIRTIO_MEM_STATE_PLUGGED
  pub each_unplugged : Valid w req → ((i : ℕ) → Covers w req i → IsUnplugged w i) → TellsState o VIRTIO_MEM_STATE_UNPLUGGED
  pub mixed : Valid w req → (i j : ℕ) → Covers w req i → IsPlugged w i → Covers w req j → IsUnplugged w j → TellsState o VIRTIO_MEM_STATE_MIXED
  -- M10: it changes nothing in either case
  pub whole : WholeOrNothing w req o
  pub responses : RespondsAmong o (VIRTIO_MEM_RESP_ACK ∷ VIRTIO_MEM_RESP_ERROR ∷ [])

-- not the standard's: a request of a type that it does not have gets no response, and changes nothing
pub record Unknown (w : World) (req : VirtioMemReq) (o : Outcome) : Type 0 where
  pub no_response : o.answer ≡ Unserved 0
  pub not_changed : Unchanged w o.world

-- ---- of every call
-- M12: NACK is given to no other request than a plug whose plugged_size would exceed requested_size
pub record PlugPastRequested (w : World) (c : Call) : Type 0 where
  pub brings : Brings w c VIRTIO_MEM_REQ_PLUG
  pub over : Exceeds w brings.req

abbrev pub NackOnlyPastRequested : World → Call → Outcome → Type 0
NackOnlyPastRequested w c o = Declined o → PlugPastRequested w c

-- M17: BUSY is never given, so no request is asked to be tried again
abbrev pub NeverBusy : World → Call → Outcome → Type 0
NeverBusy w c o = Responds o VIRTIO_MEM_RESP_BUSY → ⊥
