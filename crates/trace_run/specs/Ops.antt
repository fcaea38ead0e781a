-- SPDX-License-Identifier: Apache-2.0 AND BSD-3-Clause
-- A trace's ops as calls of the device (R12.9), and its answers as lines (R12.6).
use Rattle.std.specs.Prelude.{ℕ, ◌+◌, List, [], ◌∷◌}
use Rattle.little_endian.specs.Bytes.{value, part, put, little_endian}
use Rattle.record.specs.declared.Device.{Device}
use Rattle.record.specs.declared.HostCall.TheVariants.{Create, Discard}
use Rattle.step.specs.declared.Answer.{Answer}
use Rattle.step.specs.declared.Answer.TheVariants.{Refused, Wants, Sized, Unserved, Served, Done}
use Rattle.step.specs.World.{World, Call, SetRequestedSize, Request, HostAnswer, Outcome}
use Rattle.step.specs.declared.Answered.{Answered}
use Rattle.step.specs.Step.{step}
use Rattle.step.specs.Promise.{Lent, on, Gives}
use Rattle.trace_text.specs.declared.Op.{Op}
use Rattle.trace_text.specs.declared.Op.TheVariants.{Host, Range, UnplugAll, Size}
use Rattle.trace_text.specs.declared.RangeOp.{RangeOp}
use Rattle.trace_text.specs.declared.RangeOp.TheVariants.{Plug, Unplug, State}
use Rattle.wire.specs.declared.RequestType.{RequestType}
use Rattle.wire.specs.declared.RequestType.TheVariants as asks
use Rattle.wire.specs.Types.{type_number}
use Rattle.answer_text.specs.Texts.{create_text, discard_text, sized_text, response_text, refusal_text}

-- a number of so many bytes at a place, and numbers laid one after the other
pub record Number : Type 0 where
  pub at : ℕ
  pub width : ℕ
  pub is : ℕ

abbrev pub number : (at width is : ℕ) → Number
number at width is = record { at = at; width = width; is = is }

unfoldable pub laid : List ℕ → List Number → List ℕ
laid mem [] = mem
laid mem (n ∷ ns) = laid (put mem n.at (little_endian n.width n.is)) ns

-- a descriptor at a place: address, length, flags and next
abbrev pub descriptor : (at addr len flags next : ℕ) → List Number → List Number
descriptor at addr len flags next more =
    number at 8 addr ∷ number (at + 8) 4 len ∷ number (at + 12) 2 flags ∷ number (at + 14) 2 next ∷ more

-- R12.9: the guest's chain, in memory that starts at guest address 0: descriptor 0 names the request, 24 bytes at 64, and goes on with descriptor 1, which names 10 writable bytes at 96
unfoldable pub chained : List ℕ → List ℕ
chained mem = laid mem (descriptor 0 64 24 1 1 (descriptor 16 96 10 2 0 []))

-- the request: type at 0, address at 8, blocks at 16, and zeros between
unfoldable pub asked : List ℕ → (type addr blocks : ℕ) → List ℕ
asked mem type addr blocks =
    laid (chained mem) (number 64 8 type ∷ number 72 8 addr ∷ number 80 8 blocks ∷ [])

abbrev pub request_of : List ℕ → (type addr blocks : ℕ) → Call
request_of mem type addr blocks = Request (record { mem = asked mem type addr blocks; base = 0 }) 0 0

-- the request that asks for an op on a range
abbrev pub type_of : RangeOp → RequestType
type_of Plug = asks.Plug
type_of Unplug = asks.Unplug
type_of State = asks.State

-- the call that an op stands for
unfoldable pub op_call : Op → List ℕ → Call
op_call (Host ok addr) mem = HostAnswer (record { mem = mem; base = 0 }) ok addr.0
op_call (Range op addr blocks) mem = request_of mem (type_number (type_of op)) addr.0 blocks
op_call UnplugAll mem = request_of mem (type_number asks.UnplugAll) 0 0
op_call (Size mib) mem = SetRequestedSize mib

-- the bytes that a call leaves: a size change has none, so guest memory is as it was
unfoldable pub bytes_after : Op → List ℕ → Outcome → List ℕ
bytes_after (Host ok addr) mem o = o.bytes
bytes_after (Range op addr blocks) mem o = o.bytes
bytes_after UnplugAll mem o = o.bytes
bytes_after (Size mib) mem o = mem

-- an op is applied: the outcome of its call, with guest memory as it is then
abbrev pub applied : Op → World → (mem : List ℕ) → Outcome
applied op w mem =
    let o = step w (op_call op mem) in
    record { world = o.world; answer = o.answer; bytes = bytes_after op mem o }

-- what applying an op promises
abbrev pub Applies : Op → Device → (before after : Lent) → Answered → Type 0
Applies op d before after s = Gives (applied op (on d before) before.bytes) before after s

-- the line of an answer: resp and state are read out of the response bytes, why is the answer's
unfoldable pub answer_text : Answer → Device → List ℕ → List ℕ
answer_text (Refused number) d mem = refusal_text number
answer_text (Wants (Create guest size slot)) d mem = create_text guest size slot
answer_text (Wants (Discard offset size host)) d mem = discard_text offset size host
answer_text Sized d mem = sized_text d.config.requested_size d.config.usable_region_size
answer_text (Unserved reason) d mem = []
answer_text (Served reply) d mem =
    response_text (value (part mem 96 2)) (value (part mem 104 2)) d.config.plugged_size d.config.usable_region_size reply.why
answer_text Done d mem = []
