-- SPDX-License-Identifier: Apache-2.0 AND BSD-3-Clause
-- Which sentence a response brings (R12.13): an ACK says what was done, a NACK and an ERROR why nothing was. Sizes and offsets are in MiB, addresses in bytes.
use Rattle.std.specs.Prelude.{ℕ, ◌+◌, ◌-◌, ◌%◌, Bool, true, false, cond, List, [], ◌∷◌, eqb, Option, Some, None}
use Rattle.units.specs.Numbers.{saturated, map_region}
use Rattle.bitmap.specs.Blocks.{next_set, next_clear}
use Rattle.text.specs.Words.{bytes}
use Rattle.forms.specs.Forms.{filled}
use Rattle.record.specs.declared.Device.{Device}
use Rattle.record.specs.declared.Pending.{Pending}
use Rattle.record.specs.declared.Pending.TheVariants.{Nothing, Create, Discard, DiscardOne}
use Rattle.step.specs.declared.Reply.{Reply}
use Rattle.trace_text.specs.declared.Op.{Op}
use Rattle.trace_text.specs.declared.Op.TheVariants.{Host, Range, UnplugAll, Size}
use Rattle.trace_text.specs.declared.RangeOp.TheVariants.{Plug, Unplug, State}
use Rattle.change.specs.declared.Reason.{Reason}
use Rattle.change.specs.declared.Reason.TheVariants.{Alignment, ZeroBlocks, Overflow, BelowStart, PastUsable, EndPastUsable, WrongState, CrossesBorder, Unmapped, SumPasses, FailedDiscard}
use Rattle.responses.specs.declared.ResponseType.{ResponseType}
use Rattle.responses.specs.declared.ResponseType.TheVariants.{Ack, Nack, Error}
use Rattle.responses.specs.declared.BlockState.{BlockState}
use Rattle.responses.specs.declared.BlockState.TheVariants.{Plugged, Unplugged, Mixed}
use Rattle.spans.specs.declared.Span.{Span}
use Rattle.spans.specs.Spans.{in_mib, op_span}

-- R7.4: ACK is 0, NACK 1, and ERROR 3; no other is given
abbrev pub type_of : ℕ → ResponseType
type_of n = cond (eqb n 0) Ack (cond (eqb n 1) Nack Error)

-- R7.4: plugged is 0, unplugged 1, and mixed 2; no other is given
abbrev pub state_of : ℕ → BlockState
state_of n = cond (eqb n 0) Plugged (cond (eqb n 1) Unplugged Mixed)

-- R10.17: the reason with a number; one of 1 to 11 is given, and any other is told as 6
abbrev pub reason_of : ℕ → Reason
reason_of n =
    cond (eqb n 1) Alignment
    (cond (eqb n 2) ZeroBlocks
    (cond (eqb n 3) Overflow
    (cond (eqb n 4) BelowStart
    (cond (eqb n 5) PastUsable
    (cond (eqb n 7) WrongState
    (cond (eqb n 8) CrossesBorder
    (cond (eqb n 9) Unmapped
    (cond (eqb n 10) SumPasses
    (cond (eqb n 11) FailedDiscard EndPastUsable)))))))))

abbrev pub plugged_in : Device → ℕ
plugged_in d = in_mib d.config.plugged_size

-- ---- ACK, with the record as it is then

abbrev pub done : Device → List ℕ
done d = filled (bytes "ACK: plugged is # MiB now") (plugged_in d ∷ [])

-- R10.8
abbrev pub plugged : Span → Device → List ℕ
plugged s d = filled (bytes "ACK: # MiB plugged at offset # MiB; plugged is # MiB now") (s.size ∷ s.offset ∷ plugged_in d ∷ [])

-- R10.10
abbrev pub unplugged : Span → Device → List ℕ
unplugged s d = filled (bytes "ACK: # MiB unplugged at offset # MiB; plugged is # MiB now") (s.size ∷ s.offset ∷ plugged_in d ∷ [])

-- R10.14: the last discard of an unplug-all is granted, or no block was plugged
abbrev pub all_unplugged : Device → List ℕ
all_unplugged d = filled (bytes "ACK: all is unplugged; plugged is # MiB now") (plugged_in d ∷ [])

abbrev pub none_plugged : Device → List ℕ
none_plugged d = filled (bytes "ACK: no block was plugged; plugged is # MiB now") (plugged_in d ∷ [])

-- the host's answer has ended an unplug, or an unplug-all
unfoldable pub discarded_text : Pending → Span → Device → List ℕ
discarded_text Nothing s d = done d
discarded_text (Create first last) s d = done d
discarded_text (Discard first count status) s d = unplugged s d
discarded_text (DiscardOne block status) s d = all_unplugged d

-- R10.16: all plugged, all unplugged, or mixed
abbrev pub are_plugged : Span → List ℕ
are_plugged s = filled (bytes "ACK: the # MiB at offset # MiB are plugged") (s.size ∷ s.offset ∷ [])

abbrev pub are_unplugged : Span → List ℕ
are_unplugged s = filled (bytes "ACK: the # MiB at offset # MiB are unplugged") (s.size ∷ s.offset ∷ [])

abbrev pub are_mixed : Span → List ℕ
are_mixed s = filled (bytes "ACK: the # MiB at offset # MiB are mixed: some blocks are plugged, some are not") (s.size ∷ s.offset ∷ [])

unfoldable pub state_text : BlockState → Span → List ℕ
state_text Plugged s = are_plugged s
state_text Unplugged s = are_unplugged s
state_text Mixed s = are_mixed s

-- an unplug and a size change have no ACK of their own
unfoldable pub ack_text : Op → BlockState → Pending → Span → Device → List ℕ
ack_text (Host ok addr) state p s d = discarded_text p s d
ack_text (Range Plug addr blocks) state p s d = plugged s d
ack_text (Range Unplug addr blocks) state p s d = done d
ack_text (Range State addr blocks) state p s d = state_text state s
ack_text UnplugAll state p s d = none_plugged d
ack_text (Size mib) state p s d = done d

-- ---- NACK (R10.3), with the record as it was

abbrev pub nack : Span → Device → List ℕ
nack s d = filled (bytes "NACK: plugged # MiB and # MiB more would pass the requested # MiB") (plugged_in d ∷ s.size ∷ in_mib d.config.requested_size ∷ [])

-- ---- ERROR, by its reason (R10.17), with the record as it was, and the blocks, which an ERROR leaves

-- 1: alignment
abbrev pub not_aligned : Span → Device → List ℕ
not_aligned s d = filled (bytes "ERROR: address # is no multiple of the block size, # MiB") (s.addr ∷ in_mib d.config.block_size ∷ [])

-- 2: zero blocks
abbrev pub no_blocks : List ℕ
no_blocks = filled (bytes "ERROR: the range has no blocks") []

-- 3: overflow
abbrev pub past_top : Span → List ℕ
past_top s = filled (bytes "ERROR: address # and # MiB more pass 2^64 - 1") (s.addr ∷ s.size ∷ [])

-- 4: below start
abbrev pub below_start : Span → Device → List ℕ
below_start s d = filled (bytes "ERROR: the range begins at address #, below the region's start #") (s.addr ∷ d.config.addr.0 ∷ [])

-- 5: at or past the usable end
abbrev pub past_usable : Span → Device → List ℕ
past_usable s d = filled (bytes "ERROR: the range begins at offset # MiB, and the usable size ends at # MiB") (s.offset ∷ in_mib d.config.usable_region_size ∷ [])

-- 6: end past the usable end
abbrev pub ends_past_usable : Span → Device → List ℕ
ends_past_usable s d = filled (bytes "ERROR: the range ends at offset # MiB, and the usable size at # MiB") (saturated (s.offset + s.size) ∷ in_mib d.config.usable_region_size ∷ [])

-- the range test
unfoldable pub outside_text : Reason → Span → Device → List ℕ
outside_text Alignment s d = not_aligned s d
outside_text ZeroBlocks s d = no_blocks
outside_text Overflow s d = past_top s
outside_text BelowStart s d = below_start s d
outside_text PastUsable s d = past_usable s d
outside_text why s d = ends_past_usable s d

-- how many MiB lie between two 2 GiB borders
abbrev pub border : ℕ
border = in_mib map_region

-- 7: wrong block state: the first block of the range that is in it
abbrev pub plugged_already : (n : ℕ) → List ℕ
plugged_already n = filled (bytes "ERROR: block # of the range is plugged already") (n ∷ [])

abbrev pub not_plugged : (n : ℕ) → List ℕ
not_plugged n = filled (bytes "ERROR: block # of the range is not plugged") (n ∷ [])

-- 8: crossed border
abbrev pub crosses : Span → List ℕ
crosses s = filled (bytes "ERROR: the range, # MiB at offset # MiB, crosses the border at offset # MiB") (s.size ∷ s.offset ∷ saturated (s.offset + (border - s.offset % border)) ∷ [])

-- 9: unmapped row
abbrev pub unmapped : Span → List ℕ
unmapped s = filled (bytes "ERROR: the host has nothing mapped at offset # MiB") (s.offset ∷ [])

-- 10: host sum
abbrev pub host_past_top : Span → List ℕ
host_past_top s = filled (bytes "ERROR: the host address of offset # MiB and # MiB more pass 2^64 - 1") (s.offset ∷ s.size ∷ [])

-- 11: failed discard
abbrev pub not_discarded : Span → Device → List ℕ
not_discarded s d = filled (bytes "ERROR: the host could not discard offset # MiB; plugged stays # MiB") (s.offset ∷ plugged_in d ∷ [])

-- the number of a block in its range: the first is block 1; and 0 of none
unfoldable pub number_in : Span → Option ℕ → ℕ
number_in s (Some i) = saturated (i - s.first + 1)
number_in s None = 0

-- one past the last block of a range
abbrev pub end_of : Span → ℕ
end_of s = saturated (s.first + s.blocks)

-- a plug wants its blocks unplugged, and any other line wants them plugged
unfoldable pub is_plug : Op → Bool
is_plug (Host ok addr) = false
is_plug (Range Plug addr blocks) = true
is_plug (Range Unplug addr blocks) = false
is_plug (Range State addr blocks) = false
is_plug UnplugAll = false
is_plug (Size mib) = false

-- R10.5
unfoldable pub wrong_text : (plug : Bool) → Span → List Bool → List ℕ
wrong_text plug s bs =
    cond plug (plugged_already (number_in s (next_set bs s.first (end_of s))))
    (not_plugged (number_in s (next_clear bs s.first (end_of s))))

unfoldable pub error_text : Reason → Op → Span → Device → List Bool → List ℕ
error_text WrongState op s d bs = wrong_text (is_plug op) s bs
error_text CrossesBorder op s d bs = crosses s
error_text Unmapped op s d bs = unmapped s
error_text SumPasses op s d bs = host_past_top s
error_text FailedDiscard op s d bs = not_discarded s d
error_text why op s d bs = outside_text why s d

-- ---- every response

unfoldable pub told_as : ResponseType → Reply → Op → (before after : Device) → List Bool → List ℕ
told_as Ack reply op before after bs = ack_text op (state_of reply.response.state) before.pending (op_span op before) after
told_as Nack reply op before after bs = nack (op_span op before) before
told_as Error reply op before after bs = error_text (reason_of reply.why) op (op_span op before) before bs

unfoldable pub reply_text : Reply → Op → (before after : Device) → List Bool → List ℕ
reply_text reply op before after bs = told_as (type_of reply.response.resp_type) reply op before after bs
