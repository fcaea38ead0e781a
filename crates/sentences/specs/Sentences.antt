-- SPDX-License-Identifier: Apache-2.0 AND BSD-3-Clause
-- Which sentence comes for which answer to a line (R12.13). Those of refusals and responses are in crates of their own.
use Rattle.std.specs.Prelude.{ℕ, Bool, List, [], ◌∷◌, Option, Some, None}
use Rattle.units.specs.declared.GuestAddr.{GuestAddr}
use Rattle.units.specs.declared.RegionOffset.{RegionOffset}
use Rattle.text.specs.Words.{bytes}
use Rattle.forms.specs.Forms.{filled}
use Rattle.record.specs.declared.Device.{Device}
use Rattle.record.specs.declared.HostCall.{HostCall}
use Rattle.record.specs.declared.HostCall.TheVariants.{Create, Discard}
use Rattle.step.specs.declared.Reply.{Reply}
use Rattle.step.specs.declared.Answer.{Answer}
use Rattle.step.specs.declared.Answer.TheVariants.{Refused, Wants, Sized, Unserved, Served, Done}
use Rattle.trace_text.specs.declared.Line.{Line}
use Rattle.trace_text.specs.declared.Line.TheVariants.{First, Later}
use Rattle.spans.specs.Spans.{in_mib}
use Rattle.refusals.specs.Refusals.{refused_text}
use Rattle.responses.specs.Responses.{reply_text}

-- R11.2
abbrev pub asks_create : GuestAddr → (size : ℕ) → (slot : ℕ) → List ℕ
asks_create guest size slot = filled (bytes "asks the host to create # MiB at guest address #, in slot #") (in_mib size ∷ guest.0 ∷ slot ∷ [])

abbrev pub asks_discard : RegionOffset → (size : ℕ) → List ℕ
asks_discard offset size = filled (bytes "asks the host to discard # MiB at offset # MiB") (in_mib size ∷ in_mib offset.0 ∷ [])

unfoldable pub wants_text : HostCall → List ℕ
wants_text (Create guest size slot) = asks_create guest size slot
wants_text (Discard offset size host) = asks_discard offset size

-- R6.8
abbrev pub sized : Device → List ℕ
sized d = filled (bytes "done: requested is # MiB now, usable # MiB") (in_mib d.config.requested_size ∷ in_mib d.config.usable_region_size ∷ [])

-- R9.7, R9.8
abbrev pub unserved : (reason : ℕ) → List ℕ
unserved reason = filled (bytes "no request (#): the chain is none, or its type is unknown") (reason ∷ [])

-- R12.8: nothing comes of a line after the end
abbrev pub ended : List ℕ
ended = filled (bytes "nothing: the run has ended") []

-- only a later line is a request, and has a response
unfoldable pub served_text : Reply → Option Line → (before after : Device) → List Bool → List ℕ
served_text reply (Some (First f)) before after bs = ended
served_text reply (Some (Later op)) before after bs = reply_text reply op before after bs
served_text reply None before after bs = ended

-- the sentence of an answer to a line, with the record before and after it, and the blocks as they are after it
unfoldable pub sentence : Option Line → (before after : Device) → List Bool → Answer → List ℕ
sentence line before after bs (Refused number) = refused_text number line before after
sentence line before after bs (Wants call) = wants_text call
sentence line before after bs Sized = sized after
sentence line before after bs (Unserved reason) = unserved reason
sentence line before after bs (Served reply) = served_text reply line before after bs
sentence line before after bs Done = ended
