-- SPDX-License-Identifier: Apache-2.0 AND BSD-3-Clause
-- `trace_run::guest_asks` meets its contract: the memory that the device reads is the one that was laid.
use mathlib.Core.Path.{◌≡◌, refl}
use denote.Enum.Declared.{tag_of}
use Rattle.wire.specs.contracts.RequestType.{the_type}
use Rattle.wire.specs.declared.RequestType.{RequestType}
use Rattle.wire.specs.declared.RequestType.TheVariants.{Plug, Unplug, UnplugAll, State}
use Rattle.wire.specs.Types.{type_number}
use Rattle.step.specs.Promise.{lent}
use Rattle.step.proofs.Giving.{relent}
use Rattle.trace_run.specs.Ops.{asked}
use Rattle.trace_run.proofs.guest_asks.Goals as goal

-- a type's number is its place among the variants
numbered : (t : RequestType) → tag_of the_type t ≡ type_number t
numbered Plug = refl
numbered Unplug = refl
numbered UnplugAll = refl
numbered State = refl

pub returns : goal.returns
returns c =
    let a = c.args in
    let laid = rw numbered at c.ask.ensures in
    relent {l = lent a.bitmap.now a.table.now (asked a.mem.now (type_number a.req_type) a.addr.0 a.nb_blocks)} refl (rw (← laid) c.request.ensures)
