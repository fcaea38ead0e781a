-- SPDX-License-Identifier: Apache-2.0 AND BSD-3-Clause
-- `trace_run::apply` meets its contract: each op is one call, and its promise is the call's.
use mathlib.Core.Path.{refl}
use Rattle.trace_run.specs.Ops.{op_call, bytes_after}
use Rattle.trace_run.proofs.apply.Goals as goal

pub returns-in-Host : goal.returns-in-Host
unfolding op_call bytes_after
returns-in-Host c =
    let m = c.host_answer.ensures in
    rw c.in-Host.is
    m

pub returns-in-Range : goal.returns-in-Range
unfolding op_call bytes_after
returns-in-Range c =
    let m = c.guest_asks.ensures in
    rw (c.in-Range.is, ← c.type_of.ensures)
    m

pub returns-in-UnplugAll : goal.returns-in-UnplugAll
unfolding op_call bytes_after
returns-in-UnplugAll c =
    let m = c.guest_asks-in-UnplugAll.ensures in
    rw c.in-UnplugAll.is
    m

pub returns-in-Size : goal.returns-in-Size
unfolding op_call bytes_after
returns-in-Size c =
    let m = c.set_requested_size.ensures in
    rw c.in-Size.is
    (record { answered = m.answered; told = m.told; recorded = m.recorded; leaves = record { marked = m.leaves.marked; mapped = m.leaves.mapped; left = refl } })
