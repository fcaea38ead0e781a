-- SPDX-License-Identifier: Apache-2.0 AND BSD-3-Clause
-- What a call may change of the record: a request the plugged size and the pending call; a host's answer those, the usable size and whether the device is placed.
use Rattle.std.specs.Prelude.{Option, Some, None, Ok, Err, Result, ⊤}
use Prim.Native.Nat.{ℕ, ◌+◌}
use mathlib.Core.Path.{◌≡◌, refl, ap}
use mathlib.Core.Bool.{Bool, true, false, cond}
use mathlib.Core.List.{List}
use lib.Dec.{ltb, eqb}
use Rattle.refusal.specs.declared.Refusal.{Refusal}
use lib.ListN.{length}
use Rattle.units.specs.Numbers.{top, bytes_of}
use Rattle.wire.specs.declared.VirtioMemReq.{VirtioMemReq}
use Rattle.chain.specs.declared.Asked.{Asked}
use Rattle.chain.specs.declared.NoRequest.{NoRequest}
use Rattle.chain.specs.Chain.{parsed}
use Rattle.change.specs.declared.Change.{Change}
use Rattle.change.specs.declared.Reason.{Reason}
use Rattle.record.specs.declared.Device.{Device}
use Rattle.record.specs.declared.Pending.{Pending}
use Rattle.record.specs.declared.Pending.TheVariants.{Nothing, Create, Discard, DiscardOne}
use Rattle.record.specs.Changes.{pending_to, placed_to, plugged_to, usable_to}
use Rattle.step.specs.World.{World, Guest, Request, HostAnswer, Outcome}
use Rattle.step.specs.Step.{block_size, plugged, requested, covered_by, ready_refusal, pending_refusal, step, unless, plug_as, plug, unplug_as, one_as, next_as, serve, request, host_answer}

-- the record without its plugged size and its pending call
abbrev request_kept : Device → Device
request_kept d = pending_to Nothing (plugged_to 0 d)

-- and without its usable size and whether it is placed
abbrev answer_kept : Device → Device
answer_kept d = placed_to false (usable_to 0 (request_kept d))

-- an outcome leaves what a function keeps of the record
record Keeps (f : Device → Device) (before : World) (o : Outcome) : Type 0 where
  same : f o.world.device ≡ f before.device

either : (f : Device → Device) (before : World) (t : Bool) (x y : Outcome) → Keeps f before x → Keeps f before y → Keeps f before (cond t x y)
either f before true x y p q = p
either f before false x y p q = q

-- a call that is refused keeps all of it
unless_keeps : (f : Device → Device) (w : World) (x : Result ⊤ Refusal) (bytes : List ℕ) (o : Outcome) → Keeps f w o → Keeps f w (unless x w bytes o)
unfolding unless
unless_keeps f w (Ok admitted) bytes o k = k
unless_keeps f w (Err refusal) bytes o k = record { same = refl }

module _ (g : Guest) (before w : World) (h : request_kept w.device ≡ request_kept before.device) where
  plug_keeps : (ch : Result Change Reason) (count status : ℕ) → Keeps request_kept before (plug_as ch w count status g)
  unfolding plug_as
  plug_keeps (Ok change) count status = record { same = h }
  plug_keeps (Err why) count status = record { same = h }

  unplug_keeps : (ch : Result Change Reason) (count status : ℕ) → Keeps request_kept before (unplug_as ch w count status g)
  unfolding unplug_as
  unplug_keeps (Ok change) count status =
      either request_kept before (ltb (plugged w) (bytes_of (block_size w) count)) _ _ (record { same = h }) (record { same = h })
  unplug_keeps (Err why) count status = record { same = h }

  one_keeps : (ch : Result Change Reason) (block status : ℕ) → Keeps request_kept before (one_as ch w block status g)
  unfolding one_as
  one_keeps (Ok change) block status = record { same = h }
  one_keeps (Err why) block status = record { same = h }

  next_keeps : (f : Option ℕ) (status : ℕ) → Keeps request_kept before (next_as f w status g)
  unfolding next_as
  next_keeps None status = record { same = h }
  next_keeps (Some block) status = one_keeps _ block status

  serve_keeps : (req : VirtioMemReq) (status : ℕ) → Keeps request_kept before (serve w req status g)
  unfolding serve plug
  serve_keeps req status =
      let type = req.req_type in
      let count = req.nb_blocks in
      either request_kept before (eqb type 0) _ _
      (either request_kept before (ltb (requested w) (plugged w + bytes_of (block_size w) count)) _ _ (record { same = h }) (plug_keeps _ count status))
      (either request_kept before (eqb type 1) _ _ (unplug_keeps _ count status)
      (either request_kept before (eqb type 2) _ _ (next_keeps _ status)
      (either request_kept before (eqb type 3) _ _ (record { same = h }) (record { same = h }))))

  request_keeps : (p : Result Asked NoRequest) → Keeps request_kept before (request p w g)
  unfolding request
  request_keeps (Err reason) = record { same = h }
  request_keeps (Ok asked) = serve_keeps asked.request asked.status.0

-- what a request keeps, an answer keeps
weaker : (before : World) (o : Outcome) → Keeps request_kept before o → Keeps answer_kept before o
weaker before o k = record { same = ap (λ (d : Device). placed_to false (usable_to 0 d)) k.same }

answer_keeps : (before : World) (g : Guest) (p : Pending) (ok : Bool) (host : ℕ) → Keeps answer_kept before (host_answer p before g ok host)
unfolding host_answer
answer_keeps before g Nothing ok host = record { same = refl }
answer_keeps before g (Create i last) ok host =
    either answer_kept before ok _ _
    (either answer_kept before (ltb top (host + covered_by before i last)) _ _ (record { same = refl }) (record { same = refl }))
    (record { same = refl })
answer_keeps before g (Discard first count status) ok host =
    either answer_kept before ok _ _ (record { same = refl }) (record { same = refl })
answer_keeps before g (DiscardOne block status) ok host =
    either answer_kept before ok _ _ (weaker before _ (next_keeps g before _ refl _ status.0)) (record { same = refl })

-- a request changes the plugged size and the pending call at most
pub request_changes : (w : World) (g : Guest) (table head : ℕ) → let d = (step w (Request g table head)).world.device in
    d ≡ pending_to d.pending (plugged_to d.config.plugged_size w.device)
unfolding step
request_changes w g table head =
    let d = (step w (Request g table head)).world.device in
    let k = unless_keeps request_kept w (ready_refusal w.device (length w.blocks) (length w.rows)) g.mem _
    (request_keeps g w w refl (parsed g.mem g.base table head)) in
    ap (λ (e : Device). pending_to d.pending (plugged_to d.config.plugged_size e)) k.same

-- a host's answer the usable size and whether the device is placed too
pub answer_changes : (w : World) (g : Guest) (ok : Bool) (host : ℕ) → let d = (step w (HostAnswer g ok host)).world.device in
    d ≡ pending_to d.pending (placed_to d.placed (plugged_to d.config.plugged_size (usable_to d.config.usable_region_size w.device)))
unfolding step
answer_changes w g ok host =
    let d = (step w (HostAnswer g ok host)).world.device in
    let k = unless_keeps answer_kept w (pending_refusal w.device (length w.blocks) (length w.rows)) g.mem _
    (answer_keeps w g w.device.pending ok host) in
    ap (λ (e : Device). pending_to d.pending (placed_to d.placed (plugged_to d.config.plugged_size (usable_to d.config.usable_region_size e)))) k.same
