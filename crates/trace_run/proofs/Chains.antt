-- SPDX-License-Identifier: Apache-2.0 AND BSD-3-Clause
-- The chain that a trace's op lays is good: in guest memory of 106 bytes or more every op is answered by a line.
use Rattle.std.specs.Prelude.{Option, Some, None, Result, Ok, Err, ⊤}
use Prim.Native.Nat.{ℕ, ◌+◌, ◌*◌, ◌/◌, ◌^◌, ◌≤◌, ◌<◌}
use mathlib.Core.Path.{◌≡◌, refl, ap, ◌∙◌}
use mathlib.Core.Bool.{Bool, true, false, cond, not}
use mathlib.Core.List.{List, ◌++◌}
use native.Mathlib.Omega.{arith}
use borrow.Author.Tests.{le-leb}
use lib.Dec.{ltb}
use lib.ListN.{length}
use Rattle.units.specs.Numbers.{top, bytes_of}
use Rattle.wire.specs.declared.VirtioMemReq.{VirtioMemReq}
use Rattle.little_endian.specs.Bytes.{put, part, little_endian}
use Rattle.wire.specs.Layout.{request_at}
use Rattle.wire.specs.Standard.{virtio_mem_req}
use Rattle.little_endian.proofs.Laws.{length-put, part-put, part-put_inside, part-put_before}
use Rattle.wire.proofs.Laws.{request_part}
use Rattle.wire.proofs.Standard.{request as request-laid}
use Rattle.descriptors.specs.declared.Descriptor.{Descriptor}
use Rattle.descriptors.specs.Standard.{virtq_desc, descriptor_addr}
use Rattle.descriptors.specs.Descriptors.{inside, link_at, link_after}
use Rattle.chain.specs.Chain.{asked as got, with_second, with_first, parsed}
use Rattle.descriptors.proofs.Standard.{descriptor_laid}
use Rattle.record.specs.Shape.{size_ok}
use Rattle.record.specs.declared.Pending.{Pending}
use Rattle.record.specs.declared.Pending.TheVariants.{Nothing, Create, Discard, DiscardOne}
use Rattle.resize.specs.declared.Creation.{Creation}
use Rattle.change.specs.declared.Change.{Change}
use Rattle.change.specs.declared.Reason.{Reason}
use Rattle.refusal.specs.declared.Refusal.{Refusal}
use Rattle.step.specs.declared.Answer.{Answer}
use Rattle.step.specs.declared.Answer.TheVariants.{Refused, Wants, Sized, Unserved, Served, Done}
use Rattle.step.specs.World.{World, Guest, Outcome, Request}
use Rattle.step.specs.Step.{block_size, region, requested, plugged, covered_by, unless, plug, plug_as, unplug_as, one_as, next_as, serve, request, resizes, set_requested_size, host_answer, step}
use Rattle.trace_text.specs.declared.Op.{Op}
use Rattle.trace_text.specs.declared.Op.TheVariants.{Host, Range, UnplugAll, Size}
use Rattle.trace_text.specs.declared.RangeOp.TheVariants.{Plug, Unplug, State}
use Rattle.trace_text.specs.Lines.{OpInRange}
use Rattle.trace_run.specs.Ops.{chained, laid, asked, op_call}

-- ---- the bytes

-- the two descriptors, and the request, as the standard lays them out
abbrev descriptors : List ℕ
descriptors = virtq_desc 64 24 1 1 ++ virtq_desc 96 10 2 0

abbrev laid_request : (type addr blocks : ℕ) → List ℕ
laid_request type addr blocks =
    virtio_mem_req type (type / 256 / 256) (type / 256 / 256 / 256 / 256) (type / 256 / 256 / 256 / 256 / 256 / 256) addr blocks
    (blocks / 256 / 256) (blocks / 256 / 256 / 256 / 256) (blocks / 256 / 256 / 256 / 256 / 256 / 256)

abbrev request_of : (type addr blocks : ℕ) → VirtioMemReq
request_of type addr blocks = record { req_type = type; addr = record { 0 = addr }; nb_blocks = blocks }

abbrev first : Descriptor
first = record { addr = record { 0 = 64 }; len = 24; flags = 1; next = 1 }

abbrev second : Descriptor
second = record { addr = record { 0 = 96 }; len = 10; flags = 2; next = 0 }

is_inside : (len addr n : ℕ) → addr + n ≤ len → addr + n ≤ 2 ^ 64 → inside len 0 addr n ≡ true
unfolding inside
is_inside len addr n h k = simp (le-leb 0 addr (omega arith), le-leb (addr + n) (0 + len) (omega arith), le-leb (addr + n) (2 ^ 64) k)

module _ (mem : List ℕ) (type addr blocks : ℕ) (room : 106 ≤ length mem) where
  abbrev in_memory : List ℕ
  in_memory = asked mem type addr blocks

  laid_puts : in_memory ≡ put (put mem 0 descriptors) 64 (laid_request type addr blocks)
  unfolding asked chained laid put little_endian virtq_desc virtio_mem_req
  laid_puts = refl

  laid_length : length in_memory ≡ length mem
  laid_length = rw (laid_puts, length-put, length-put)

  first_part : part in_memory 0 16 ≡ virtq_desc 64 24 1 1
  unfolding little_endian virtq_desc part
  first_part =
      rw laid_puts
      (part-put_before (put mem 0 descriptors) 64 (laid_request type addr blocks) 0 16 (omega arith)
      ∙ part-put_inside mem 0 descriptors 0 16 (omega arith) (omega arith))

  second_part : part in_memory 16 16 ≡ virtq_desc 96 10 2 0
  unfolding little_endian virtq_desc part
  second_part =
      rw laid_puts
      (part-put_before (put mem 0 descriptors) 64 (laid_request type addr blocks) 16 16 (omega arith)
      ∙ part-put_inside mem 0 descriptors 16 16 (omega arith) (omega arith))

  request_bytes_lem : part in_memory 64 24 ≡ laid_request type addr blocks
  unfolding little_endian virtio_mem_req
  request_bytes_lem =
      let l = length-put mem 0 descriptors in
      rw laid_puts (part-put (put mem 0 descriptors) 64 (laid_request type addr blocks) (omega arith))

  first_link : link_at in_memory 0 0 0 ≡ Some first
  unfolding link_at descriptor_addr
  first_link =
      let l = laid_length in
      rw (is_inside (length in_memory) 0 16 (omega arith) (omega arith))
      (ap Some (descriptor_laid in_memory 0 first (record { addr = omega arith; len = omega arith; flags = omega arith; next = omega arith }) first_part))

  second_link_lem : link_at in_memory 0 0 1 ≡ Some second
  unfolding link_at descriptor_addr
  second_link_lem =
      let l = laid_length in
      rw (is_inside (length in_memory) 16 16 (omega arith) (omega arith))
      (ap Some (descriptor_laid in_memory 16 second (record { addr = omega arith; len = omega arith; flags = omega arith; next = omega arith }) second_part))

  -- the device reads the request that the op stands for, and answers it at guest address 96
  pub chain_good : type < 256 ^ 2 → addr < 256 ^ 8 → blocks < 256 ^ 2 → parsed in_memory 0 0 0 ≡ got (request_of type addr blocks) (record { 0 = 96 })
  unfolding parsed with_first link_after with_second
  chain_good t a b =
      let l = laid_length in
      let r = request_part in_memory 64 ∙ ap (λ (bytes : List ℕ). request_at bytes 0) request_bytes_lem
      ∙ request-laid type _ _ _ addr blocks _ _ _ t a b in
      rw (first_link, is_inside (length in_memory) 64 24 (omega arith) (omega arith), second_link_lem, r)

-- ---- the answers

-- whether an answer has a line
abbrev pub has_line : Answer → Bool
has_line (Refused number) = true
has_line (Wants call) = true
has_line Sized = true
has_line (Unserved reason) = false
has_line (Served reply) = true
has_line Done = false

-- an outcome whose answer has a line
pub record Told (o : Outcome) : Type 0 where
  pub line : has_line o.answer ≡ true

either : (t : Bool) (o o₂ : Outcome) → Told o → Told o₂ → Told (cond t o o₂)
either true o o₂ p q = p
either false o o₂ p q = q

unless_told : (r : Result ⊤ Refusal) (w : World) (bytes : List ℕ) (o : Outcome) → Told o → Told (unless r w bytes o)
unfolding unless
unless_told (Ok admitted) w bytes o p = p
unless_told (Err refusal) w bytes o p = record { line = refl }

module _ (w : World) where
  plug_told : (c : Result Change Reason) (count status : ℕ) (g : Guest) → Told (plug_as c w count status g)
  unfolding plug_as
  plug_told (Ok change) count status g = record { line = refl }
  plug_told (Err why) count status g = record { line = refl }

  unplug_told : (c : Result Change Reason) (count status : ℕ) (g : Guest) → Told (unplug_as c w count status g)
  unfolding unplug_as
  unplug_told (Ok change) count status g = either (ltb (plugged w) (bytes_of (block_size w) count)) _ _ (record { line = refl }) (record { line = refl })
  unplug_told (Err why) count status g = record { line = refl }

  one_told : (c : Result Change Reason) (block status : ℕ) (g : Guest) → Told (one_as c w block status g)
  unfolding one_as
  one_told (Ok change) block status g = record { line = refl }
  one_told (Err why) block status g = record { line = refl }

  next_told : (f : Option ℕ) (status : ℕ) (g : Guest) → Told (next_as f w status g)
  unfolding next_as
  next_told None status g = record { line = refl }
  next_told (Some block) status g = one_told _ block status g

  resize_told : (c : Option Creation) → Told (resizes c w)
  unfolding resizes
  resize_told None = record { line = refl }
  resize_told (Some made) = record { line = refl }

host_told : (p : Pending) (w : World) (g : Guest) (ok : Bool) (host : ℕ) → Told (host_answer p w g ok host)
unfolding host_answer
host_told Nothing w g ok host = record { line = refl }
host_told (Create i last) w g ok host = either ok _ _ (either (ltb top (host + covered_by w i last)) _ _ (record { line = refl }) (record { line = refl })) (record { line = refl })
host_told (Discard at count status) w g ok host = either ok _ _ (record { line = refl }) (record { line = refl })
host_told (DiscardOne block status) w g ok host = either ok _ _ (next_told _ _ _ _) (record { line = refl })

module _ (w : World) (mem : List ℕ) (room : 106 ≤ length mem) where
  request_told : (type addr blocks : ℕ) → type < 256 ^ 2 → addr < 256 ^ 8 → blocks < 256 ^ 2
      → ((g : Guest) → Told (serve w (request_of type addr blocks) 96 g)) → Told (step w (Request (record { mem = asked mem type addr blocks; base = 0 }) 0 0))
  unfolding step request
  request_told type addr blocks t a b f =
      unless_told _ _ _ _ (rw (chain_good mem type addr blocks room t a b) (f _))

  -- no op of a trace is left without an answer, or with one that has no line
  pub op_told : (op : Op) → OpInRange op → Told (step w (op_call op mem))
  unfolding op_call step serve plug set_requested_size
  op_told (Host ok addr) h = unless_told _ _ _ _ (host_told _ w _ ok addr.0)
  op_told (Range Plug addr blocks) h = request_told 0 addr.0 blocks (omega arith) (omega arith) (omega arith) (λ g. either (ltb (requested w) (plugged w + bytes_of (block_size w) blocks)) _ _ (record { line = refl }) (plug_told w _ _ _ g))
  op_told (Range Unplug addr blocks) h = request_told 1 addr.0 blocks (omega arith) (omega arith) (omega arith) (λ g. unplug_told w _ _ _ g)
  op_told (Range State addr blocks) h = request_told 3 addr.0 blocks (omega arith) (omega arith) (omega arith) (λ g. record { line = refl })
  op_told UnplugAll h = request_told 2 0 0 (omega arith) (omega arith) (omega arith) (λ g. next_told w _ _ g)
  op_told (Size mib) h = unless_told _ _ _ _ (either (not (size_ok (block_size w) (mib * 1048576) (region w))) _ _ (record { line = refl }) (resize_told _ _))
