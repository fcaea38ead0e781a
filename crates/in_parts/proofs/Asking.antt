-- SPDX-License-Identifier: Apache-2.0 AND BSD-3-Clause
-- What a call can ask for: any number of blocks up to 65,535.
use Prim.Native.Nat.{ℕ, ◌+◌, ◌^◌, ◌≤◌, ◌<◌}
use mathlib.Core.Path.{◌≡◌, refl, ap, ◌∙◌}
use mathlib.Core.List.{◌++◌}
use native.Mathlib.Omega.{arith}
use lib.ListN.{replicate}
use Rattle.little_endian.specs.Bytes.{value, little_endian, part}
use Rattle.little_endian.proofs.Laws.{value_fits, value_below}
use Rattle.wire.specs.declared.VirtioMemReq.{VirtioMemReq}
use Rattle.wire.specs.Standard.{virtio_mem_req}
use Rattle.wire.specs.Layout.{request_at}
use Rattle.descriptors.specs.Standard.{virtq_desc, descriptor_at, descriptor_addr}
use Rattle.descriptors.specs.Descriptors.{inside, link_at, link_after}
use Rattle.chain.specs.declared.Asked.{Asked}
use Rattle.chain.specs.Chain.{asked, with_second, with_first, parsed}
use Rattle.chain.proofs.Laws.{parsed_cases}
use Rattle.step.specs.World.{Guest, Request}
use Rattle.in_parts.specs.InParts.{plug_request, AnyUpTo65535, NoneAbove65535}

-- two descriptors from address 0 on, the request at 32, and 10 bytes for the response at 56
unfoldable pub asking : (addr count : ℕ) → Guest
asking addr count =
    record { mem = virtq_desc 32 24 1 1 ++ virtq_desc 56 10 2 0 ++ virtio_mem_req 0 0 0 0 addr count 0 0 0 ++ replicate 10 0; base = 0 }

read_back : (addr count : ℕ) → addr < 256 ^ 8 → count < 256 ^ 2 → plug_request (value (little_endian 8 addr)) (value (little_endian 2 count)) ≡ plug_request addr count
read_back addr count a c = rw (value_fits 8 addr a, value_fits 2 count c)

pub any_up_to_65535 : AnyUpTo65535
unfolding asking virtq_desc virtio_mem_req little_endian part value descriptor_at descriptor_addr inside link_at link_after with_second with_first parsed request_at
any_up_to_65535 addr count a c =
    let g = asking addr count in
    let read : parsed g.mem g.base 0 0 ≡ asked (plug_request (value (little_endian 8 addr)) (value (little_endian 2 count))) (record { 0 = 56 }) = refl in
    record {
      call = Request g 0 0;
      asks = record {
        guest = g;
        descriptors = 0;
        head = 0;
        status = record { 0 = 56 };
        is_request = refl;
        reads = read ∙ ap (λ (req : VirtioMemReq). asked req (record { 0 = 56 })) (read_back addr count (omega arith) (omega arith));
      };
    }

-- the blocks of a request that stands somewhere in bytes
pub none_above_65535 : NoneAbove65535
unfolding request_at
none_above_65535 c addr count a bytes =
    parsed_cases (λ p. p ≡ asked (plug_request addr count) a.status → count ≤ 65535)
    (λ reason _ _ e. let z : ◌≡◌ {A = ℕ} 0 1 = cc in absurd (omega arith))
    a.guest.mem a.guest.base a.descriptors a.head
    (λ at status e.
    let same : record { request = request_at a.guest.mem at; status = status } ≡ record { request = plug_request addr count; status = a.status } = cc e in
    let blocks : value (part a.guest.mem (at + 16) 2) ≡ count = ap (λ (found : Asked). found.request.nb_blocks) same in
    omega (arith, value_below a.guest.mem bytes (at + 16) 2))
    a.reads
