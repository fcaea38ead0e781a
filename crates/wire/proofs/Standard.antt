-- SPDX-License-Identifier: Apache-2.0 AND BSD-3-Clause
-- The layouts of the device are those of the clauses M3 and M8.
use Prim.Native.Nat.{ℕ, ◌<◌, ◌^◌}
use mathlib.Core.Path.{◌≡◌, refl}
use lib.ListN.{length, replicate}
use Rattle.wire.specs.declared.VirtioMemResp.{VirtioMemResp}
use Rattle.wire.specs.declared.VirtioMemConfig.{VirtioMemConfig}
use Rattle.little_endian.specs.Bytes.{little_endian, part, put}
use Rattle.wire.specs.Layout.{request_at, response_bytes, config_fields, config_values, fields_laid, config_bytes}
use Rattle.wire.specs.Standard.{virtio_mem_req, virtio_mem_resp, virtio_mem_config}
use Rattle.little_endian.proofs.Laws.{value_fits}

-- a request as a driver writes it, its padding being anything, is read as its type, address and blocks
pub request : (type p₀ p₁ p₂ addr blocks q₀ q₁ q₂ : ℕ) → type < 256 ^ 2 → addr < 256 ^ 8 → blocks < 256 ^ 2
    → request_at (virtio_mem_req type p₀ p₁ p₂ addr blocks q₀ q₁ q₂) 0
    ≡ record { req_type = type; addr = record { 0 = addr }; nb_blocks = blocks }
unfolding request_at virtio_mem_req part little_endian
request type p₀ p₁ p₂ addr blocks q₀ q₁ q₂ t a b =
    let e = value_fits 2 type t in
    let f = value_fits 8 addr a in
    let g = value_fits 2 blocks b in
    cc

pub request_size : (type p₀ p₁ p₂ addr blocks q₀ q₁ q₂ : ℕ) → length (virtio_mem_req type p₀ p₁ p₂ addr blocks q₀ q₁ q₂) ≡ 24
unfolding virtio_mem_req little_endian
request_size type p₀ p₁ p₂ addr blocks q₀ q₁ q₂ = refl

-- the response, its padding zero
pub response : (r : VirtioMemResp) → response_bytes r ≡ virtio_mem_resp r.resp_type 0 0 0 r.state
unfolding response_bytes virtio_mem_resp little_endian
response r = refl

-- the config, its padding zero
pub config : (c : VirtioMemConfig)
    → config_bytes c
    ≡ virtio_mem_config c.block_size c.node_id (replicate 6 0) c.addr.0 c.region_size
    c.usable_region_size c.plugged_size c.requested_size
unfolding config_bytes fields_laid put little_endian config_fields config_values virtio_mem_config
config c = refl
