-- SPDX-License-Identifier: Apache-2.0 AND BSD-3-Clause
-- The guest's side of the bytes (R14.1 to R14.3): what it writes, and that it reads a value exactly if the bytes are that value's text.
use Rattle.std.specs.Prelude.{ℕ, ◌≤◌, ◌<◌, ◌^◌, ◌≡◌, List, length, take, Result, Ok, Err}
use Rattle.refusal.specs.declared.Refusal.{Refusal}
use Rattle.refusal.specs.declared.Refusal.TheVariants.{BadBytes}
use Rattle.wire.specs.declared.VirtioMemReq.{VirtioMemReq}
use Rattle.wire.specs.declared.VirtioMemResp.{VirtioMemResp}
use Rattle.wire.specs.declared.VirtioMemConfig.{VirtioMemConfig}
use Rattle.little_endian.specs.Bytes.{put}
use Rattle.wire.specs.Layout.{response_bytes, config_bytes}
use Rattle.wire.specs.Standard.{virtio_mem_req}

-- R14.1: the 24 bytes of a request as the standard lays them out, its padding zero
abbrev pub request_bytes : VirtioMemReq → List ℕ
request_bytes q = virtio_mem_req q.req_type 0 0 0 q.addr.0 q.nb_blocks 0 0 0

-- R14.1: r is 0 and the first 24 bytes are the request's, or r is 16 (R1.16) and nothing was written
pub record Wrote (q : VirtioMemReq) (entry exit : List ℕ) (r : ℕ) : Type 0 where
  pub whole : 24 ≤ length entry → (r ≡ 0) × (exit ≡ put entry 0 (request_bytes q))
  pub short : length entry < 24 → (r ≡ 16) × (exit ≡ entry)

-- R14.2: the first 10 bytes are the text of v, whose type and state are known ones
pub record ResponseText (xs : List ℕ) (v : VirtioMemResp) : Type 0 where
  pub text : take 10 xs ≡ response_bytes v
  pub type_known : v.resp_type ≤ 3
  pub state_known : v.state ≤ 2

-- v is given exactly if the bytes are its text; otherwise 16 (R1.16)
pub record Reads {V : Type 0} (IsText : V → Type 0) (r : Result V Refusal) : Type 0 where
  pub read : (v : V) → r ≡ Ok v → IsText v
  pub only : (v : V) → IsText v → r ≡ Ok v
  pub refused : (why : Refusal) → r ≡ Err why → why ≡ BadBytes

abbrev pub ReadsResponse : List ℕ → Result VirtioMemResp Refusal → Type 0
ReadsResponse xs r = Reads (ResponseText xs) r

-- the fields of a config fit their places: what the types u64 and u16 say
pub record ConfigFits (c : VirtioMemConfig) : Type 0 where
  pub block : c.block_size < 256 ^ 8
  pub node : c.node_id < 256 ^ 2
  pub start : c.addr.0 < 256 ^ 8
  pub region : c.region_size < 256 ^ 8
  pub usable : c.usable_region_size < 256 ^ 8
  pub plugged : c.plugged_size < 256 ^ 8
  pub requested : c.requested_size < 256 ^ 8

-- R14.3: the first 56 bytes are the text of c
pub record ConfigText (xs : List ℕ) (c : VirtioMemConfig) : Type 0 where
  pub text : take 56 xs ≡ config_bytes c
  pub fits : ConfigFits c

abbrev pub ReadsConfig : List ℕ → Result VirtioMemConfig Refusal → Type 0
ReadsConfig xs r = Reads (ConfigText xs) r
