-- SPDX-License-Identifier: Apache-2.0 AND BSD-3-Clause
-- Guest memory that holds a request in the bytes of the standard's structs: what a driver lays there and reads back.
use Rattle.std.specs.Prelude.{ℕ, ◌+◌, ◌-◌, ◌≤◌, ◌<◌, ◌^◌, ◌≡◌, Bool, true, List, ◌⊎◌, length, take, Result, Ok}
use Rattle.units.specs.declared.GuestAddr.{GuestAddr}
use Rattle.little_endian.specs.Bytes.{part, put}
use Rattle.wire.specs.declared.VirtioMemReq.{VirtioMemReq}
use Rattle.wire.specs.declared.VirtioMemResp.{VirtioMemResp}
use Rattle.descriptors.specs.Standard.{virtq_desc, descriptor_addr}
use Rattle.descriptors.specs.Descriptors.{inside}
use Rattle.chain.specs.Chain.{asked, parsed}
use Rattle.record.specs.declared.Pending.TheVariants.{Discard, DiscardOne}
use Rattle.refusal.specs.declared.Refusal.{Refusal}
use Rattle.driver.specs.Text.{request_bytes, ReadsResponse}
use Rattle.step.specs.declared.Reply.{Reply}
use Rattle.step.specs.World.{World, Guest, Call, Request, HostAnswer}

-- the n bytes at a guest address lie inside guest memory, and are these
pub record BytesAt (g : Guest) (addr n : ℕ) (bytes : List ℕ) : Type 0 where
  pub lies : inside (length g.mem) g.base addr n ≡ true
  pub are : part g.mem (addr - g.base) n ≡ bytes

-- le16, le64 and le16 hold the fields: what the types u16 and u64 say
pub record RequestFits (q : VirtioMemReq) : Type 0 where
  pub type_fits : q.req_type < 256 ^ 2
  pub addr_fits : q.addr.0 < 256 ^ 8
  pub blocks_fit : q.nb_blocks < 256 ^ 2

-- guest memory holds the request q as a chain of two descriptors, the first at index `head` of the descriptors:
-- one of 24 bytes with NEXT (1), which are those of q, and one of 10 bytes or more with WRITE (2), for the response
pub record HoldsRequest (g : Guest) (descriptors head : ℕ) (q : VirtioMemReq) (status : GuestAddr) : Type 0 where
  -- where q stands, the second descriptor's index, and the length and next index that this one gives
  pub request_addr : ℕ
  pub second_index : ℕ
  pub second_len : ℕ
  pub second_next : ℕ
  pub head_in_table : head < 128
  pub second_in_table : second_index < 128
  pub len_enough : 10 ≤ second_len
  pub len_fits : second_len < 256 ^ 4
  pub next_fits : second_next < 256 ^ 2
  pub status_fits : status.0 < 256 ^ 8
  pub request_fits : RequestFits q
  pub first : BytesAt g (descriptor_addr descriptors head) 16 (virtq_desc request_addr 24 1 second_index)
  pub second : BytesAt g (descriptor_addr descriptors second_index) 16 (virtq_desc status.0 second_len 2 second_next)
  pub request : BytesAt g request_addr 24 (request_bytes q)

-- the request that asks for a plug
abbrev pub plug_of : GuestAddr → (count : ℕ) → VirtioMemReq
plug_of addr count = record { req_type = 0; addr = addr; nb_blocks = count }

-- where a driver lays a chain: the descriptors, two indices of them, the request, and the response's buffer with its length
pub record Places : Type 0 where
  pub descriptors : ℕ
  pub head : ℕ
  pub second : ℕ
  pub request : ℕ
  pub status : GuestAddr
  pub len : ℕ

abbrev pub first_addr : Places → ℕ
first_addr p = descriptor_addr p.descriptors p.head

abbrev pub second_addr : Places → ℕ
second_addr p = descriptor_addr p.descriptors p.second

-- n bytes at an address and m at another do not overlap
abbrev pub NoOverlap : (addr n other m : ℕ) → Type 0
NoOverlap addr n other m = (addr + n ≤ other) ⊎ (other + m ≤ addr)

-- they are places for a chain: inside guest memory, and apart
pub record PlacesIn (g : Guest) (p : Places) : Type 0 where
  pub head_in_table : p.head < 128
  pub second_in_table : p.second < 128
  pub two : p.head ≡ p.second → ⊥
  pub first_lies : inside (length g.mem) g.base (first_addr p) 16 ≡ true
  pub second_lies : inside (length g.mem) g.base (second_addr p) 16 ≡ true
  pub request_lies : inside (length g.mem) g.base p.request 24 ≡ true
  pub first_apart : NoOverlap (first_addr p) 16 p.request 24
  pub second_apart : NoOverlap (second_addr p) 16 p.request 24
  pub len_enough : 10 ≤ p.len
  pub len_fits : p.len < 256 ^ 4
  pub status_fits : p.status.0 < 256 ^ 8

-- bytes written at a guest address
abbrev pub put_at : Guest → (addr : ℕ) → List ℕ → Guest
put_at g addr bytes = record { mem = put g.mem (addr - g.base) bytes; base = g.base }

-- guest memory with the chain laid: both descriptors, and the request
abbrev pub laid_in : Guest → Places → VirtioMemReq → Guest
laid_in g p q =
    put_at
    (put_at (put_at g (first_addr p) (virtq_desc p.request 24 1 p.second)) (second_addr p)
    (virtq_desc p.status.0 p.len 2 0))
    p.request (request_bytes q)

-- 66 bytes have places: two descriptors, the request behind them, and 10 bytes for the response
abbrev pub in66 : (base : ℕ) → Places
in66 base =
    record {
      descriptors = base;
      head = 0;
      second = 1;
      request = base + 32;
      status = record { 0 = base + 56 };
      len = 10;
    }

-- where the response of a call goes: the status address of the chain that it brings, or of what waits for the host
pub data GoesTo (w : World) (c : Call) (g : Guest) (status : GuestAddr) : Type 0 where
  OfChain : (descriptors head : ℕ) (q : VirtioMemReq) → c ≡ Request g descriptors head
      → parsed g.mem g.base descriptors head ≡ asked q status → GoesTo w c g status
  OfUnplug : (ok : Bool) (host first count : ℕ) → c ≡ HostAnswer g ok host
      → w.device.pending ≡ Discard first count status → GoesTo w c g status
  OfUnplugAll : (ok : Bool) (host block : ℕ) → c ≡ HostAnswer g ok host
      → w.device.pending ≡ DiscardOne block status → GoesTo w c g status

-- in guest memory afterwards: from any slice that begins with the ten bytes at `status` the driver reads the response
abbrev pub ReadAt : (g : Guest) (status : GuestAddr) (bytes : List ℕ) → VirtioMemResp → Type 0
ReadAt g status bytes resp =
    (xs : List ℕ) → take 10 xs ≡ part bytes (status.0 - g.base) 10
    → (r : Result VirtioMemResp Refusal) → ReadsResponse xs r → r ≡ Ok resp

-- R14.4: a response that a call gives is a known one, and is read back where its used length is 10
pub record ReadBack (w : World) (c : Call) (reply : Reply) (bytes : List ℕ) : Type 0 where
  pub type_known : reply.response.resp_type ≤ 3
  pub state_known : reply.response.state ≤ 2
  pub guest : Guest
  pub status : GuestAddr
  pub goes : GoesTo w c guest status
  pub read : reply.used ≡ 10 → ReadAt guest status bytes reply.response
