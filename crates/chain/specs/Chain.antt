-- SPDX-License-Identifier: Apache-2.0 AND BSD-3-Clause
-- The chain, test by test (R9): `mem` is the bytes of guest memory from the guest address `base` on, `table` the guest address of the descriptors, `status` that of the response.
use Rattle.descriptors.specs.declared.Descriptor.{Descriptor}
use Rattle.std.specs.Prelude.{ℕ, ◌-◌, Bool, cond, not, List, ltb, eqb, length, Option, Some, None, Ok, Err, Result}
use Rattle.little_endian.specs.Bytes.{put}
use Rattle.wire.specs.declared.VirtioMemReq.{VirtioMemReq}
use Rattle.wire.specs.declared.VirtioMemResp.{VirtioMemResp}
use Rattle.wire.specs.Layout.{request_at, response_bytes}
use Rattle.descriptors.specs.Standard.{is_write_only, is_indirect}
use Rattle.descriptors.specs.Descriptors.{inside, link_at, link_after}
use Rattle.units.specs.declared.GuestAddr.{GuestAddr}
use Rattle.chain.specs.declared.Asked.{Asked}
use Rattle.chain.specs.declared.NoRequest.{NoRequest}
use Rattle.chain.specs.declared.NoRequest.TheVariants.{UnknownType, Missing, FirstWriteOnly, WrongLength, NotInside, NotWritable, TooShort, Indirect}

-- ---- the reasons: R1.21, R1.22, R1.23, R1.24, R1.25, R1.26, R1.27; 0 for a type that no device knows (R9.8)
abbrev pub reason : NoRequest → ℕ
reason UnknownType = 0
reason Missing = 21
reason FirstWriteOnly = 22
reason WrongLength = 23
reason NotInside = 24
reason NotWritable = 25
reason TooShort = 26
reason Indirect = 27

-- a request and its status address
abbrev pub asked : VirtioMemReq → (status : GuestAddr) → Result Asked NoRequest
asked req status = Ok (record { request = req; status = status })

-- R9.5; R9.6: no later descriptor is looked at
unfoldable pub with_second : (req : VirtioMemReq) (second : Option Descriptor) → Result Asked NoRequest
with_second req None = Err Missing
with_second req (Some second) =
    cond (is_indirect second) (Err Indirect)
    (cond (not (is_write_only second)) (Err NotWritable)
    (cond (ltb second.len 10) (Err TooShort)
    (asked req second.addr)))

-- R9.4
unfoldable pub with_first : (mem : List ℕ) (base table : ℕ) (first : Option Descriptor) → Result Asked NoRequest
with_first mem base table None = Err Missing
with_first mem base table (Some first) =
    cond (is_indirect first) (Err Indirect)
    (cond (is_write_only first) (Err FirstWriteOnly)
    (cond (not (eqb first.len 24)) (Err WrongLength)
    (cond (not (inside (length mem) base first.addr.0 24)) (Err NotInside)
    (with_second (request_at mem (first.addr.0 - base)) (link_after mem base table first)))))

-- the request and the status address, or the first reason against them
unfoldable pub parsed : (mem : List ℕ) (base table head : ℕ) → Result Asked NoRequest
parsed mem base table head = with_first mem base table (link_at mem base table head)

-- R9.10: the response's 10 bytes are wholly inside
unfoldable pub reaches : (mem : List ℕ) (base status : ℕ) → Bool
reaches mem base status = inside (length mem) base status 10

-- R9.10: guest memory afterwards
unfoldable pub delivered : (mem : List ℕ) (base status : ℕ) (resp : VirtioMemResp) → List ℕ
delivered mem base status resp = cond (reaches mem base status) (put mem (status - base) (response_bytes resp)) mem
