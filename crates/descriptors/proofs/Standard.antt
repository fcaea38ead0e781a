-- SPDX-License-Identifier: Apache-2.0 AND BSD-3-Clause
-- The descriptor that the chain reads is the one that Q1 lays out.
use Prim.Native.Nat.{ℕ, ◌<◌, ◌^◌}
use mathlib.Core.Path.{◌≡◌, ap, ◌∙◌}
use mathlib.Core.List.{List}
use Rattle.little_endian.specs.Bytes.{little_endian, part}
use Rattle.little_endian.proofs.Laws.{value_fits}
use Rattle.descriptors.specs.declared.Descriptor.{Descriptor}
use Rattle.descriptors.specs.Standard.{virtq_desc, descriptor_at}
use Rattle.descriptors.proofs.Laws.{descriptor_part}

-- le64, le32, le16 and le16 hold it
pub record Fits (d : Descriptor) : Type 0 where
  pub addr : d.addr.0 < 256 ^ 8
  pub len : d.len < 256 ^ 4
  pub flags : d.flags < 256 ^ 2
  pub next : d.next < 256 ^ 2

laid : (d : Descriptor) → Fits d → descriptor_at (virtq_desc d.addr.0 d.len d.flags d.next) 0 ≡ d
unfolding descriptor_at virtq_desc part little_endian
laid d f =
    let addr = value_fits 8 d.addr.0 f.addr in
    let len = value_fits 4 d.len f.len in
    let flags = value_fits 2 d.flags f.flags in
    let next = value_fits 2 d.next f.next in
    rw (addr, len, flags, next)

-- where the standard's bytes of a descriptor stand, that descriptor is read
pub descriptor_laid : (mem : List ℕ) (at : ℕ) (d : Descriptor) → Fits d
    → part mem at 16 ≡ virtq_desc d.addr.0 d.len d.flags d.next → descriptor_at mem at ≡ d
descriptor_laid mem at d f same =
    descriptor_part mem at ∙ ap (λ (bytes : List ℕ). descriptor_at bytes 0) same ∙ laid d f
