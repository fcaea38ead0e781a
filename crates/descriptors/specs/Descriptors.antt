-- SPDX-License-Identifier: Apache-2.0 AND BSD-3-Clause
-- Where bytes lie in guest memory, and the descriptors of a chain (R9).
use Rattle.std.specs.Prelude.{ℕ, ◌+◌, ◌-◌, ◌^◌, Bool, cond, ◌&&◌, List, leb, ltb, length, Option, Some, None}
use Rattle.descriptors.specs.declared.Descriptor.{Descriptor}
use Rattle.descriptors.specs.Standard.{descriptor_at, descriptor_addr, has_next}

-- R9.1: n bytes at addr are inside the len bytes at base
unfoldable pub inside : (len base addr n : ℕ) → Bool
inside len base addr n = leb base addr && (leb (addr + n) (base + len) && leb (addr + n) (2 ^ 64))

-- where they lie in the slice
unfoldable pub place_of : (len base addr n : ℕ) → Option ℕ
place_of len base addr n = cond (inside len base addr n) (Some (addr - base)) None

-- R9.3: the descriptor of an index
unfoldable pub link_at : (mem : List ℕ) (base table index : ℕ) → Option Descriptor
link_at mem base table index =
    cond (ltb index 128 && inside (length mem) base (descriptor_addr table index) 16)
    (Some (descriptor_at mem (descriptor_addr table index - base)))
    None

-- R9.3: the descriptor after a descriptor
unfoldable pub link_after : (mem : List ℕ) (base table : ℕ) (d : Descriptor) → Option Descriptor
link_after mem base table d = cond (has_next d) (link_at mem base table d.next) None
