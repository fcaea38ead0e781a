-- SPDX-License-Identifier: Apache-2.0 AND BSD-3-Clause
-- The descriptor table of a split queue, over the bytes of guest memory: Q1. The names of clauses are those of docs/STANDARD.md: sections 5.15 and 2.7 of Virtio 1.2, retold and numbered there, from knowledge of the text, and held against the kernel's <linux/virtio_ring.h>.
use Rattle.std.specs.Prelude.{ℕ, ◌+◌, ◌*◌, ◌/◌, ◌%◌, Bool, List, ◌++◌, eqb}
use Rattle.little_endian.specs.Bytes.{value, little_endian, part}
use Rattle.descriptors.specs.declared.Descriptor.{Descriptor}

-- Q1, virtq_desc: le64 addr; le32 len; le16 flags; le16 next
unfoldable pub virtq_desc : (addr len flags next : ℕ) → List ℕ
virtq_desc addr len flags next = little_endian 8 addr ++ little_endian 4 len ++ little_endian 2 flags ++ little_endian 2 next

-- R9.2: the descriptor that stands from byte `at` on
unfoldable pub descriptor_at : (mem : List ℕ) (at : ℕ) → Descriptor
descriptor_at mem at =
    record {
      addr = record { 0 = value (part mem at 8) };
      len = value (part mem (at + 8) 4);
      flags = value (part mem (at + 12) 2);
      next = value (part mem (at + 14) 2);
    }

-- Q1: the table has one descriptor of 16 bytes after the other; the guest address of one
unfoldable pub descriptor_addr : (table index : ℕ) → ℕ
descriptor_addr table index = table + 16 * index

-- a flag is one bit of `flags`
abbrev pub has_flag : (flag : ℕ) (d : Descriptor) → Bool
has_flag flag d = eqb (d.flags / flag % 2) 1

-- VIRTQ_DESC_F_NEXT 1: the chain goes on with the descriptor that `next` names
abbrev pub has_next : Descriptor → Bool
has_next = has_flag 1

-- VIRTQ_DESC_F_WRITE 2: the device writes the buffer and reads none of it; otherwise it reads and writes none (Q4)
abbrev pub is_write_only : Descriptor → Bool
is_write_only = has_flag 2

-- VIRTQ_DESC_F_INDIRECT 4: the buffer holds descriptors
abbrev pub is_indirect : Descriptor → Bool
is_indirect = has_flag 4
