-- SPDX-License-Identifier: Apache-2.0 AND BSD-3-Clause
-- The structures of a memory device, member after member: M3 and M8. The names of clauses are those of docs/STANDARD.md: sections 5.15 and 2.7 of Virtio 1.2, retold and numbered there, from knowledge of the text, and held against the kernel's <linux/virtio_mem.h>.
use Rattle.std.specs.Prelude.{ℕ, List, ◌++◌}
use Rattle.little_endian.specs.Bytes.{little_endian}

-- a le16 and a le64 are two and eight bytes, lowest first
abbrev pub le16 : ℕ → List ℕ
le16 v = little_endian 2 v

abbrev pub le64 : ℕ → List ℕ
le64 v = little_endian 8 v

-- M8, virtio_mem_req: le16 type; le16 padding[3]; then le64 addr; le16 nb_blocks; le16 padding[3]
unfoldable pub virtio_mem_req : (type p₀ p₁ p₂ addr blocks q₀ q₁ q₂ : ℕ) → List ℕ
virtio_mem_req type p₀ p₁ p₂ addr blocks q₀ q₁ q₂ =
    le16 type ++ le16 p₀ ++ le16 p₁ ++ le16 p₂ ++ le64 addr ++ le16 blocks ++ le16 q₀ ++ le16 q₁ ++ le16 q₂

-- M8, virtio_mem_resp: le16 type; le16 padding[3]; then le16 state
unfoldable pub virtio_mem_resp : (type p₀ p₁ p₂ state : ℕ) → List ℕ
virtio_mem_resp type p₀ p₁ p₂ state = le16 type ++ le16 p₀ ++ le16 p₁ ++ le16 p₂ ++ le16 state

-- M3, virtio_mem_config: le64 block_size; le16 node_id; padding[6], of bytes; le64 addr; le64 region_size;
-- le64 usable_region_size; le64 plugged_size; le64 requested_size
unfoldable pub virtio_mem_config : (block_size node : ℕ) (padding : List ℕ) (addr region usable plugged requested : ℕ) → List ℕ
virtio_mem_config block_size node padding addr region usable plugged requested =
    le64 block_size
    ++ le16 node
    ++ padding
    ++ le64 addr
    ++ le64 region
    ++ le64 usable
    ++ le64 plugged
    ++ le64 requested
