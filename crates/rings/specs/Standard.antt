-- SPDX-License-Identifier: Apache-2.0 AND BSD-3-Clause
-- The rings of a split queue, over the bytes of guest memory: Q1 to Q4. The names of clauses are those of docs/STANDARD.md: section 2.7 of Virtio 1.2, retold and numbered there, from knowledge of the text, and held against the kernel's <linux/virtio_ring.h>.
use Rattle.std.specs.Prelude.{ℕ, ◌+◌, ◌*◌, ◌≤◌, ◌<◌, List, [], ◌∷◌, ◌++◌}
use Rattle.little_endian.specs.Bytes.{value, little_endian, part}

-- Q1, R13.2: how long the rings of a queue are, with the two bytes behind the entries
abbrev pub available_bytes : (size : ℕ) → ℕ
available_bytes size = 6 + 2 * size

abbrev pub used_bytes : (size : ℕ) → ℕ
used_bytes size = 6 + 8 * size

-- ---- Q2: the rings as the standard lays them out
-- virtq_avail: le16 flags; le16 idx; le16 ring[]; le16 used_event
unfoldable pub heads : List ℕ → List ℕ
heads [] = []
heads (h ∷ hs) = little_endian 2 h ++ heads hs

unfoldable pub virtq_avail : (flags idx : ℕ) (ring : List ℕ) (event : ℕ) → List ℕ
virtq_avail flags idx ring event = little_endian 2 flags ++ little_endian 2 idx ++ heads ring ++ little_endian 2 event

-- virtq_used_elem: le32 id; le32 len
pub record Element : Type 0 where
  pub id : ℕ
  pub len : ℕ

abbrev pub used_element : (id len : ℕ) → List ℕ
used_element id len = little_endian 4 id ++ little_endian 4 len

-- virtq_used: le16 flags; le16 idx; virtq_used_elem ring[]; le16 avail_event
unfoldable pub elements : List Element → List ℕ
elements [] = []
elements (e ∷ es) = used_element e.id e.len ++ elements es

unfoldable pub virtq_used : (flags idx : ℕ) (ring : List Element) (event : ℕ) → List ℕ
virtq_used flags idx ring event = little_endian 2 flags ++ little_endian 2 idx ++ elements ring ++ little_endian 2 event

-- ---- and as they are read where they stand from byte `at` on (`available_laid` and `used_laid`: what is read is what is laid out)
abbrev pub available_index : List ℕ → (at : ℕ) → ℕ
available_index mem at = value (part mem (at + 2) 2)

abbrev pub available_head : List ℕ → (at entry : ℕ) → ℕ
available_head mem at entry = value (part mem (at + 4 + 2 * entry) 2)

abbrev pub used_index : List ℕ → (at : ℕ) → ℕ
used_index mem at = value (part mem (at + 2) 2)

abbrev pub used_id : List ℕ → (at entry : ℕ) → ℕ
used_id mem at entry = value (part mem (at + 4 + 8 * entry) 4)

abbrev pub used_length : List ℕ → (at entry : ℕ) → ℕ
used_length mem at entry = value (part mem (at + 4 + 8 * entry + 4) 4)

-- Q4 speaks of bytes that are not written: byte i does not lie in the n bytes from `at` on
pub data Apart (i at n : ℕ) : Type 0 where
  Before : i < at → Apart i at n
  Behind : at + n ≤ i → Apart i at n
