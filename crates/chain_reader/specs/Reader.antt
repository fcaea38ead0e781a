-- SPDX-License-Identifier: Apache-2.0 AND BSD-3-Clause
-- Where a chain reader goes on: the index after a descriptor, and the second descriptor of a chain.
use Rattle.descriptors.specs.declared.Descriptor.{Descriptor}
use Rattle.std.specs.Prelude.{ℕ, cond, List, Option, Some, None}
use Rattle.descriptors.specs.Standard.{has_next}
use Rattle.descriptors.specs.Descriptors.{link_at, link_after}

-- R9.3: the descriptor of index 128 is missing, and past the end a reader stands there
unfoldable pub reader_index : Option Descriptor → ℕ
reader_index None = 128
reader_index (Some d) = cond (has_next d) d.next 128

-- the descriptor after a link
unfoldable pub link_behind : (mem : List ℕ) (base descriptors : ℕ) → Option Descriptor → Option Descriptor
link_behind mem base descriptors None = None
link_behind mem base descriptors (Some d) = link_after mem base descriptors d

-- the second descriptor of the chain that starts at head, as `parsed` finds it
unfoldable pub second_link : (mem : List ℕ) (base descriptors head : ℕ) → Option Descriptor
second_link mem base descriptors head = link_behind mem base descriptors (link_at mem base descriptors head)
