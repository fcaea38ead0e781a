-- SPDX-License-Identifier: Apache-2.0 AND BSD-3-Clause
-- A law on the reader, for callers: where a reader goes on is where the device's parse goes on.
use Rattle.descriptors.specs.declared.Descriptor.{Descriptor}
use Rattle.std.specs.Prelude.{Option, Some, None}
use Prim.Native.Nat.{ℕ}
use mathlib.Core.Path.{◌≡◌, refl}
use mathlib.Core.List.{List}
use Rattle.units.proofs.Tests.{by_test}
use Rattle.descriptors.specs.Standard.{has_next}
use Rattle.descriptors.specs.Descriptors.{link_at, link_after}
use Rattle.chain_reader.specs.Reader.{reader_index, link_behind}

-- the descriptor at the index after a link is the descriptor behind it, and there is none at 128
pub link_behind_lem : (mem : List ℕ) (base descriptors : ℕ) (link : Option Descriptor) → link_at mem base descriptors (reader_index link) ≡ link_behind mem base descriptors link
unfolding reader_index link_behind link_after link_at
link_behind_lem mem base descriptors None = refl
link_behind_lem mem base descriptors (Some d) = by_test (has_next d) (λ t. simp t) (λ t. simp t)
