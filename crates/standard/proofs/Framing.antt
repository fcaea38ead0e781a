-- SPDX-License-Identifier: Apache-2.0 AND BSD-3-Clause
-- Q9, which is not met, and the size of a queue, which is 128 here: how a chain may be cut and which indices are read, on the smallest inputs of docs/DIFFERENCES.md. Computed, by `refl`.
use Rattle.std.specs.Prelude.{Err, Result}
use Prim.Native.Nat.{ℕ}
use mathlib.Core.Path.{◌≡◌, refl}
use mathlib.Core.List.{List, ◌++◌}
use lib.ListN.{replicate}
use Rattle.little_endian.specs.Bytes.{value, little_endian, part}
use Rattle.wire.specs.Layout.{request_at}
use Rattle.descriptors.specs.Standard.{virtq_desc, descriptor_at, descriptor_addr}
use Rattle.descriptors.specs.Descriptors.{inside, link_at, link_after}
use Rattle.chain.specs.declared.Asked.{Asked}
use Rattle.chain.specs.declared.NoRequest.{NoRequest}
use Rattle.chain.specs.declared.NoRequest.TheVariants.{Missing, WrongLength, TooShort}
use Rattle.chain.specs.Chain.{asked, with_second, with_first, parsed}

-- the chain from descriptor `head` on, of a table at address 0, with zeros behind it
unfoldable pub chain_of : List ℕ → (head : ℕ) → Result Asked NoRequest
chain_of descriptors head = parsed (descriptors ++ replicate 80 0) 0 0 head

pub record Framing : Type 0 where
  -- a request in buffers of 8 and 16 bytes
  pub request_cut : chain_of (virtq_desc 64 8 1 1 ++ virtq_desc 72 16 1 2 ++ virtq_desc 88 10 2 0) 0 ≡ Err WrongLength
  -- a response in buffers of 4 and 6 bytes
  pub response_cut : chain_of (virtq_desc 64 24 1 1 ++ virtq_desc 88 4 3 2 ++ virtq_desc 92 6 2 0) 0 ≡ Err TooShort
  -- a queue of two: index 2, which is behind it, is read
  pub queue_of_2 : chain_of (virtq_desc 64 24 1 2 ++ replicate 16 0 ++ virtq_desc 88 10 2 0) 0 ≡ asked (record { req_type = 0; addr = record { 0 = 0 }; nb_blocks = 0 }) (record { 0 = 88 })
  -- a queue of 256: index 128 is not
  pub queue_of_256 : chain_of (replicate 2048 0 ++ virtq_desc 64 24 1 1 ++ virtq_desc 88 10 2 0) 128 ≡ Err Missing

pub framing : Framing
unfolding chain_of parsed with_first with_second link_at link_after descriptor_at descriptor_addr inside part value little_endian virtq_desc request_at
framing = record { request_cut = refl; response_cut = refl; queue_of_2 = refl; queue_of_256 = refl }
