-- SPDX-License-Identifier: Apache-2.0 AND BSD-3-Clause
-- Four blocks in one request, in two and in three from behind; the smallest case where the order of two plugs matters; a border between two parts; and a plug under a higher requested size. Computed, by `refl`.
use Prim.Native.Nat.{ℕ, ◌+◌, ◌*◌}
use mathlib.Core.Path.{◌≡◌, refl}
use mathlib.Core.Bool.{true, false}
use mathlib.Core.List.{List, [], ◌∷◌}
use mathlib.Core.Option.{some}
use native.Mathlib.Omega.{arith}
use lib.ListN.{replicate, take}
use Rattle.units.specs.Numbers.{map_regions}
use Rattle.bitmap.specs.Blocks.{every, fill}
use Rattle.little_endian.specs.Bytes.{value, little_endian, part, put}
use Rattle.wire.specs.Standard.{virtio_mem_req}
use Rattle.wire.specs.Layout.{request_at, response_bytes}
use Rattle.descriptors.specs.Standard.{virtq_desc, descriptor_at, descriptor_addr}
use Rattle.descriptors.specs.Descriptors.{inside, link_at, link_after}
use Rattle.chain.specs.Chain.{asked, with_second, with_first, parsed, reaches, delivered}
use Rattle.rows.specs.Rows.{mapping_of}
use Rattle.record.specs.declared.Pending.TheVariants.{Nothing}
use Rattle.record.specs.Shape.{alignment_ok, region_ok, size_ok, span_of, start_ok, several_ok, pending_ok, shaped_of}
use Rattle.change.specs.Change.{inside_of, range_of, host_sum, host_in, host_of, legal_at, change_in}
use Rattle.step.specs.Answers.{response}
use Rattle.step.specs.World.{World, Guest, Call, Request}
use Rattle.step.specs.Step.{tables_fit, ready_refusal, unless, plug_as, plug, serve, request, step}
use Rattle.standard.specs.Requests.{Acknowledged, VIRTIO_MEM_RESP_ACK, VIRTIO_MEM_RESP_NACK}
use Rattle.in_parts.specs.InParts.{plug_request, Asks, AllAcknowledged, end_after, SameAs, InTwo, Piece, border_between, Raised}
use Rattle.in_parts.proofs.Asking.{asking}

-- the device of the whole example (R12.12), placed, with nothing plugged and so much requested
pub device : (requested : ℕ) → World
device requested =
    record {
      device = record {
        config = record {
          block_size = 4194304;
          node_id = 0;
          addr = record { 0 = 4294967296 };
          region_size = 268435456;
          usable_region_size = 268435456;
          plugged_size = 0;
          requested_size = requested;
        };
        alignment = 134217728;
        several = false;
        avail_features = 4294967296;
        placed = true;
        pending = Nothing;
      };
      blocks = replicate 64 false;
      rows = record { slot = 1; mapped = 1; host = record { 0 = 140737488355328 } } ∷ [];
    }

-- a plug of `count` blocks from a block on
pub plugs : (block count : ℕ) → Call
plugs block count = Request (asking (4294967296 + block * 4194304) count) 0 0

-- two parts of one block each: a border is looked for by their sizes and the offset alone
pub halves : List Piece
halves = record { blocks = 1; call = plugs 0 1 } ∷ record { blocks = 1; call = plugs 1 1 } ∷ []

asks : (g : Guest) (addr count : ℕ) → parsed g.mem g.base 0 0 ≡ asked (plug_request addr count) (record { 0 = 56 }) → Asks (Request g 0 0) addr count
asks g addr count e = record { guest = g; descriptors = 0; head = 0; status = record { 0 = 56 }; is_request = refl; reads = e }

nack_no_ack : some VIRTIO_MEM_RESP_NACK ≡ some VIRTIO_MEM_RESP_ACK → ⊥
nack_no_ack e = let z : ◌≡◌ {A = ℕ} 0 1 = cc in omega arith

pub record Example : Type 0 where
  pub cut : InTwo 4194304 4294967296 4 1 (plugs 0 4) (plugs 0 1) (plugs 1 3)
  pub in_two : SameAs (device 16777216) (plugs 0 1 ∷ plugs 1 3 ∷ []) (plugs 0 4)
  pub from_behind : SameAs (device 16777216) (plugs 3 1 ∷ plugs 1 2 ∷ plugs 0 1 ∷ []) (plugs 0 4)
  -- each of two blocks alone is within the requested size, both are not: the first that is asked for is plugged
  pub this_alone : Acknowledged (step (device 4194304) (plugs 0 1))
  pub other_alone : Acknowledged (step (device 4194304) (plugs 1 1))
  pub not_both : AllAcknowledged (device 4194304) (plugs 0 1 ∷ plugs 1 1 ∷ []) → ⊥
  pub nor_so : AllAcknowledged (device 4194304) (plugs 1 1 ∷ plugs 0 1 ∷ []) → ⊥
  pub this_first : take 2 (end_after (device 4194304) (plugs 0 1 ∷ plugs 1 1 ∷ [])).blocks ≡ true ∷ false ∷ []
  pub other_first : take 2 (end_after (device 4194304) (plugs 1 1 ∷ plugs 0 1 ∷ [])).blocks ≡ false ∷ true ∷ []
  -- blocks 511 and 512 of several regions, then 510 and 511; and of one region
  pub border : border_between true 4194304 2143289344 halves ≡ true
  pub no_border : border_between true 4194304 2139095040 halves ≡ false
  pub one_region : border_between false 4194304 2143289344 halves ≡ false
  pub raised : Raised 20971520 (device 16777216) (plugs 0 4)

pub example : Example
unfolding device plugs halves asking AllAcknowledged end_after border_between map_regions every fill value little_endian part put virtio_mem_req request_at response_bytes virtq_desc descriptor_at descriptor_addr inside link_at link_after with_second with_first parsed reaches delivered mapping_of alignment_ok region_ok size_ok span_of start_ok several_ok pending_ok shaped_of inside_of range_of host_sum host_in host_of legal_at change_in tables_fit ready_refusal unless plug_as plug serve request step response
example =
    record {
      cut = record { asks_whole = asks _ _ _ refl; asks_first = asks _ _ _ refl; asks_second = asks _ _ _ refl };
      in_two = record { all_acknowledged = (refl, (refl, tt)); same_end = refl };
      from_behind = record { all_acknowledged = (refl, (refl, (refl, tt))); same_end = refl };
      this_alone = refl;
      other_alone = refl;
      not_both = λ all. nack_no_ack all.1.0;
      nor_so = λ all. nack_no_ack all.1.0;
      this_first = refl;
      other_first = refl;
      border = refl;
      no_border = refl;
      one_region = refl;
      raised = record { same_answer = refl; same_bytes = refl; same_end = refl };
    }
