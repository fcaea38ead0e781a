-- SPDX-License-Identifier: Apache-2.0 AND BSD-3-Clause
-- Both sides of each edge, R17.1 to R17.11, by one statement over one list that the checker computes.
use Prim.Native.Nat.{ℕ}
use mathlib.Core.Path.{◌≡◌, refl}
use mathlib.Core.Bool.{Bool, true, false}
use mathlib.Core.List.{List, [], ◌∷◌}
use lib.Count.{count_trailing_zeros}
use lib.ListN.{replicate}
use Rattle.units.specs.Numbers.{twos, alignment_of, next_multiple, capacity_of, map_regions}
use Rattle.bitmap.specs.Blocks.{every}
use Rattle.rows.specs.declared.MapRow.{MapRow}
use Rattle.rows.specs.Rows.{mapping_of, unmapped_from}
use Rattle.descriptors.specs.Descriptors.{inside}
use Rattle.chain.specs.Chain.{reaches}
use Rattle.record.specs.declared.Device.{Device}
use Rattle.record.specs.declared.Pending.{Pending}
use Rattle.record.specs.declared.Pending.TheVariants.{Nothing, Create, Discard, DiscardOne}
use Rattle.record.specs.declared.HostCall.TheVariants.{Create as CreateCall, Discard as DiscardCall}
use Rattle.record.specs.Shape.{alignment_ok, region_ok, size_ok, span_of, start_ok, several_ok, pending_ok, shaped_of}
use Rattle.resize.specs.Resize.{new_size, creation_size, growth_at, growth_of}
use Rattle.change.specs.Change.{range_of, inside_of, host_of, host_in, host_sum, legal_at, change_in}
use Rattle.step.specs.declared.Answer.{Answer}
use Rattle.step.specs.declared.Answer.TheVariants.{Refused, Wants, Sized, Unserved, Served, Done}
use Rattle.step.specs.World.{World, no_guest, Outcome, SetRequestedSize}
use Rattle.step.specs.Step.{plug, plug_as, tables_fit, ready_refusal, unless, resizes, set_requested_size, step}

-- a placed device at 4 GiB with alignment 128 MiB; a row is mapped where the list says so
device : (region usable plugged requested : ℕ) (several : Bool) → Device
device region usable plugged requested several =
    record {
      config = record {
        block_size = 4194304;
        node_id = 0;
        addr = record { 0 = 4294967296 };
        region_size = region;
        usable_region_size = usable;
        plugged_size = plugged;
        requested_size = requested;
      };
      alignment = 134217728;
      several = several;
      avail_features = 4294967296;
      placed = true;
      pending = Nothing;
    }

row : (mapped : ℕ) → MapRow
row mapped = record { slot = 7; mapped = mapped; host = record { 0 = 140737488355328 } }

world : Device → (blocks rows mapped : ℕ) → World
world d blocks rows mapped = record { device = d; blocks = replicate blocks false; rows = replicate rows (row mapped) }

-- a plug, answered: the response's type
answer_type : Answer → ℕ
answer_type (Served reply) = reply.response.resp_type
answer_type (Refused n) = 100
answer_type (Wants call) = 100
answer_type Sized = 100
answer_type (Unserved reason) = 100
answer_type Done = 100

plugged : World → (addr count : ℕ) → List ℕ
plugged w addr count = answer_type (plug w addr count 0 no_guest).answer ∷ []

-- a size change that asks for a creation: its rows, and its size
rows_of_call : Pending → List ℕ → List ℕ
rows_of_call (Create first last) rest = first ∷ last ∷ rest
rows_of_call Nothing rest = []
rows_of_call (Discard first count status) rest = []
rows_of_call (DiscardOne block status) rest = []

size_of_call : Answer → List ℕ
size_of_call (Wants (CreateCall guest size slot)) = size ∷ []
size_of_call (Wants (DiscardCall offset size host)) = []
size_of_call (Refused n) = []
size_of_call Sized = []
size_of_call (Unserved reason) = []
size_of_call (Served reply) = []
size_of_call Done = []

asked : Outcome → List ℕ
asked o = rows_of_call o.world.device.pending (size_of_call o.answer)

grows : (region mib : ℕ) → List ℕ
grows region mib = asked (step (world (device region 0 0 0 true) 2048 4 0) (SetRequestedSize mib))

-- what is worked out, and what the rule says of it
pub record Edge : Type 0 where
  pub gives : List ℕ
  pub says : List ℕ

pub edges : List Edge
edges =
    record { gives = alignment_of 68719476735 ∷ []; says = 134217728 ∷ [] }
    ∷ record { gives = alignment_of 68719476736 ∷ []; says = 2147483648 ∷ [] }
    ∷ record { gives = alignment_of 69793218560 ∷ []; says = 1073741824 ∷ [] }
    ∷ record { gives = alignment_of 68719476737 ∷ []; says = 134217728 ∷ [] }
    ∷ record { gives = capacity_of 257 134217728 ∷ []; says = 536870912 ∷ [] }
    ∷ record { gives = plugged (world (device 268435456 268435456 8388608 16777216 false) 64 1 1) 4294967296 0; says = 3 ∷ [] }
    ∷ record { gives = plugged (world (device 268435456 268435456 20971520 16777216 false) 64 1 1) 4294967296 0; says = 1 ∷ [] }
    ∷ record { gives = grows 8589934592 1788; says = 0 ∷ 0 ∷ 2147483648 ∷ [] }
    ∷ record { gives = grows 8589934592 1792; says = 0 ∷ 1 ∷ 4294967296 ∷ [] }
    ∷ record { gives = grows 2415919104 1792; says = 0 ∷ 1 ∷ 2415919104 ∷ [] }
    ∷ record { gives = plugged (world (device 4294967296 4294967296 0 16777216 true) 1024 2 1) 6438256640 2; says = 3 ∷ [] }
    ∷ []

pub given : List Edge → List (List ℕ)
given [] = []
given (e ∷ es) = e.gives ∷ given es

pub said : List Edge → List (List ℕ)
said [] = []
said (e ∷ es) = e.says ∷ said es

pub edges_hold : given edges ≡ said edges
unfolding given said edges device row world answer_type plugged rows_of_call size_of_call asked grows alignment_of twos count_trailing_zeros next_multiple map_regions every mapping_of unmapped_from inside reaches alignment_ok region_ok size_ok span_of start_ok several_ok pending_ok shaped_of new_size creation_size growth_at growth_of range_of inside_of host_of host_in host_sum legal_at change_in plug plug_as tables_fit ready_refusal unless resizes set_requested_size step
edges_hold = refl
