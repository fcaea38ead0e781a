-- SPDX-License-Identifier: Apache-2.0 AND BSD-3-Clause
-- What Virtio 1.2 asks of the features and the config of a memory device: M2 to M7. The names M2, Q9, .. are clauses of sections 5.15 and 2.7, retold and numbered in docs/STANDARD.md. Where one is narrower here, a line says how.
use Rattle.std.specs.Prelude.{ℕ, ◌+◌, ◌*◌, ◌/◌, ◌%◌, ◌^◌, ◌≤◌, ◌<◌, ◌≡◌, Bool, true, false, List, [], ◌∷◌, eqb, drop, replicate, Option, Ok}
use Rattle.bitmap.specs.Blocks.{block_at, ones}
use Rattle.little_endian.specs.Bytes.{put}
use Rattle.wire.specs.Standard.{virtio_mem_config}
use Rattle.wire.specs.declared.VirtioMemConfig.{VirtioMemConfig}
use Rattle.record.specs.declared.Device.{Device}
use Rattle.record.specs.declared.HostCall.{HostCall}
use Rattle.record.specs.declared.HostCall.TheVariants.{Create, Discard}
use Rattle.record.specs.Shape.{shaped_of}
use Rattle.making.specs.Made.{is_given, node_number, made}
use Rattle.step.specs.declared.Answer.{Answer}
use Rattle.step.specs.declared.Answer.TheVariants.{Refused, Wants, Sized, Unserved, Served, Done}
use Rattle.step.specs.World.{World, Call, ReadConfig, WriteConfig, Outcome}
use Rattle.step.specs.Step.{step, block_size, region, usable, plugged, requested, start, region_blocks}
use Rattle.history.specs.History.{Event, used, Story, after}
use Rattle.history.specs.Reached.{after_restore, Reached, made_as}

abbrev pub config_in : World → VirtioMemConfig
config_in w = w.device.config

-- ---- M2, the feature bits
abbrev pub VIRTIO_MEM_F_ACPI_PXM : ℕ
VIRTIO_MEM_F_ACPI_PXM = 0

abbrev pub VIRTIO_MEM_F_UNPLUGGED_INACCESSIBLE : ℕ
VIRTIO_MEM_F_UNPLUGGED_INACCESSIBLE = 1

abbrev pub offers : Device → (bit : ℕ) → Bool
offers d bit = eqb (d.avail_features / 2 ^ bit % 2) 1

-- the node's bit is offered exactly if a node was given, and without one node_id is 0; memory that is unplugged may be read
pub record Features (node : Option ℕ) (d : Device) : Type 0 where
  pub with_node : offers d VIRTIO_MEM_F_ACPI_PXM ≡ is_given node
  pub node_is : d.config.node_id ≡ node_number node
  pub accessible : offers d VIRTIO_MEM_F_UNPLUGGED_INACCESSIBLE ≡ false

-- from making on, in every run: what is offered stays offered
abbrev pub FeaturesFromMaking : Type 0
FeaturesFromMaking = (capacity requested : ℕ) (several : Bool) (node : Option ℕ) (boot : ℕ) (s : Story) (r : Reached s) → made capacity requested several node boot ≡ Ok (made_as r)
    → Features node s.world.device

-- ---- M3, the layout: what a config read gives from its offset on, as far as the buffer goes
abbrev pub layout_of : VirtioMemConfig → List ℕ
layout_of c =
    virtio_mem_config c.block_size c.node_id (replicate 6 0) c.addr.0 c.region_size
    c.usable_region_size c.plugged_size c.requested_size

abbrev pub ReadsLayout : Type 0
ReadsLayout = (w : World) (offset : ℕ) (buffer : List ℕ) → shaped_of w.device ≡ true
    → (step w (ReadConfig offset buffer)).bytes ≡ put buffer 0 (drop offset (layout_of (config_in w)))

-- ---- M4: block_size, node_id, addr and region_size never change, and (M2) no feature does; addr is given when the device is placed, before any driver sees it
pub record Constant (w w' : World) : Type 0 where
  pub same_block_size : (config_in w').block_size ≡ (config_in w).block_size
  pub same_node : (config_in w').node_id ≡ (config_in w).node_id
  pub same_region : (config_in w').region_size ≡ (config_in w).region_size
  pub same_addr : w.device.placed ≡ true → (config_in w').addr ≡ (config_in w).addr
  pub same_features : w'.device.avail_features ≡ w.device.avail_features

abbrev pub ConstantFields : World → Call → Outcome → Type 0
ConstantFields w c o = Constant w o.world

abbrev pub ConstantInRestore : Type 0
ConstantInRestore = (w : World) (size : ℕ) (plugs : List Event) → Constant w (after_restore w size plugs)

-- M4: block_size is a power of two, and the start and every other size are multiples of it; M5: no size is above region_size
pub record Layout (w : World) : Type 0 where
  pub power_of_two : block_size w ≡ 2 ^ 22
  pub addr_whole : start w % block_size w ≡ 0
  pub region_whole : region w % block_size w ≡ 0
  pub usable_whole : usable w % block_size w ≡ 0
  pub plugged_whole : plugged w % block_size w ≡ 0
  pub requested_whole : requested w % block_size w ≡ 0
  pub usable_within : usable w ≤ region w
  pub plugged_within : plugged w ≤ region w
  pub requested_within : requested w ≤ region w

abbrev pub FieldsLaidOut : Story → Call → Type 0
FieldsLaidOut s c = Layout s.world

-- ---- M5: usable_region_size shrinks at most by an acknowledged unplug-all; here it never does (`UsableNeverShrinks` of the crate history)
-- M5: requested_size is at most usable_region_size. Narrower: once a size is worked out (`Sized`), and until a creation is asked for; one that is pending or has failed leaves the usable size behind until the next `Sized`. Of any calls from anywhere: neither making nor a restore settles it
unfoldable pub settled_by_call : Bool → HostCall → Bool
settled_by_call before (Create guest size slot) = false
settled_by_call before (Discard offset size host) = before

unfoldable pub settled_by : Bool → Answer → Bool
settled_by before (Refused number) = before
settled_by before (Wants call) = settled_by_call before call
settled_by before Sized = true
settled_by before (Unserved reason) = before
settled_by before (Served reply) = before
settled_by before Done = before

-- after these calls from a world on
unfoldable pub settled_after : Bool → World → List Call → Bool
settled_after before w [] = before
settled_after before w (c ∷ cs) = settled_after (settled_by before (step w c).answer) (step w c).world cs

abbrev pub RequestedIsUsable : Type 0
RequestedIsUsable = (s : Story) (cs : List Call) → settled_after false s.world cs ≡ true → requested (after s cs).world ≤ usable (after s cs).world

-- ---- M6: plugged_size is the size of the plugged blocks
abbrev pub PluggedSizeIsOfBlocks : Story → Call → Type 0
PluggedSizeIsOfBlocks s c = plugged s.world ≡ ones (used s.world) * block_size s.world

-- M6: the blocks of the region that do not end in the usable region are unplugged
abbrev pub OutsideIsUnplugged : Story → Call → Type 0
OutsideIsUnplugged s c = (i : ℕ) → i < region_blocks s.world → usable s.world < (i + 1) * block_size s.world → block_at s.world.blocks i ≡ false

-- ---- M7: a config write changes nothing; requested_size is the host's to change (`OnlySizeChangeMovesRequested` of the crate history)
abbrev pub WritesNothing : Type 0
WritesNothing = (w : World) (offset : ℕ) (buffer : List ℕ) → (step w (WriteConfig offset buffer)).world ≡ w
