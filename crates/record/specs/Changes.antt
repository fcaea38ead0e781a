-- SPDX-License-Identifier: Apache-2.0 AND BSD-3-Clause
-- The record with one field changed, for definitions that say what a call leaves.
use Rattle.std.specs.Prelude.{ℕ, Bool}
use Rattle.wire.specs.declared.VirtioMemConfig.{VirtioMemConfig}
use Rattle.record.specs.declared.Device.{Device}
use Rattle.record.specs.declared.Pending.{Pending}

-- the config with these start and sizes
abbrev pub config_with : VirtioMemConfig → (start usable plugged requested : ℕ) → VirtioMemConfig
config_with c start usable plugged requested =
    record {
      block_size = c.block_size;
      node_id = c.node_id;
      addr = record { 0 = start };
      region_size = c.region_size;
      usable_region_size = usable;
      plugged_size = plugged;
      requested_size = requested;
    }

-- the record with this config, placed or not, and this pending call
abbrev pub device_with : Device → VirtioMemConfig → (placed : Bool) → Pending → Device
device_with d config placed pending =
    record {
      config = config;
      alignment = d.alignment;
      several = d.several;
      avail_features = d.avail_features;
      placed = placed;
      pending = pending;
    }

abbrev pub config_to : VirtioMemConfig → Device → Device
config_to c d = device_with d c d.placed d.pending

abbrev pub pending_to : Pending → Device → Device
pending_to p d = device_with d d.config d.placed p

abbrev pub placed_to : Bool → Device → Device
placed_to b d = device_with d d.config b d.pending

abbrev pub start_to : ℕ → Device → Device
start_to start d =
    let c = d.config in
    config_to (config_with c start c.usable_region_size c.plugged_size c.requested_size) d

abbrev pub usable_to : ℕ → Device → Device
usable_to usable d =
    let c = d.config in
    config_to (config_with c c.addr.0 usable c.plugged_size c.requested_size) d

abbrev pub plugged_to : ℕ → Device → Device
plugged_to plugged d =
    let c = d.config in
    config_to (config_with c c.addr.0 c.usable_region_size plugged c.requested_size) d

abbrev pub requested_to : ℕ → Device → Device
requested_to requested d =
    let c = d.config in
    config_to (config_with c c.addr.0 c.usable_region_size c.plugged_size requested) d
