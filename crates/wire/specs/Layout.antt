-- SPDX-License-Identifier: Apache-2.0 AND BSD-3-Clause
-- The request, the response and the config, byte by byte (R7).
use Rattle.std.specs.Prelude.{ℕ, ◌+◌, List, [], ◌∷◌, ◌++◌, replicate}
use Rattle.wire.specs.declared.VirtioMemReq.{VirtioMemReq}
use Rattle.wire.specs.declared.VirtioMemResp.{VirtioMemResp}
use Rattle.wire.specs.declared.VirtioMemConfig.{VirtioMemConfig}
use Rattle.wire.specs.declared.Field.{Field}
use Rattle.little_endian.specs.Bytes.{value, little_endian, part, put}

-- R7.2: the request that stands from byte `at` on
unfoldable pub request_at : (xs : List ℕ) (at : ℕ) → VirtioMemReq
request_at xs at =
    record {
      req_type = value (part xs at 2);
      addr = record { 0 = value (part xs (at + 8) 8) };
      nb_blocks = value (part xs (at + 16) 2);
    }

-- R7.3
unfoldable pub response_bytes : VirtioMemResp → List ℕ
response_bytes r = little_endian 2 r.resp_type ++ (replicate 6 0 ++ little_endian 2 r.state)

-- R7.5: the offset and the width of each field
unfoldable pub config_fields : List Field
config_fields =
    record { 0 = 0; 1 = 8 }
    ∷ record { 0 = 8; 1 = 2 }
    ∷ record { 0 = 10; 1 = 6 }
    ∷ record { 0 = 16; 1 = 8 }
    ∷ record { 0 = 24; 1 = 8 }
    ∷ record { 0 = 32; 1 = 8 }
    ∷ record { 0 = 40; 1 = 8 }
    ∷ record { 0 = 48; 1 = 8 }
    ∷ []

-- what stands in each field of the table, in its order
unfoldable pub config_values : VirtioMemConfig → List ℕ
config_values c =
    c.block_size
    ∷ c.node_id
    ∷ 0
    ∷ c.addr.0
    ∷ c.region_size
    ∷ c.usable_region_size
    ∷ c.plugged_size
    ∷ c.requested_size
    ∷ []

-- xs with each value written at its field's offset, in its field's width
unfoldable pub fields_laid : List ℕ → List Field → List ℕ → List ℕ
fields_laid xs [] vs = xs
fields_laid xs (f ∷ fs) [] = xs
fields_laid xs (f ∷ fs) (v ∷ vs) = fields_laid (put xs f.0 (little_endian f.1 v)) fs vs

-- R7.5: the 56 bytes of a config
unfoldable pub config_bytes : VirtioMemConfig → List ℕ
config_bytes c = fields_laid (replicate 56 0) config_fields (config_values c)

-- R4.7: a config before the device is placed: no start, nothing usable, nothing plugged
abbrev pub new_config : (block_size node region requested : ℕ) → VirtioMemConfig
new_config block_size node region requested =
    record {
      block_size = block_size;
      node_id = node;
      addr = record { 0 = 0 };
      region_size = region;
      usable_region_size = 0;
      plugged_size = 0;
      requested_size = requested;
    }
