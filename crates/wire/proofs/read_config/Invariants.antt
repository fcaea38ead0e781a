-- SPDX-License-Identifier: Apache-2.0 AND BSD-3-Clause
-- `read_config` meets its contract. The loop's invariant: laying the fields that are left gives what laying all eight gives.
use mathlib.Core.Path.{◌≡◌}
use lib.ListN.{length, drop, replicate}
use Rattle.wire.specs.Layout.{config_fields, fields_laid}
use Rattle.wire.proofs.read_config.Given as goal

abbrev pub invariant-loop-k : goal.invariant-loop-k
invariant-loop-k l = (length l.bytes ≡ 56) × (fields_laid l.bytes (drop l.k config_fields) (drop l.k l.values) ≡ fields_laid (replicate 56 0) config_fields l.values)
