-- SPDX-License-Identifier: Apache-2.0 AND BSD-3-Clause
-- `read_config` meets its contract.
use mathlib.Core.Path.{sym}
use native.Mathlib.Omega.{arith}
use Rattle.driver.proofs.Laws.{config_means, config_text, none_read, config_read}
use Rattle.driver.proofs.read_config.Goals as goal

pub returns-then-bytes-lt56 : goal.returns-then-bytes-lt56
returns-then-bytes-lt56 c = none_read (λ v t. omega (arith, (config_means _ v t).long))

pub returns-then-padded-gt65535 : goal.returns-then-padded-gt65535
returns-then-padded-gt65535 c = none_read (λ v t. omega (arith, (config_means _ v t).node_is, (config_means _ v t).node_two))

pub returns : goal.returns
returns c =
    config_read _ _
    (config_text _ _ (λ i. omega (arith, c.type_inv.bytes i))
    (record {
      long = omega arith;
      node_two = omega arith;
      block_is = sym c.read_u64.ensures;
      node_is = sym c.read_u64-padded.ensures;
      start_is = sym c.read_u64-2.ensures;
      region_is = sym c.read_u64-3.ensures;
      usable_is = sym c.read_u64-4.ensures;
      plugged_is = sym c.read_u64-5.ensures;
      requested_is = sym c.read_u64-6.ensures;
    }))
