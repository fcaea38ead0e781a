-- SPDX-License-Identifier: Apache-2.0 AND BSD-3-Clause
-- `driver_words::tell_config` meets its contract: what is told is the words of what was read, or its refusal.
use Rattle.std.proofs.Common.{◌≡◌}
use Rattle.driver_words.specs.Told.{config_words, config_gives}
use Rattle.driver_words.proofs.Laws.{told_by}
use Rattle.driver_words.proofs.tell_config.Goals as goal

pub returns : goal.returns
returns c =
    let told : c.map.result ≡ config_gives c.read_config.result = told_by config_words _ _ c.map.ensures.cases in
    record { got = c.read_config.result; reads = c.read_config.ensures; told = rw told at c.tell.ensures }
