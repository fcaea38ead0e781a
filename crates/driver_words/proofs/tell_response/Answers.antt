-- SPDX-License-Identifier: Apache-2.0 AND BSD-3-Clause
-- `driver_words::tell_response` meets its contract: what is told is the words of what was read, or its refusal.
use Rattle.std.proofs.Common.{◌≡◌}
use Rattle.driver_words.specs.Told.{response_words, response_gives}
use Rattle.driver_words.proofs.Laws.{told_by}
use Rattle.driver_words.proofs.tell_response.Goals as goal

pub returns : goal.returns
returns c =
    let told : c.map.result ≡ response_gives c.read_response.result = told_by response_words _ _ c.map.ensures.cases in
    record { got = c.read_response.result; reads = c.read_response.ensures; told = rw told at c.tell.ensures }
