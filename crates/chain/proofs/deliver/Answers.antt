-- SPDX-License-Identifier: Apache-2.0 AND BSD-3-Clause
-- `chain::deliver` meets its contract: the response is put where its 10 bytes are placed, and nothing is where they are not.
use Rattle.chain.specs.Chain.{reaches, delivered}
use Rattle.descriptors.proofs.Laws.{place_found, place_outside}
use Rattle.chain.proofs.deliver.Goals as goal

pub returns-in_default : goal.returns-in_default
unfolding reaches delivered
returns-in_default c =
    let e = place_outside _ _ _ _ _ c.place_of.ensures c.in_default.is in
    record { value = simp e; mem_after = simp e }

pub returns : goal.returns
unfolding reaches delivered
returns c =
    let f = place_found _ _ _ _ _ _ c.place_of.ensures c.in-Some.is in
    record { value = simp f.lies; mem_after = simp (f.lies, ← f.place, c.write_response.ensures) }
