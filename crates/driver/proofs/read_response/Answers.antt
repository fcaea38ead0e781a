-- SPDX-License-Identifier: Apache-2.0 AND BSD-3-Clause
-- `read_response` meets its contract.
use mathlib.Core.Path.{sym}
use native.Mathlib.Omega.{arith}
use Rattle.driver.proofs.Laws.{response_means, response_text_lem, none_read, response_read}
use Rattle.driver.proofs.read_response.Goals as goal

pub returns-then-bytes-lt10 : goal.returns-then-bytes-lt10
returns-then-bytes-lt10 c = none_read (λ v t. omega (arith, (response_means _ v t).long))

pub returns-then-padded-gt3 : goal.returns-then-padded-gt3
returns-then-padded-gt3 c = none_read (λ v t. omega (arith, (response_means _ v t).type_is, t.type_known))

pub returns-then-state-gt2 : goal.returns-then-state-gt2
returns-then-state-gt2 c = none_read (λ v t. omega (arith, (response_means _ v t).state_is, t.state_known))

pub returns : goal.returns
returns c =
    response_read _ _
    (response_text_lem _ _ (λ i. omega (arith, c.type_inv.bytes i))
    (record { long = omega arith; type_is = sym c.read_u64-padded.ensures; state_is = sym c.read_u16-state.ensures })
    (omega arith) (omega arith))
