-- SPDX-License-Identifier: Apache-2.0 AND BSD-3-Clause
-- `write_request` meets its contract.
use mathlib.Core.Path.{refl}
use native.Mathlib.Omega.{arith}
use Rattle.driver.proofs.Laws.{request_put}
use Rattle.driver.proofs.write_request.Goals as goal

pub returns-then-bytes-lt24 : goal.returns-then-bytes-lt24
returns-then-bytes-lt24 c = record { whole = λ h. absurd (omega arith); short = λ h. (refl, refl) }

pub returns : goal.returns
returns c =
    let a = c.args in
    let t = rw c.from.ensures at c.write_u64.ensures in
    let n = rw c.from-2.ensures at c.write_u64-3.ensures in
    record {
      whole = λ h. (refl, request_put a.bytes.now a.req (omega arith) (omega arith) t c.write_u64-2.ensures n);
      short = λ h. absurd (omega arith);
    }
