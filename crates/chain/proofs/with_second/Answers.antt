-- SPDX-License-Identifier: Apache-2.0 AND BSD-3-Clause
-- `chain::with_second` meets its contract: 26 is the leaf of `with_second` at the tests that led there.
use Rattle.std.proofs.Common.{◌≡◌, true, false, ltb}
use Rattle.descriptors.specs.Standard.{is_write_only, is_indirect}
use Rattle.chain.specs.Chain.{with_second}
use Rattle.chain.proofs.with_second.Goals as goal

pub returns-then-short : goal.returns-then-short
unfolding with_second
returns-then-short c =
    let d = c.in-Some.second in
    let i : is_indirect d ≡ false = cc in
    let w : is_write_only d ≡ true = cc in
    let l : ltb d.len 10 ≡ true = cc in
    simp (c.in-Some.is, i, w, l)
