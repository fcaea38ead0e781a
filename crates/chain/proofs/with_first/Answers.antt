-- SPDX-License-Identifier: Apache-2.0 AND BSD-3-Clause
-- `chain::with_first` meets its contract: each return is the leaf of `with_first` at the tests that led there.
use Rattle.std.proofs.Common.{◌≡◌, arith, true, false}
use Rattle.descriptors.specs.Standard.{is_write_only, is_indirect}
use Rattle.chain.specs.Chain.{with_first}
use Rattle.descriptors.proofs.Laws.{place_found, place_outside}
use Rattle.chain.proofs.with_first.Goals as goal

pub returns-then-write_only : goal.returns-then-write_only
unfolding with_first
returns-then-write_only c =
    let d = c.in-Some.first in
    let i : is_indirect d ≡ false = cc in
    let w : is_write_only d ≡ true = cc in
    simp (c.in-Some.is, i, w)

pub returns-in_default-place_of : goal.returns-in_default-place_of
unfolding with_first
returns-in_default-place_of c =
    let d = c.in-Some.first in
    let i : is_indirect d ≡ false = cc in
    let w : is_write_only d ≡ false = cc in
    let l : d.len ≡ 24 = omega arith in
    simp (c.in-Some.is, i, w, l, place_outside _ _ _ _ _ c.place_of.ensures c.in_default-place_of.is)

pub returns : goal.returns
unfolding with_first
returns c =
    let d = c.in-Some.first in
    let i : is_indirect d ≡ false = cc in
    let w : is_write_only d ≡ false = cc in
    let l : d.len ≡ 24 = omega arith in
    let f = place_found _ _ _ _ _ _ c.place_of.ensures c.in-Some-place_of.is in
    simp (c.in-Some.is, i, w, l, f.lies, ← f.place, ← c.read_request-req.ensures, ← c.link_after.ensures) c.with_second.ensures
