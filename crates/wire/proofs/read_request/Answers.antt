-- SPDX-License-Identifier: Apache-2.0 AND BSD-3-Clause
-- `read_request` meets its contract: each field stands at its place behind `at`.
use Prim.Native.Nat.{ℕ, ◌+◌}
use mathlib.Core.Path.{◌≡◌}
use mathlib.Core.List.{List}
use native.Mathlib.Omega.{arith}
use lib.ListN.{drop}
use Rattle.little_endian.specs.Bytes.{part}
use Rattle.little_endian.proofs.Laws.{part-drop}
use Rattle.wire.specs.Layout.{request_at}
use Rattle.wire.proofs.read_request.Goals as goal

-- the request at the start of what stands from `at` on
behind : (xs : List ℕ) (at : ℕ) → request_at (drop at xs) 0 ≡ request_at xs at
unfolding request_at
behind xs at =
    let t : part (drop at xs) 0 2 ≡ part xs (at + 0) 2 = part-drop xs at 0 2 in
    let a : part (drop at xs) 8 8 ≡ part xs (at + 8) 8 = part-drop xs at 8 8 in
    let n : part (drop at xs) 16 2 ≡ part xs (at + 16) 2 = part-drop xs at 16 2 in
    let z : at + 0 ≡ at = omega arith in
    cc

pub returns : goal.returns
unfolding request_at
returns c =
    let rest = c.from-rest.ensures in
    let first = c.read_u16-req_type.ensures in
    let second = c.read_u64-addr.ensures in
    let third = c.read_u16-nb_blocks.ensures in
    let a = c.args in
    let whole = behind a.bytes.now a.at in
    cc
