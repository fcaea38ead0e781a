-- SPDX-License-Identifier: Apache-2.0 AND BSD-3-Clause
-- `write_response` meets its contract: the type as a number of eight bytes, and behind it the state, where it has a place.
use Prim.Native.Nat.{ℕ, ◌+◌, ◌/◌, ◌<◌}
use mathlib.Core.Path.{◌≡◌, sym}
use mathlib.Core.List.{List, ◌++◌}
use native.Mathlib.Omega.{arith}
use lib.ListN.{length}
use Rattle.wire.specs.declared.VirtioMemResp.{VirtioMemResp}
use Rattle.little_endian.specs.Bytes.{little_endian, put}
use Rattle.wire.specs.Layout.{response_bytes}
use Rattle.little_endian.proofs.Laws.{length-little_endian, put_append, put_past}
use Rattle.wire.proofs.write_response.Goals as goal

-- a type has two bytes, so the six above them are zeros
typed : (r : VirtioMemResp) → r.resp_type < 65536 → response_bytes r ≡ little_endian 8 r.resp_type ++ little_endian 2 r.state
unfolding response_bytes little_endian
typed r h = let z : r.resp_type / 256 / 256 ≡ 0 = omega arith in rw z

-- the state stands behind the eight bytes of the type
both : (xs : List ℕ) (at : ℕ) (r : VirtioMemResp) → r.resp_type < 65536 → {ys zs : List ℕ}
    → ys ≡ put xs at (little_endian 8 r.resp_type) → zs ≡ put ys (at + 8) (little_endian 2 r.state)
    → zs ≡ put xs at (response_bytes r)
both xs at r h e f =
    let n : length (little_endian 8 r.resp_type) ≡ 8 = length-little_endian 8 r.resp_type in
    rw (typed r h, put_append, n, ← e) f

pub returns-then-at-places : goal.returns-then-at-places
returns-then-at-places c =
    let a = c.args in
    both a.bytes.now a.at a.resp (omega arith) c.write_u64.ensures c.write_u16.ensures

pub returns-else-at-places : goal.returns-else-at-places
returns-else-at-places c =
    let a = c.args in
    both a.bytes.now a.at a.resp (omega arith) c.write_u64.ensures
    (sym (put_past c.write_u64.new.bytes (a.at + 8) (little_endian 2 a.resp.state) (omega arith)))
