-- SPDX-License-Identifier: Apache-2.0 AND BSD-3-Clause
-- `bitmap::put_bytes` meets its contract. The loop's invariant: the bytes before byte j are filled, and nothing else.
use Prim.Native.Nat.{◌+◌, ◌-◌, ◌*◌}
use mathlib.Core.Path.{◌≡◌}
use native.Mathlib.Omega.{arith}
use lib.ListN.{get_or}
use Rattle.bitmap.proofs.Bits.{whole-fill}
use Rattle.bitmap.proofs.Turns.{place, filled_none, filled_some, filled_then}
use Rattle.bitmap.proofs.put_bytes.Goals as goal

pub loop-j-init : goal.loop-j-init
loop-j-init c =
    let a = c.args in
    let e : 8 * (a.from - a.from) ≡ 0 = omega arith in
    rw e (filled_none a.bitmap.now (8 * a.from) a.v)

pub bounds-bitmap-j : goal.bounds-bitmap-j
bounds-bitmap-j c = omega (arith, c.loop-j.invariant.outside.same_length)

pub loop-j-preserved : goal.loop-j-preserved
loop-j-preserved c =
    let a = c.args in
    let o = c.loop-j in
    let w = c.whole_byte-byte in
    let p : place o.j 0 ≡ 8 * a.from + 8 * (o.j - a.from) = omega arith in
    let q : 8 * (o.j - a.from) + 8 ≡ 8 * (o.j + 1 - a.from) = omega arith in
    let f = filled_some o.bitmap o.j 0 8 w.result a.v (rw w.ensures (whole-fill (get_or o.bitmap o.j 0) a.v)) (omega (arith, o.invariant.outside.same_length)) (omega arith) (omega arith) in
    rw q at (filled_then o.invariant (rw p at f))

pub returns : goal.returns
returns c =
    let e : c.loop-j.j ≡ c.args.to = omega arith in
    rw e at c.loop-j.invariant
