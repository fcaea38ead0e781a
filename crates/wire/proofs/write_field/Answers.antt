-- SPDX-License-Identifier: Apache-2.0 AND BSD-3-Clause
-- `write_field` meets its contract: the lowest bytes of the eight that std makes.
use Prim.Native.Nat.{◌-◌}
use mathlib.Core.Path.{◌≡◌}
use native.Mathlib.Omega.{arith}
use lib.ListN.{length, take, drop, length-drop}
use lib.Seq.{take_all}
use Rattle.little_endian.specs.Bytes.{little_endian}
use Rattle.little_endian.proofs.Laws.{std_writes, put_rest, take-little_endian}
use Rattle.wire.proofs.write_field.Goals as goal

pub returns : goal.returns
returns c =
    let a = c.args in
    let xs = a.bytes.now in
    let at = a.field.0 in
    let all : take (length xs - at) (drop at xs) ≡ drop at xs = take_all (length xs - at) (drop at xs) (omega (arith, length-drop at xs)) in
    rw (c.copy.ensures, all, c.to_le_bytes.ensures, std_writes 8 a.v, take-little_endian a.field.1 8 a.v (omega arith)) (put_rest xs (little_endian a.field.1 a.v) at)
