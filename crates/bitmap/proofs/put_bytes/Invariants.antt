-- SPDX-License-Identifier: Apache-2.0 AND BSD-3-Clause
-- `bitmap::put_bytes` meets its contract. The loop's invariant: the bytes before byte j are filled, and nothing else.
use Prim.Native.Nat.{◌-◌, ◌*◌}
use Rattle.bitmap.specs.Blocks.{Filled}
use Rattle.bitmap.proofs.put_bytes.Given as goal

abbrev pub invariant-loop-j : goal.invariant-loop-j
invariant-loop-j l =
    Filled l.initial.bitmap l.bitmap (8 * l.from) (8 * (l.j - l.from)) l.v
