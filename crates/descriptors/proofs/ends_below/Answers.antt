-- SPDX-License-Identifier: Apache-2.0 AND BSD-3-Clause
-- `descriptors::ends_below` meets its contract: no bytes end at the address, which is below 2^64; of more, the last one's address is tested.
use Prim.Native.Nat.{◌+◌, ◌-◌, ◌^◌}
use mathlib.Core.Path.{sym}
use native.Mathlib.Omega.{arith}
use borrow.Author.Tests.{le-leb}
use Rattle.units.proofs.Tests.{leb_same}
use Rattle.descriptors.proofs.ends_below.Goals as goal

pub returns-then-size-eq0 : goal.returns-then-size-eq0
returns-then-size-eq0 c = let a = c.args in sym (omega (arith, le-leb))

pub returns : goal.returns
returns c =
    let a = c.args in
    leb_same a.addr (18446744073709551615 - (a.size - 1)) (a.addr + a.size) (2 ^ 64) (λ h. omega arith) (λ h. omega arith)
