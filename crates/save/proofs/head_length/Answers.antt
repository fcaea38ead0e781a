-- SPDX-License-Identifier: Apache-2.0 AND BSD-3-Clause
-- `save::head_length` meets its contract.
use mathlib.Core.Path.{refl}
use native.Mathlib.Omega.{arith}
use Rattle.save.proofs.Turns.{head_is}
use Rattle.save.proofs.head_length.Goals as goal

pub returns : goal.returns
returns c = head_is c.args.f _ refl (omega arith, (omega arith, (omega arith, (omega arith, (omega arith, tt))))) c.put_head.ensures
