-- SPDX-License-Identifier: Apache-2.0 AND BSD-3-Clause
-- `text::digits` meets its contract. The invariant: what is left to read gives the whole's answer, and the value is within the limit.
use Prim.Native.Nat.{◌≤◌}
use mathlib.Core.Path.{◌≡◌}
use lib.ListN.{drop}
use Rattle.text.specs.Decimal.{largest}
use Rattle.text.specs.Reading.{more, bounded}
use Rattle.text.proofs.digits.Given as goal

abbrev pub invariant-loop-next : goal.invariant-loop-next
invariant-loop-next l =
    (l.value ≤ largest) × (bounded (more l.value (drop l.next l.s)) ≡ bounded (more l.first (drop l.from l.s)))
