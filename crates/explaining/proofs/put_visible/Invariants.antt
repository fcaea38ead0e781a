-- SPDX-License-Identifier: Apache-2.0 AND BSD-3-Clause
-- The invariant of the loop of `explaining::put_visible`: the first bytes, as many as there were turns, are put.
use lib.ListN.{take}
use Rattle.text.specs.Putting.{Put}
use Rattle.explaining.specs.Explaining.{visibles}
use Rattle.explaining.proofs.put_visible.Given as goal

abbrev pub invariant-loop-x : goal.invariant-loop-x
invariant-loop-x l = Put l.initial.out l.at (visibles (take l.x-index l.first)) l.out l.to
