-- SPDX-License-Identifier: Apache-2.0 AND BSD-3-Clause
-- `trace_run::count_slots` meets its contract.
use mathlib.Core.Path.{refl}
use native.Mathlib.Omega.{arith}
use lib.ListN.{length-set}
use Rattle.trace_run.specs.Run.{counted_from}
use Rattle.trace_run.proofs.Laws.{counted_turn, counted_end}
use Rattle.trace_run.proofs.count_slots.Goals as goal

pub loop-i-init : goal.loop-i-init
unfolding counted_from
loop-i-init c = (refl, refl)

pub loop-i-preserved : goal.loop-i-preserved
loop-i-preserved c =
    let e = c.loop-i.invariant.0 in
    let t = c.loop-i-test.true in
    (simp length-set (omega arith), counted_turn _ _ _ (omega arith) c.loop-i.invariant.1)

pub returns : goal.returns
returns c =
    let e = c.loop-i.invariant.0 in
    let t = c.loop-i-test.false in
    counted_end _ _ _ _ (omega arith) (omega arith) c.loop-i.invariant.1
