-- SPDX-License-Identifier: Apache-2.0 AND BSD-3-Clause
-- `runs::count_runs` meets its contract. The invariant: what is right for the text that is left is right for the whole (`Reading`).
use native.Mathlib.Omega.{arith}
use Rattle.runs.proofs.Lines.{reading_start, read_none, read_bad, read_end, read_sums, line_less, read_turn}
use Rattle.runs.proofs.count_runs.Goals as goal

pub loop-i-init : goal.loop-i-init
loop-i-init c = reading_start _ _ _

pub returns-in_err-run : goal.returns-in_err-run
returns-in_err-run c = rw c.from_residual.ensures (read_none (omega arith) c.loop-i.invariant c.loop-i-test.true c.in_err-run.ensures)

pub returns-then-not-is_ok : goal.returns-then-not-is_ok
returns-then-not-is_ok c = read_bad (omega arith) c.loop-i.invariant _ c.in_ok-run.ensures _ c.is_ok.ensures c.if-not-is_ok.true

pub overflow_add-sum : goal.overflow_add-sum
overflow_add-sum c = let k = read_sums (omega arith) c.loop-i.invariant _ c.in_ok-run.ensures _ c.is_ok.ensures c.if-not-is_ok.false in omega (arith, k.0)

pub overflow_add-from : goal.overflow_add-from
overflow_add-from c = let k = read_sums (omega arith) c.loop-i.invariant _ c.in_ok-run.ensures _ c.is_ok.ensures c.if-not-is_ok.false in omega (arith, k.1)

pub overflow_add-from-in-loop-i : goal.overflow_add-from-in-loop-i
overflow_add-from-in-loop-i c = let k = read_sums (omega arith) c.loop-i.invariant _ c.in_ok-run.ensures _ c.is_ok.ensures c.if-not-is_ok.false in omega (arith, k.1)

pub loop-i-smaller : goal.loop-i-smaller
loop-i-smaller c = line_less _ _ _ c.in_ok-run.ensures

pub loop-i-preserved : goal.loop-i-preserved
loop-i-preserved c = read_turn (omega arith) c.loop-i.invariant _ c.in_ok-run.ensures _ c.is_ok.ensures c.if-not-is_ok.false

pub returns : goal.returns
returns c = read_end (omega arith) c.loop-i.invariant c.loop-i-test.false
