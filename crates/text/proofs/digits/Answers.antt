-- SPDX-License-Identifier: Apache-2.0 AND BSD-3-Clause
-- `text::digits` meets its contract: what is left to read gives the whole's answer at each digit, and where none follows.
use mathlib.Core.Path.{ap, ◌∙◌}
use native.Mathlib.Omega.{arith}
use Rattle.text.specs.Reading.{answer_in}
use Rattle.text.proofs.Turns.{read_end, read_stop, read_turn, read_over}
use Rattle.text.proofs.digits.Goals as goal

pub returns-in_default : goal.returns-in_default
returns-in_default c =
    let o = c.loop-next in
    read_stop _ o.next o.value 10 c.in_default.ensures.value (omega arith) (omega arith) (omega arith) ∙ ap (answer_in _) o.invariant.1

pub returns-in_err-checked_mul : goal.returns-in_err-checked_mul
returns-in_err-checked_mul c =
    let o = c.loop-next in
    let wide = c.in_err-checked_mul.ensures in
    let d = c.in-Some.ensures in
    rw c.from_residual.ensures (read_over _ o.next o.value _ d.value (omega (arith, d.small)) (omega (arith, wide)) ∙ ap (answer_in _) o.invariant.1)

pub returns-in_err-value : goal.returns-in_err-value
returns-in_err-value c =
    let o = c.loop-next in
    let wide = c.in_err-value.ensures in
    let ten = c.in_ok-checked_mul.ensures in
    let d = c.in-Some.ensures in
    rw c.from_residual-in_err-value.ensures (read_over _ o.next o.value _ d.value (omega (arith, d.small)) (omega (arith, wide, ten.1)) ∙ ap (answer_in _) o.invariant.1)

pub loop-next-preserved : goal.loop-next-preserved
loop-next-preserved c =
    let o = c.loop-next in
    let d = c.in-Some.ensures in
    let ten = c.in_ok-checked_mul.ensures in
    let sum = c.in_ok-value.ensures in
    let turn = read_turn _ o.next o.value _ d.value (omega (arith, d.small)) in
    (omega (arith, sum.0, sum.1), cc (turn, ten.1, sum.1, o.invariant.1))

pub returns : goal.returns
returns c =
    let o = c.loop-next in
    read_end _ o.next o.value c.loop-next-test.false (omega arith) ∙ ap (answer_in _) o.invariant.1
