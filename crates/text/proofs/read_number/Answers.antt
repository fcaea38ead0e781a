-- SPDX-License-Identifier: Apache-2.0 AND BSD-3-Clause
-- `text::read_number` meets its contract: by the first digit, and by the second where that is 0.
use mathlib.Core.Path.{◌∙◌}
use native.Mathlib.Omega.{arith}
use Rattle.text.proofs.Turns.{digit_inside, no_number, from_digit, more_zeros, zero_alone}
use Rattle.text.proofs.read_number.Goals as goal

pub returns-in_err-first : goal.returns-in_err-first
returns-in_err-first c = rw c.from_residual.ensures (no_number c.args.s.now c.args.at 10 c.in_err-first.ensures.value (omega arith))

pub overflow_add-next : goal.overflow_add-next
overflow_add-next c = let d = c.in_ok-first.ensures in omega (arith, digit_inside c.args.s.now c.args.at _ d.value (omega (arith, d.small)))

pub returns-then-leads : goal.returns-then-leads
returns-then-leads c =
    let d = c.in_ok-first.ensures in
    c.digits.ensures ∙ from_digit c.args.s.now c.args.at _ d.value (omega (arith, d.small)) (omega arith)

pub returns-in-Some : goal.returns-in-Some
returns-in-Some c =
    let n = c.in-Some.ensures in
    more_zeros c.args.s.now c.args.at _ c.in_ok-first.ensures.value _ n.value (omega arith) (omega (arith, n.small))

pub returns-in-None : goal.returns-in-None
returns-in-None c = zero_alone c.args.s.now c.args.at _ c.in_ok-first.ensures.value 10 c.in-None.ensures.value (omega arith) (omega arith)
