-- SPDX-License-Identifier: Apache-2.0 AND BSD-3-Clause
-- `text::digit` meets its contract: the byte at the position is a digit, or lies outside of them.
use mathlib.Core.Bool.{true, false}
use mathlib.Core.Path.{◌≡◌, sym, ◌∙◌}
use native.Mathlib.Omega.{arith}
use Rattle.text.specs.Reading.{is_digit}
use Rattle.text.proofs.Turns.{digit_out, digit_in}
use Rattle.text.proofs.digit.Goals as goal

pub returns-in_err-x : goal.returns-in_err-x
returns-in_err-x c = rw c.from_residual.ensures record { value = digit_out _ _ c.in_err-x.ensures.lookup.3; small = tt }

pub returns-then-not-is_ascii_digit : goal.returns-then-not-is_ascii_digit
unfolding is_digit
returns-then-not-is_ascii_digit c =
    let there = c.in_ok-x.ensures.lookup in
    let other : is_digit c.in_ok-x.field-0.now ≡ false = sym c.is_ascii_digit.ensures.value ∙ c.if-not-is_ascii_digit.true in
    record { value = digit_in _ _ _ false there.3.0 (there.4 (omega arith) 0) other; small = tt }

pub returns : goal.returns
unfolding is_digit
returns c =
    let there = c.in_ok-x.ensures.lookup in
    let same : is_digit c.in_ok-x.field-0.now ≡ true = sym c.is_ascii_digit.ensures.value ∙ c.if-not-is_ascii_digit.false in
    record { value = c.from.ensures ∙ digit_in _ _ _ true there.3.0 (there.4 (omega arith) 0) same; small = omega (arith, c.if-not-is_ascii_digit.ensures.cases) }
