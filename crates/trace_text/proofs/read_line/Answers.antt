-- SPDX-License-Identifier: Apache-2.0 AND BSD-3-Clause
-- `trace_text::read_line` meets its contract: the line is too long, or the kinds are tried in their order.
use mathlib.Core.Path.{sym, ap, ◌∙◌}
use native.Mathlib.Numerals.{add-one}
use lib.ListN.{drop, drop_of_length-le}
use Rattle.trace_text.specs.Reading.{any_of, kinds}
use Rattle.trace_text.proofs.Laws.{found_at, not_at, exact, too_long}
use Rattle.trace_text.proofs.read_line.Goals as goal

pub returns-then-s-gt-LONGEST : goal.returns-then-s-gt-LONGEST
returns-then-s-gt-LONGEST c = too_long _ c.if-s-gt-LONGEST.true

pub loop-kind-preserved : goal.loop-kind-preserved
loop-kind-preserved c =
    c.loop-kind.invariant
    ∙ not_at kinds c.loop-kind.kind-index _ _ _ c.loop-kind-test.true c.of_kind-line.ensures (sym c.is_some.ensures ∙ c.if-is_some.false)
    ∙ ap (λ i. any_of (drop i kinds) c.args.s.now) (sym (add-one _))

pub returns-then-is_some : goal.returns-then-is_some
returns-then-is_some c =
    exact _ _ c.if-s-gt-LONGEST.false
    (found_at kinds c.loop-kind.kind-index _ _ _ c.loop-kind-test.true c.of_kind-line.ensures (sym c.is_some.ensures ∙ c.if-is_some.true)
    ∙ sym c.loop-kind.invariant)

pub returns : goal.returns
unfolding any_of
returns c =
    let end = c.loop-kind-test.false in
    exact _ _ c.if-s-gt-LONGEST.false (sym (rw (drop_of_length-le kinds {i = c.loop-kind.kind-index} end) at c.loop-kind.invariant))
