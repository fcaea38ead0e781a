-- SPDX-License-Identifier: Apache-2.0 AND BSD-3-Clause
-- `trace_text::of_kind` meets its contract: the whole text is scanned, or it is not.
use mathlib.Core.Path.{sym, ◌∙◌}
use Rattle.forms.proofs.Laws.{scan_stored}
use Rattle.trace_text.specs.Reading.{kind_of}
use Rattle.trace_text.proofs.Laws.{zeros, made_same}
use Rattle.trace_text.proofs.of_kind.Goals as goal

pub returns-then-scan : goal.returns-then-scan
unfolding kind_of
returns-then-scan c =
    let o = rw c.form.ensures at c.scan.ensures in
    let e = c.if-scan.true in
    rw (sym o.answer ∙ e) (c.made.ensures ∙ made_same c.args.kind _ _ (λ i h. scan_stored o e i (zeros i h)))

pub returns : goal.returns
unfolding kind_of
returns c = rw (← c.form.ensures, sym c.scan.ensures.answer ∙ c.if-scan.false)
