-- SPDX-License-Identifier: Apache-2.0 AND BSD-3-Clause
-- The invariant of the loop of `trace_text::read_line`: the text is of none of the kinds that were tried.
use mathlib.Core.Path.{◌≡◌}
use lib.ListN.{drop}
use Rattle.trace_text.specs.Reading.{any_of, kinds}
use Rattle.trace_text.proofs.read_line.Given as goal

abbrev pub invariant-loop-kind : goal.invariant-loop-kind
invariant-loop-kind l = any_of kinds l.s ≡ any_of (drop l.kind-index kinds) l.s
