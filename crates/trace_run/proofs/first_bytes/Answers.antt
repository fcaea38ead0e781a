-- SPDX-License-Identifier: Apache-2.0 AND BSD-3-Clause
-- `trace_run::first_bytes` meets its contract.
use mathlib.Core.Path.{sym}
use native.Mathlib.Omega.{arith}
use lib.Seq.{take_all, length-take-le}
use Rattle.trace_run.proofs.first_bytes.Goals as goal

pub slice_bounds-result-end : goal.slice_bounds-result-end
slice_bounds-result-end c = sym (length-take-le _ _ (omega arith))

pub returns : goal.returns
returns c = sym (take_all _ _ c.if-count-s.false)
