-- SPDX-License-Identifier: Apache-2.0 AND BSD-3-Clause
-- `trace_run::answer` meets its contract: the newline is put after the answer.
use mathlib.Core.Path.{refl}
use Rattle.text.proofs.Puts.{then}
use Rattle.trace_run.proofs.answer.Goals as goal

pub returns : goal.returns
returns c = record { stands = refl; said = refl; printed = then c.put_answer-end.ensures c.put.ensures }
