-- SPDX-License-Identifier: Apache-2.0 AND BSD-3-Clause
-- `trace_run::serve` meets its contract: the line is read, and then served where the run stands.
use mathlib.Core.Path.{refl}
use Rattle.trace_run.specs.Run.{turn}
use Rattle.trace_run.proofs.Laws.{slot_fits, ended_comes}
use Rattle.trace_run.proofs.serve.Goals as goal

pub first_line-requires : goal.first_line-requires
first_line-requires c = slot_fits _ _ c.read_line-read.ensures

pub returns-in-Before : goal.returns-in-Before
returns-in-Before c = record { line = _; reads = c.read_line-read.ensures; comes = rw c.in-Before.is c.first_line.ensures }

pub returns-in-On : goal.returns-in-On
returns-in-On c = record { line = _; reads = c.read_line-read.ensures; comes = rw c.in-On.is c.later_line.ensures }

pub returns-in-Ended : goal.returns-in-Ended
unfolding turn
returns-in-Ended c = record { line = _; reads = c.read_line-read.ensures; comes = rw c.in-Ended.is (ended_comes _ _ _ refl refl refl) }
