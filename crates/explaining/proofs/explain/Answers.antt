-- SPDX-License-Identifier: Apache-2.0 AND BSD-3-Clause
-- `explaining::explain` meets its contract: the line that is served is the one that is read, and the sentence is that of its turn.
use Rattle.trace_text.proofs.Laws.{reads_once}
use Rattle.step.specs.Promise.{lent, meant}
use Rattle.trace_run.specs.Run.{turn}
use Rattle.explaining.proofs.Laws.{told}
use Rattle.explaining.proofs.explain.Goals as goal

pub returns : goal.returns
returns c =
    let a = c.args in
    let read = c.read_line-read in
    let run = c.serve-shown.ensures in
    let came = rw (reads_once a.line.now run.line read.result run.reads read.ensures) at run.comes in
    let after = rw c.no_device.ensures at c.device_in-after.ensures in
    let turns = turn a.run read.result (meant (lent a.bitmap.now a.table.now a.mem.now)) in
    record {
      line = read.result;
      reads = read.ensures;
      comes = came;
      told =
          rw (← told a.run read.result turns _ _ _ _ _ came.stands came.said came.leaves.marked after c.device_in-before.ensures)
          c.put_sentence-said.ensures;
    }
