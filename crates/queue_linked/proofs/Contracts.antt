-- SPDX-License-Identifier: Apache-2.0 AND BSD-3-Clause
-- The contract of each export on a queue, as its callers learn it from its proof, is the promise that a run is stated over: nothing was copied by hand.
use contract.Lifetimes.{Lfts}
use denote.Triple.Clauses.{AtExit}
use borrow.Fn.Kinds.{Dens, res_t, ended_of}
use Rattle.step.specs.Promise.{lent}
use Rattle.jambcopper.specs.Exports.{handed}
use Rattle.jambcopper.specs.Queue.{new_queue, QueueMadeIn, queue_handed}
use Rattle.jambcopper.proofs.jambcopper_queue_make.Kinds.{ps as make-ps, r as make-r}
use Rattle.jambcopper.proofs.jambcopper_queue_make.Reads.{Learnt as Make-learnt}
use Rattle.jambcopper.proofs.jambcopper_serve.Kinds.{ps as serve-ps, r as serve-r}
use Rattle.jambcopper.proofs.jambcopper_serve.Reads.{Learnt as Serve-learnt}
use Rattle.jambcopper.proofs.jambcopper_serve_answer.Kinds.{ps as answer-ps, r as answer-r}
use Rattle.jambcopper.proofs.jambcopper_serve_answer.Reads.{Learnt as Answer-learnt}
use Rattle.queue_runs.specs.Runs.{queue_step}
use Rattle.queue_linked.specs.Runs.{jambcopper_serve, jambcopper_serve_answer, call_by, OnQueue}

-- a are the arguments, in their order; e are the lent slices afterwards; z is what is returned
pub make_promises : (κs : Lfts 1) (a : Dens κs make-ps) (z : (res_t make-r κs).Denot) (e : AtExit (ended_of 1 make-ps make-r) κs) → Make-learnt κs a z e
    → QueueMadeIn a.0.now (new_queue a.1.0 a.1.1.0 a.1.1.1.0) z e.0.now
make_promises κs a z e p = p

pub serve_promises : (κs : Lfts 6) (a : Dens κs serve-ps) (z : (res_t serve-r κs).Denot) (e : AtExit (ended_of 6 serve-ps serve-r) κs) → Serve-learnt κs a z e
    → OnQueue (call_by (jambcopper_serve a.1.1.1.1.1.0))
    (queue_handed a.1.0.now (handed a.0.now a.1.1.1.1.1.1.0.now (lent a.1.1.0.now a.1.1.1.0.now a.1.1.1.1.0.now)))
    (queue_handed e.1.0.now (handed e.0.now e.1.1.1.1.1.1.0.now (lent e.1.1.0.now a.1.1.1.0.now e.1.1.1.1.0.now))) z
unfolding queue_step call_by
serve_promises κs a z e p = p

pub answer_promises : (κs : Lfts 6) (a : Dens κs answer-ps) (z : (res_t answer-r κs).Denot) (e : AtExit (ended_of 6 answer-ps answer-r) κs) → Answer-learnt κs a z e
    → OnQueue (call_by (jambcopper_serve_answer a.1.1.1.1.1.0 a.1.1.1.1.1.1.0 a.1.1.1.1.1.1.1.0))
    (queue_handed a.1.0.now (handed a.0.now a.1.1.1.1.1.1.1.1.0.now (lent a.1.1.0.now a.1.1.1.0.now a.1.1.1.1.0.now)))
    (queue_handed e.1.0.now (handed e.0.now e.1.1.1.1.1.1.1.1.0.now (lent e.1.1.0.now e.1.1.1.0.now e.1.1.1.1.0.now))) z
unfolding queue_step call_by
answer_promises κs a z e p = p
