-- SPDX-License-Identifier: Apache-2.0 AND BSD-3-Clause
-- The contract of each function of `jambcopper`, as its callers learn it from its proof, is the promise that a run is stated over: nothing was copied by hand. `bin/exports` holds the exports to the same contracts.
use mathlib.Core.List.{[]}
use contract.Lifetimes.{Lfts}
use denote.Triple.Clauses.{AtExit}
use borrow.Fn.Kinds.{Dens, res_t, ended_of}
use Rattle.making.specs.Made.{made}
use Rattle.step.specs.Promise.{lent}
use Rattle.jambcopper.specs.Exports.{node_of, MadeIn, handed}
use Rattle.jambcopper.proofs.jambcopper_make.Kinds.{ps as make-ps, r as make-r}
use Rattle.jambcopper.proofs.jambcopper_make.Reads.{Learnt as Make-learnt}
use Rattle.jambcopper.proofs.jambcopper_place.Kinds.{ps as place-ps, r as place-r}
use Rattle.jambcopper.proofs.jambcopper_place.Reads.{Learnt as Place-learnt}
use Rattle.jambcopper.proofs.jambcopper_set_requested_size.Kinds.{ps as size-ps, r as size-r}
use Rattle.jambcopper.proofs.jambcopper_set_requested_size.Reads.{Learnt as Size-learnt}
use Rattle.jambcopper.proofs.jambcopper_request.Kinds.{ps as request-ps, r as request-r}
use Rattle.jambcopper.proofs.jambcopper_request.Reads.{Learnt as Request-learnt}
use Rattle.jambcopper.proofs.jambcopper_host_answer.Kinds.{ps as answer-ps, r as answer-r}
use Rattle.jambcopper.proofs.jambcopper_host_answer.Reads.{Learnt as Answer-learnt}
use Rattle.jambcopper.proofs.jambcopper_read_config.Kinds.{ps as read-ps, r as read-r}
use Rattle.jambcopper.proofs.jambcopper_read_config.Reads.{Learnt as Read-learnt}
use Rattle.jambcopper.proofs.jambcopper_write_config.Kinds.{ps as write-ps, r as write-r}
use Rattle.jambcopper.proofs.jambcopper_write_config.Reads.{Learnt as Write-learnt}
use Rattle.linked.specs.Runs.{jambcopper_place, jambcopper_set_requested_size, jambcopper_request, jambcopper_host_answer, jambcopper_read_config, jambcopper_write_config, call_by, Promised}

-- a are the arguments, in their order; e are the lent slices afterwards; z is what is returned
pub make_promises : (κs : Lfts 1) (a : Dens κs make-ps) (z : (res_t make-r κs).Denot) (e : AtExit (ended_of 1 make-ps make-r) κs) → Make-learnt κs a z e
    → MadeIn a.0.now (made a.1.0 a.1.1.0 a.1.1.1.0 (node_of a.1.1.1.1.0 a.1.1.1.1.1.0) a.1.1.1.1.1.1.0) z e.0.now
make_promises κs a z e p = p

pub place_promises : (κs : Lfts 5) (a : Dens κs place-ps) (z : (res_t place-r κs).Denot) (e : AtExit (ended_of 5 place-ps place-r) κs) → Place-learnt κs a z e
    → Promised
    (record {
      function = jambcopper_place a.1.1.1.0 a.1.1.1.1.0 a.1.1.1.1.1.0.now;
      before = handed a.0.now a.1.1.1.1.1.1.0.now (lent a.1.0.now a.1.1.0.now []);
      after = handed e.0.now e.1.1.1.1.1.1.0.now (lent e.1.0.now e.1.1.0.now []);
      number = z;
    })
unfolding call_by
place_promises κs a z e p = p

pub size_promises : (κs : Lfts 4) (a : Dens κs size-ps) (z : (res_t size-r κs).Denot) (e : AtExit (ended_of 4 size-ps size-r) κs) → Size-learnt κs a z e
    → Promised
    (record {
      function = jambcopper_set_requested_size a.1.1.1.0;
      before = handed a.0.now a.1.1.1.1.0.now (lent a.1.0.now a.1.1.0.now []);
      after = handed e.0.now e.1.1.1.1.0.now (lent a.1.0.now a.1.1.0.now []);
      number = z;
    })
unfolding call_by
size_promises κs a z e p = p

pub request_promises : (κs : Lfts 5) (a : Dens κs request-ps) (z : (res_t request-r κs).Denot) (e : AtExit (ended_of 5 request-ps request-r) κs) → Request-learnt κs a z e
    → Promised
    (record {
      function = jambcopper_request a.1.1.1.1.0 a.1.1.1.1.1.0 a.1.1.1.1.1.1.0;
      before = handed a.0.now a.1.1.1.1.1.1.1.0.now (lent a.1.0.now a.1.1.0.now a.1.1.1.0.now);
      after = handed e.0.now e.1.1.1.1.1.1.1.0.now (lent e.1.0.now a.1.1.0.now e.1.1.1.0.now);
      number = z;
    })
unfolding call_by
request_promises κs a z e p = p

pub answer_promises : (κs : Lfts 5) (a : Dens κs answer-ps) (z : (res_t answer-r κs).Denot) (e : AtExit (ended_of 5 answer-ps answer-r) κs) → Answer-learnt κs a z e
    → Promised
    (record {
      function = jambcopper_host_answer a.1.1.1.1.0 a.1.1.1.1.1.0 a.1.1.1.1.1.1.0;
      before = handed a.0.now a.1.1.1.1.1.1.1.0.now (lent a.1.0.now a.1.1.0.now a.1.1.1.0.now);
      after = handed e.0.now e.1.1.1.1.1.1.1.0.now (lent e.1.0.now e.1.1.0.now e.1.1.1.0.now);
      number = z;
    })
unfolding call_by
answer_promises κs a z e p = p

-- the config's calls: no tables and no answer slice
pub read_promises : (κs : Lfts 2) (a : Dens κs read-ps) (z : (res_t read-r κs).Denot) (e : AtExit (ended_of 2 read-ps read-r) κs) → Read-learnt κs a z e
    → Promised
    (record {
      function = jambcopper_read_config a.1.0;
      before = handed a.0.now [] (lent [] [] a.1.1.0.now);
      after = handed a.0.now [] (lent [] [] e.1.1.0.now);
      number = z;
    })
unfolding call_by
read_promises κs a z e p = p

pub write_promises : (κs : Lfts 2) (a : Dens κs write-ps) (z : (res_t write-r κs).Denot) (e : AtExit (ended_of 2 write-ps write-r) κs) → Write-learnt κs a z e
    → Promised
    (record {
      function = jambcopper_write_config a.1.0;
      before = handed a.0.now [] (lent [] [] a.1.1.0.now);
      after = handed a.0.now [] (lent [] [] a.1.1.0.now);
      number = z;
    })
unfolding call_by
write_promises κs a z e p = p
