-- SPDX-License-Identifier: Apache-2.0 AND BSD-3-Clause
-- The contract of jambcopper_restore, as its callers learn it from its proof, is the promise that the theorems are stated over: nothing was copied by hand.
use contract.Lifetimes.{Lfts}
use denote.Triple.Clauses.{AtExit}
use borrow.Fn.Kinds.{Dens, res_t, ended_of}
use Rattle.save_words.specs.Told.{RestoreTold}
use Rattle.jambcopper.proofs.jambcopper_restore.Kinds.{ps as restore-ps, r as restore-r}
use Rattle.jambcopper.proofs.jambcopper_restore.Reads.{Learnt as Restore-learnt}

-- a are the arguments, in their order; e are the lent slices afterwards; z is what is returned
pub restore_promises : (κs : Lfts 3) (a : Dens κs restore-ps) (z : (res_t restore-r κs).Denot) (e : AtExit (ended_of 3 restore-ps restore-r) κs) → Restore-learnt κs a z e
    → RestoreTold a.1.1.0.now a.0.now e.0.now a.1.0.now e.1.0.now z
restore_promises κs a z e p = p
