-- SPDX-License-Identifier: Apache-2.0 AND BSD-3-Clause
-- `forms::scan_at` meets its contract. The invariant: with the values so far, what is left to scan gives the whole's answer (`Left`).
use lib.ListN.{drop}
use Rattle.forms.specs.Scanning.{scan_of}
use Rattle.forms.proofs.Turns.{Left}
use Rattle.forms.proofs.scan_at.Given as goal

abbrev pub invariant-loop-t : goal.invariant-loop-t
invariant-loop-t l = Left (scan_of l.form (drop l.at l.s)) l.initial.values l.s l.form l.values l.i l.t-index l.k
