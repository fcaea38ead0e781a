-- SPDX-License-Identifier: Apache-2.0 AND BSD-3-Clause
-- `forms::put_form_at` meets its contract. The invariant: the text put so far, with what is left of the form filled, is the whole (`Puts`).
use Rattle.forms.proofs.Turns.{Puts}
use Rattle.forms.proofs.put_form_at.Given as goal

abbrev pub invariant-loop-b : goal.invariant-loop-b
invariant-loop-b l = Puts l.initial.out l.at l.form l.values l.out l.to l.b-index l.k
