-- SPDX-License-Identifier: Apache-2.0 AND BSD-3-Clause
-- Each step of a program is a step of the definition's run, so demand 3 holds wherever it stands.
use Rattle.history.specs.History.{Story, next}
use Rattle.history.specs.Reached.{Reached, from_making, by_call}
use Rattle.history.proofs.Demand3.{demand_3}
use Rattle.save.proofs.Text.{one_text}
use Rattle.linked.specs.Runs.{call_of, Held, Means}
use Rattle.linked.proofs.Steps.{in_hand_lem, one_goes}
use Rattle.linked.proofs.Linked.{is_fresh, made_decodes, at_first}
use Rattle.save_linked.specs.Programs.{Program, by_making, by_export, by_restoring, Demand3OfPrograms}
use Rattle.save_linked.proofs.Restores.{restore_is_linked}

stands : (h : Held) (s : Story) → Program h s → Means h s.world × Reached s
unfolding next
stands h s (by_making m words d makes e) = (at_first words d (made_decodes m words makes d e), from_making (is_fresh m words makes d e))
stands h s (by_export {h = before} {s = t} p u one) = let i = stands before t p in ((one_goes before t.world i.0 u one).1, by_call i.1 (call_of u))
-- a text says one state
stands h s (by_restoring {h = before} {s = t} p text words' bitmap' f bs called says) =
    let i = stands before t p in
    let l = restore_is_linked before t i.0 i.1 text words' bitmap' called in
    let o = one_text text f l.fields bs l.bs says l.says in
    (rw (o.0, o.1) l.means, rw (o.0, o.1) l.reached)

pub demand_3_of_programs : Demand3OfPrograms
demand_3_of_programs h s p =
    let i = stands h s p in
    record { means = i.0; reached = i.1; demand_3 = rw (in_hand_lem h s.world i.0) (demand_3 s i.1) }
