-- SPDX-License-Identifier: Apache-2.0 AND BSD-3-Clause
-- What a program hears in a run of the exported functions: the answer that an answer's words mean, and from the answers and from what it holds the events of demand 3. Nothing here speaks of the definition's step.
use Prim.{Unit}
use Rattle.std.specs.Prelude.{ℕ, ◌≤◌, cond, List, [], ◌∷◌, ◌++◌, eqb, length}
use Rattle.record.specs.declared.HostCall.TheVariants.{Create, Discard}
use Rattle.step.specs.declared.Answer.{Answer}
use Rattle.step.specs.declared.Answer.TheVariants.{Refused, Wants, Sized, Unserved, Done}
use Rattle.step.specs.Answers.{answer_length, served_with}
use Rattle.step.specs.Step.{verdict}
use Rattle.words.specs.Record.{word}
use Rattle.jambcopper.specs.Exports.{Handed}
use Rattle.history.specs.History.{Event, Open, NoRequest, events_of, open_after, Demand3}
use Rattle.linked.specs.Runs.{Function, jambcopper_place, jambcopper_set_requested_size, jambcopper_request, jambcopper_host_answer, jambcopper_read_config, jambcopper_write_config, Use, call_of, Held, leaves, Run, held_after, first, in_hand, Making, Makes}

-- the answer that words mean
unfoldable pub answer_of : List ℕ → Answer
answer_of ws =
    cond (eqb (word ws 0) 0) (Refused (word ws 1))
    (cond (eqb (word ws 0) 1) (Wants (Create (record { 0 = word ws 2 }) (word ws 3) (word ws 4)))
    (cond (eqb (word ws 0) 2) (Wants (Discard (record { 0 = word ws 2 }) (word ws 3) (record { 0 = word ws 4 })))
    (cond (eqb (word ws 0) 3) Sized
    (cond (eqb (word ws 0) 4) (Unserved (word ws 8))
    (cond (eqb (word ws 0) 5) (served_with (verdict (word ws 5) (word ws 6) (word ws 8)) (word ws 7)) Done)))))

-- the answer that a call has told; the config's calls tell a number alone
unfoldable pub heard_by : Function → (after : Handed) → Answer
heard_by (jambcopper_place start size slots) after = answer_of after.answer
heard_by (jambcopper_set_requested_size mib) after = answer_of after.answer
heard_by (jambcopper_request base descriptors head) after = answer_of after.answer
heard_by (jambcopper_host_answer base ok host) after = answer_of after.answer
heard_by (jambcopper_read_config offset) after = Done
heard_by (jambcopper_write_config offset) after = Done

abbrev pub heard : Use → Answer
heard u = heard_by u.function u.after

-- the call was lent words for a whole answer, if it tells one
unfoldable pub HasRoom : Function → (before : Handed) → Type 0
HasRoom (jambcopper_place start size slots) before = answer_length ≤ length before.answer
HasRoom (jambcopper_set_requested_size mib) before = answer_length ≤ length before.answer
HasRoom (jambcopper_request base descriptors head) before = answer_length ≤ length before.answer
HasRoom (jambcopper_host_answer base ok host) before = answer_length ≤ length before.answer
HasRoom (jambcopper_read_config offset) before = Unit {0}
HasRoom (jambcopper_write_config offset) before = Unit {0}

unfoldable pub AllHeard : List Use → Type 0
AllHeard [] = Unit {0}
AllHeard (u ∷ us) = HasRoom u.function u.before × AllHeard us

-- the events of a run, newest first, from what was held before each call, which request was open, the call, and the answer that was heard
unfoldable pub events_heard : Held → Open → List Event → List Use → List Event
events_heard h o es [] = es
events_heard h o es (u ∷ us) =
    events_heard (leaves h u) (open_after (in_hand h) o (call_of u) (heard u)) (events_of (in_hand h) o (call_of u) (heard u) ++ es) us

-- R18.12: demand 3 of what a program holds and has heard since making, in any run whose answers it can hear
abbrev pub Demand3InHand : Type 0
Demand3InHand = (m : Making) (words' : List ℕ) → Makes m words' → (us : List Use) → Run (first words') us → AllHeard us
    → Demand3 (in_hand (held_after (first words') us)) (events_heard (first words') NoRequest [] us)
