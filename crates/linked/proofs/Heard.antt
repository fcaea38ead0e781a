-- SPDX-License-Identifier: Apache-2.0 AND BSD-3-Clause
-- What a program hears is what the definition's step answers; so the events that it hears are those of the definition's run, and demand 3 holds of what it holds and has heard.
use Prim.Native.Nat.{ℕ, ◌+◌, ◌≤◌}
use mathlib.Core.Path.{◌≡◌, refl, ap, sym, ◌∙◌}
use mathlib.Core.List.{List, [], ◌∷◌, ◌++◌}
use lib.Dec.{eqb}
use lib.ListN.{length, drop}
use Rattle.units.proofs.Tests.{by_test}
use Rattle.little_endian.specs.Bytes.{put}
use Rattle.little_endian.proofs.Laws.{put_fits}
use Rattle.record.specs.declared.HostCall.TheVariants.{Create, Discard}
use Rattle.record.specs.Shape.{shaped_of}
use Rattle.step.specs.declared.Answer.{Answer}
use Rattle.step.specs.declared.Answer.TheVariants.{Refused, Wants, Sized, Unserved, Served, Done}
use Rattle.step.specs.World.{World, Call, ReadConfig, WriteConfig}
use Rattle.step.specs.Step.{step, read_config, write_config}
use Rattle.step.specs.Answers.{answer_words, refusal, response}
use Rattle.jambcopper.specs.Exports.{Handed}
use Rattle.history.specs.History.{Open, acknowledges, reports, if_ack, if_not_refused, events_of, open_after, Story, next, after, begun}
use Rattle.linked.specs.Runs.{Function, jambcopper_place, jambcopper_set_requested_size, jambcopper_request, jambcopper_host_answer, jambcopper_read_config, jambcopper_write_config}
use Rattle.linked.specs.Runs.{Use, call_by, call_of, Held, leaves, Run, calls_of, first, Means}
use Rattle.linked.specs.Heard.{answer_of, heard_by, HasRoom, AllHeard, events_heard, Demand3InHand}
use Rattle.linked.proofs.Steps.{Tells, in_hand_lem, one_goes}
use Rattle.linked.proofs.Linked.{at_first, made_decodes, linked}

-- ---- the words of an answer tell it
words_tell : (a : Answer) (rest : List ℕ) → answer_of (answer_words a ++ rest) ≡ a
unfolding answer_of
words_tell (Refused n) rest = refl
words_tell (Wants (Create guest size slot)) rest = refl
words_tell (Wants (Discard offset size host)) rest = refl
words_tell Sized rest = refl
words_tell (Unserved reason) rest = refl
words_tell (Served reply) rest = refl
words_tell Done rest = refl

nine : (a : Answer) → length (answer_words a) ≡ 9
nine (Refused n) = refl
nine (Wants (Create guest size slot)) = refl
nine (Wants (Discard offset size host)) = refl
nine Sized = refl
nine (Unserved reason) = refl
nine (Served reply) = refl
nine Done = refl

-- where nine words were lent for it
pub answer_heard : (ws : List ℕ) (a : Answer) → 9 ≤ length ws → answer_of (put ws 0 (answer_words a)) ≡ a
answer_heard ws a room =
    rw (put_fits ws 0 (answer_words a) (rw (nine a) room)) (words_tell a (drop (0 + length (answer_words a)) ws))

-- two answers of the same words are one
pub answers_tell : (a b : Answer) → answer_words a ≡ answer_words b → a ≡ b
answers_tell a b e = sym (words_tell a []) ∙ ap (λ (ws : List ℕ). answer_of (ws ++ [])) e ∙ words_tell b []

-- ---- the config's calls are no event, and leave open what is
no_event : (a : Answer) → (if_ack a [] ++ if_not_refused a []) ≡ []
unfolding response refusal
no_event (Refused n) = refl
no_event (Wants call) = refl
no_event Sized = refl
no_event (Unserved reason) = refl
no_event (Served reply) = by_test (eqb reply.response.resp_type 0) (λ t. rw t) (λ t. rw t)
no_event Done = refl

read_open : (w : World) (o : Open) (offset : ℕ) (buffer : List ℕ) → open_after w o (ReadConfig offset buffer) (step w (ReadConfig offset buffer)).answer ≡ o
unfolding open_after step read_config
read_open w o offset buffer = by_test (shaped_of w.device) (λ t. rw t) (λ t. rw t)

write_open : (w : World) (o : Open) (offset : ℕ) (buffer : List ℕ) → open_after w o (WriteConfig offset buffer) (step w (WriteConfig offset buffer)).answer ≡ o
unfolding open_after step write_config
write_open w o offset buffer = by_test (shaped_of w.device) (λ t. rw t) (λ t. rw t)

-- ---- each call: what is heard does what is answered
pub record Hears (w : World) (o : Open) (c : Call) (a : Answer) : Type 0 where
  pub same_open : open_after w o c a ≡ open_after w o c (step w c).answer
  pub same_events : events_of w o c a ≡ events_of w o c (step w c).answer

module _ (w : World) (o : Open) where
  hears_answer : (c : Call) (b a : Handed) → 9 ≤ length b.answer → a.answer ≡ put b.answer 0 (answer_words (step w c).answer) → Hears w o c (answer_of a.answer)
  hears_answer c b a room told =
      let e : answer_of a.answer ≡ (step w c).answer = ap answer_of told ∙ answer_heard b.answer (step w c).answer room in
      record { same_open = ap (open_after w o c) e; same_events = ap (events_of w o c) e }

  hears : (f : Function) (b a : Handed) (n : ℕ) → HasRoom f b → Tells w (record { function = f; before = b; after = a; number = n }) → Hears w o (call_by f b.slices) (heard_by f a)
  unfolding HasRoom heard_by call_by events_of acknowledges reports response refusal open_after
  hears (jambcopper_place start size slots) b a n room t = hears_answer _ b a room t.told
  hears (jambcopper_set_requested_size mib) b a n room t = hears_answer _ b a room t.told
  hears (jambcopper_request base descriptors head) b a n room t = hears_answer _ b a room t.told
  hears (jambcopper_host_answer base ok host) b a n room t = hears_answer _ b a room t.told
  hears (jambcopper_read_config offset) b a n room t =
      record { same_open = sym (read_open w o offset b.slices.bytes); same_events = sym (no_event (step w (ReadConfig offset b.slices.bytes)).answer) }
  hears (jambcopper_write_config offset) b a n room t =
      record { same_open = sym (write_open w o offset b.slices.bytes); same_events = sym (no_event (step w (WriteConfig offset b.slices.bytes)).answer) }

-- ---- over any run
pub events_heard_lem : (h : Held) (s : Story) (us : List Use) → Means h s.world → Run h us → AllHeard us → events_heard h s.«open» s.events us ≡ (after s (calls_of us)).events
unfolding Run AllHeard events_heard calls_of after next
events_heard_lem h s [] m run all = refl
events_heard_lem h s (u ∷ us) m run all =
    let g = one_goes h s.world m u run.0 in
    let e = hears s.world s.«open» u.function u.before u.after u.number all.0 g.0 in
    rw (in_hand_lem h s.world m, e.same_open, e.same_events) (events_heard_lem (leaves h u) (next s (call_of u)) us g.1 run.1 all.1)

pub demand_3_heard : Demand3InHand
demand_3_heard m words' makes us run all =
    let l = linked m words' makes in
    let d = l.device in
    rw (events_heard_lem (first words') (begun d) us (at_first words' d (made_decodes m words' makes d l.is_made)) run all) (l.follows.demand_3 us run)
