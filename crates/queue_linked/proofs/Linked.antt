-- SPDX-License-Identifier: Apache-2.0 AND BSD-3-Clause
-- A run of the exported functions on a device and its queue is a run on the queue: from making on, whatever is lent besides what is held.
use Rattle.std.specs.Prelude.{Some}
use Prim.Native.Nat.{ℕ}
use mathlib.Core.Path.{◌≡◌, refl, ap, ◌∙◌}
use mathlib.Core.Bool.{true}
use mathlib.Core.List.{List, [], ◌∷◌}
use native.Mathlib.Omega.{arith}
use lib.Dec.{leb}
use lib.ListN.{length}
use borrow.Author.Tests.{leb-true}
use Rattle.units.proofs.Tests.{by_test}
use Rattle.little_endian.specs.Bytes.{put}
use Rattle.record.specs.Shape.{is_idle}
use Rattle.rings.specs.declared.Queue.{Queue}
use Rattle.step.specs.World.{World, Call}
use Rattle.step.specs.Step.{step}
use Rattle.step.specs.Answers.{answer_words, number_of}
use Rattle.queue_words.specs.Words.{queue_words, is_queue, decoded_queue_of}
use Rattle.queue_words.proofs.Laws.{encoded_decodes}
use Rattle.step.specs.Promise.{Lent}
use Rattle.jambcopper.specs.Queue.{QueueHanded}
use Rattle.history.specs.History.{begun}
use Rattle.history.specs.Reached.{from_making}
use Rattle.linked.specs.Runs.{call_by as device_call_by, Making, Makes}
use Rattle.linked.proofs.Steps.{in_hand_lem, one_goes}
use Rattle.linked.proofs.Linked.{is_fresh, made_decodes, at_first, linked}
use Rattle.queue_runs.specs.Runs.{beside_call as call_of_beside, PastIt, Writing, queue_step, QueueStory, next_story, after_all, New, opened, QueueReached, on_new_queue}
use Rattle.queue_runs.proofs.Calls.{reached_after_all}
use Rattle.queue_runs.proofs.Rules.{demand_3_on_queue}
use Rattle.queue_linked.specs.Runs.{Side, jambcopper_place, jambcopper_set_requested_size, jambcopper_read_config, jambcopper_write_config, QueueFunction, jambcopper_serve, jambcopper_serve_answer, Past}
use Rattle.queue_linked.specs.Runs.{QueueUse, function_of, use_of, beside_by, call_by, call_of, QueueHeld, OneBy, One, leaves_by, leaves_queue, Run, held_after, calls_of, QueueMaking, made_queue, QueueMakes, begins, QueueMeans, Tells, QueueLinked}
use Rattle.queue_linked.proofs.Steps.{serve_goes, answer_goes}

-- a function that goes past the queue is the same call of the device to both
same_call : (side : Side) (lent : Lent) → device_call_by (function_of side) lent ≡ call_of_beside (beside_by side lent)
unfolding device_call_by function_of call_of_beside beside_by
same_call (jambcopper_place start size slots) lent = refl
same_call (jambcopper_set_requested_size mib) lent = refl
same_call (jambcopper_read_config offset) lent = refl
same_call (jambcopper_write_config offset) lent = refl

-- ---- one call
module _ (h : QueueHeld) (w : World) (q : Queue) (m : QueueMeans h w q) where
  abbrev Next : QueueUse → Type 0
  Next u = Tells w q u × QueueMeans (leaves_queue h u) (queue_step w q (call_of u)).world (queue_step w q (call_of u)).queue

  goes_on : (f : QueueFunction) (b a : QueueHanded) (n : ℕ) → OneBy f h b a n → Next (record { function = f; before = b; after = a; number = n })
  unfolding OneBy leaves_by call_by queue_step
  goes_on (jambcopper_serve base) b a n one =
      let g = serve_goes h w q m b a n one.0 base one.1 in
      (record { numbered = g.numbered; told = g.told; left = g.left }, g.means)
  goes_on (jambcopper_serve_answer base ok host) b a n one =
      let g = answer_goes h w q m b a n one.0 base ok host one.1 in
      (record { numbered = g.numbered; told = g.told; left = g.left }, g.means)
  goes_on (Past side) b a n one =
      let g = one_goes h.device w m.device (use_of side b a n) (record { lends = one.0; promised = one.1 }) in
      let same = same_call side b.others.slices in
      let t = g.0 in (
        record {
          numbered = t.numbered ∙ ap (λ (c : Call). number_of (step w c).answer) same;
          told = t.told ∙ ap (λ (c : Call). put b.others.answer 0 (answer_words (step w c).answer)) same;
          left = t.left ∙ ap (λ (c : Call). (step w c).bytes) same;
        },
        record { device = rw same at g.1; queue = m.queue },
      )

  pub one_on : (u : QueueUse) → One h u → Next u
  one_on u one = goes_on u.function u.before u.after u.number one

-- ---- over any run
always_means : (h : QueueHeld) (s : QueueStory) (us : List QueueUse) → QueueMeans h s.world s.queue → Run h us
    → QueueMeans (held_after h us) (after_all s (calls_of us)).world (after_all s (calls_of us)).queue
unfolding Run held_after calls_of after_all next_story
always_means h s [] m run = m
always_means h s (u ∷ us) m run = always_means (leaves_queue h u) (next_story s (call_of u)) us (one_on h s.world s.queue m u run.0).1 run.1

-- ---- from making on
module _ (m : Making) (words : List ℕ) (makes : Makes m words) (k : QueueMaking) (queue : List ℕ) (queue-makes : QueueMakes k queue) where
  room : leb 6 (length k.words) ≡ true
  room =
      by_test (leb 6 (length k.words)) (λ t. t)
      (λ t. let z : 0 ≡ 12 = rw t at queue-makes.numbered in absurd (omega arith))

  queue_decodes : decoded_queue_of queue ≡ Some (made_queue k)
  unfolding is_queue queue_words
  queue_decodes =
      let is : queue ≡ put k.words 0 (queue_words (made_queue k)) = rw room at queue-makes.queued in
      ap decoded_queue_of is ∙ encoded_decodes (made_queue k) k.words refl (leb-true 6 (length k.words) room)

  pub queue_linked : QueueLinked m words k queue
  queue_linked =
      let l = linked m words makes in
      let d = l.device in
      let e = l.is_made in
      let fresh = is_fresh m words makes d e in
      let q = made_queue k in
      let new : New q = record { none_out = refl; available_first = refl; used_first = refl } in
      let s₀ = opened (begun d) q in
      let reached : QueueReached s₀ = on_new_queue (from_making fresh) (ap is_idle fresh.waits_for_nothing) new in
      let start : QueueMeans (begins words queue) s₀.world q = record { device = at_first words d (made_decodes m words makes d e); queue = queue_decodes } in
      record {
        device = d;
        is_made = e;
        means = λ us run. always_means (begins words queue) s₀ us start run;
        tells = λ us run u one.
            let s = after_all s₀ (calls_of us) in
            (one_on (held_after (begins words queue) us) s.world s.queue (always_means (begins words queue) s₀ us start run) u one).0;
        demand_3 = λ us run.
            let s = after_all s₀ (calls_of us) in
            let held = always_means (begins words queue) s₀ us start run in
            rw (in_hand_lem (held_after (begins words queue) us).device s.world held.device) (demand_3_on_queue s (reached_after_all s₀ reached (calls_of us)) (PastIt (Writing 0 [])));
      }
