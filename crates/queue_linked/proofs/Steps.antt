-- SPDX-License-Identifier: Apache-2.0 AND BSD-3-Clause
-- One exported call against one step on the queue: what is held goes on meaning where the run stands, and what the call tells is what the step tells.
use Rattle.step.specs.declared.Answer.{Answer}
use Rattle.std.specs.Prelude.{Option, Some, None, Err}
use Prim.Native.Nat.{ℕ}
use mathlib.Core.Path.{◌≡◌, refl, ap, sym, ◌∙◌}
use mathlib.Core.Bool.{Bool, true, false, cond, not}
use mathlib.Core.List.{List, [], ◌∷◌}
use lib.ListN.{length}
use Rattle.units.proofs.Tests.{by_test}
use Rattle.bitmap.specs.Blocks.{blocks}
use Rattle.rows.specs.declared.MapRow.{MapRow}
use Rattle.rows.specs.Rows.{rows_of}
use Rattle.rows.proofs.Words.{read_back}
use Rattle.little_endian.specs.Bytes.{put}
use Rattle.refusal.specs.declared.Refusal.TheVariants.{NotPlaced, NoShape}
use Rattle.record.specs.declared.Device.{Device}
use Rattle.record.specs.declared.Pending.{Pending}
use Rattle.record.specs.declared.Pending.TheVariants.{Nothing as Idle, Create, Discard, DiscardOne}
use Rattle.record.specs.Shape.{shaped_of, is_idle}
use Rattle.rings.specs.declared.Queue.{Queue}
use Rattle.step.specs.World.{World, Guest, Call, world_of}
use Rattle.words.specs.Record.{decoded_of}
use Rattle.queue.specs.Queue.{QueueOutcome, queue_ok, taking_refusal, next_unless, next_of, takes, out_refusal, answer_refusal, answers, unless_refused, queue_answer_words, queue_number_of}
use Rattle.queue_words.specs.Words.{decoded_queue_of}
use Rattle.step.specs.Promise.{Lent, guest_in}
use Rattle.jambcopper.specs.Queue.{QueueHanded, QueueTold, QueueCalled}
use Rattle.history.specs.Rules.{is_place}
use Rattle.history.proofs.Shaped.{clash}
use Rattle.linked.specs.Runs.{in_use, holding}
use Rattle.linked.proofs.Tables.{lengths_kept, with, not_ready, answer_early}
use Rattle.linked.proofs.Steps.{not_in_use}
use Rattle.queue_runs.specs.Runs.{QueueCall, TakeNext, Host, queue_step, device_calls}
use Rattle.queue_runs.specs.Rules.{AsCalls, is_placing}
use Rattle.queue_runs.proofs.Calls.{none_or_one}
use Rattle.queue_runs.proofs.Rules.{kinds}
use Rattle.queue_linked.specs.Runs.{jambcopper_serve, jambcopper_serve_answer, call_by, OnQueue, QueueHeld, LendsQueue, QueueMeans}

-- ---- a call on the queue keeps how many rows there are
rows_kept : (w : World) (calls : List Call) (o : QueueOutcome) → ((call : Call) → calls ≡ call ∷ [] → is_place call ≡ false) → AsCalls w calls o → length o.world.rows ≡ length w.rows
unfolding AsCalls
rows_kept w [] o other e = rw e
rows_kept w (call ∷ []) o other a = rw a.same_world (lengths_kept w call (other call refl)).same_rows
rows_kept w (call ∷ more ∷ calls) o other a = absurd a

same_rows : (w : World) (q : Queue) (c : QueueCall) → is_placing c ≡ false → length (queue_step w q c).world.rows ≡ length w.rows
same_rows w q c other = rows_kept w (device_calls w q c) (queue_step w q c) (λ call e. (kinds w q c call e).1 ∙ other) (none_or_one w q c)

-- ---- before placing: both outcomes tell the same, and leave the queue and their worlds as they were
record Stay (w w' : World) (o o' : QueueOutcome) : Type 0 where
  pub same_answer : o'.answer ≡ o.answer
  pub same_queue : o'.queue ≡ o.queue
  pub same_bytes : o'.bytes ≡ o.bytes
  pub stays : o.world ≡ w
  pub stays' : o'.world ≡ w'

module _ (d : Device) (bs bs' : List Bool) (rows rows' : List MapRow) (q : Queue) (unplaced : d.placed ≡ false) (idle : is_idle d.pending ≡ true) where
  abbrev here : World
  here = with d bs rows

  abbrev there : World
  there = with d bs' rows'

  -- 12 or 5, whatever tables are lent
  refused_early : (b r : ℕ) → taking_refusal d q.taken b r ≡ Err (cond (not (queue_ok q.taken d.pending)) NoShape (cond (not (shaped_of d)) NoShape NotPlaced))
  unfolding taking_refusal
  refused_early b r = by_test (queue_ok q.taken d.pending) (λ t. rw (t, not_ready d bs bs' rows rows' unplaced idle b r)) (λ t. rw t)

  next_early : (w : World) → w.device ≡ d → (g : Guest) → next_of w q g ≡ Err (cond (not (queue_ok q.taken d.pending)) NoShape (cond (not (shaped_of d)) NoShape NotPlaced))
  unfolding next_unless
  next_early w e g = rw (e, refused_early (length w.blocks) (length w.rows))

  taking_early : (g : Guest) → Stay here there (queue_step here q (TakeNext g)) (queue_step there q (TakeNext g))
  unfolding queue_step takes
  taking_early g =
      rw (next_early here refl g, next_early there refl g)
      (record { same_answer = refl; same_queue = refl; same_bytes = refl; stays = refl; stays' = refl })

  -- 12, or the device's own
  not_out : (h : ℕ) (p : Pending) → is_idle p ≡ true → queue_ok (Some h) p ≡ false
  not_out h Idle e = refl
  not_out h (Create first last) e = refl
  not_out h (Discard first count status) e = clash e refl
  not_out h (DiscardOne block status) e = clash e refl

  answering_early : (g : Guest) (ok : Bool) (host : ℕ) (t : Option ℕ) → q.taken ≡ t → Stay here there (queue_step here q (Host g ok host)) (queue_step there q (Host g ok host))
  unfolding queue_step unless_refused answer_refusal out_refusal answers
  answering_early g ok host None e =
      let y = answer_early d bs bs' rows rows' unplaced idle g ok host in
      rw e (record { same_answer = ap Some y.same_answer; same_queue = refl; same_bytes = y.same_bytes; stays = y.stays; stays' = y.stays' })
  answering_early g ok host (Some h) e =
      rw (e, not_out h d.pending idle) (record { same_answer = refl; same_queue = refl; same_bytes = refl; stays = refl; stays' = refl })

-- ---- each function on the queue
module _ (h : QueueHeld) (w : World) (q : Queue) (m : QueueMeans h w q) (b a : QueueHanded) (n : ℕ) (lends : LendsQueue h b) where
  -- the world that is lent
  abbrev lent_world : World
  lent_world = world_of w.device b.others.slices.bitmap b.others.slices.table

  -- what is told, and what is held then
  pub record Goes (c : QueueCall) : Type 0 where
    pub numbered : n ≡ queue_number_of (queue_step w q c).answer
    pub told : a.others.answer ≡ put b.others.answer 0 (queue_answer_words (queue_step w q c).answer)
    pub left : a.others.slices.bytes ≡ (queue_step w q c).bytes
    pub means : QueueMeans (record { device = holding (in_use h.device) h.device a.others; queue = a.queue }) (queue_step w q c).world (queue_step w q c).queue

  -- the promise, on the record and the queue that are held
  abbrev Kept : QueueCall → Type 0
  Kept c = QueueTold (queue_step lent_world q c) b a n

  kept : (c : Lent → QueueCall) → OnQueue c b a n → Kept (c b.others.slices)
  unfolding QueueCalled
  kept c p = rw (ap decoded_of lends.same_words ∙ m.device.decodes, ap decoded_queue_of lends.same_queue ∙ m.queue) at p

  -- on the tables that are held
  on_held : (c : QueueCall) → is_placing c ≡ false → Kept c → in_use h.device ≡ true → Goes c
  unfolding holding
  on_held c past kept-c used =
      let e : lent_world ≡ w = rw (lends.same_bitmap used, lends.same_table used, m.device.marked, m.device.mapped) in
      let lent : length (rows_of b.others.slices.table) ≡ length w.rows = ap (λ (v : World). length v.rows) e in
      let k : QueueTold (queue_step w q c) b a n = rw e at kept-c in
      record {
        numbered = k.numbered;
        told = k.told;
        left = k.leaves.left;
        means = record {
          device = rw used
              (record {
                decodes = k.decodes;
                marked = k.leaves.marked;
                mapped = ap rows_of k.leaves.mapped ∙ read_back b.others.slices.table (queue_step w q c).world.rows (same_rows w q c past ∙ sym lent);
              });
          queue = k.queue_decodes;
        };
      }

  -- before placing
  on_any : (c : QueueCall) → Kept c → in_use h.device ≡ false → Stay w lent_world (queue_step w q c) (queue_step lent_world q c) → Goes c
  unfolding holding
  on_any c k unused y =
      record {
        numbered = k.numbered ∙ ap queue_number_of y.same_answer;
        told = k.told ∙ ap (λ (t : Option Answer). put b.others.answer 0 (queue_answer_words t)) y.same_answer;
        left = k.leaves.left ∙ y.same_bytes;
        means = record {
          device = rw (unused, y.stays)
              (record {
                decodes = k.decodes ∙ ap (λ (v : World). Some v.device) y.stays';
                marked = m.device.marked;
                mapped = m.device.mapped;
              });
          queue = k.queue_decodes ∙ ap Some y.same_queue;
        };
      }

  goes : (c : QueueCall) → is_placing c ≡ false → Kept c
      → (w.device.placed ≡ false → is_idle w.device.pending ≡ true → Stay w lent_world (queue_step w q c) (queue_step lent_world q c)) → Goes c
  goes c past p early =
      by_test (in_use h.device) (λ t. on_held c past p t)
      (λ t. let idle = not_in_use h.device w m.device t in on_any c p t (early idle.0 idle.1))

  pub serve_goes : (base : ℕ) → OnQueue (call_by (jambcopper_serve base)) b a n → Goes (TakeNext (guest_in b.others.slices base))
  unfolding is_placing call_by
  serve_goes base p =
      let g = guest_in b.others.slices base in
      goes (TakeNext g) refl (kept (call_by (jambcopper_serve base)) p) (λ u i. taking_early w.device w.blocks (blocks b.others.slices.bitmap) w.rows (rows_of b.others.slices.table) q u i g)

  pub answer_goes : (base : ℕ) (ok : Bool) (host : ℕ) → OnQueue (call_by (jambcopper_serve_answer base ok host)) b a n → Goes (Host (guest_in b.others.slices base) ok host)
  unfolding is_placing call_by
  answer_goes base ok host p =
      let g = guest_in b.others.slices base in
      goes (Host g ok host) refl (kept (call_by (jambcopper_serve_answer base ok host)) p) (λ u i. answering_early w.device w.blocks (blocks b.others.slices.bitmap) w.rows (rows_of b.others.slices.table) q u i g ok host q.taken refl)
