-- SPDX-License-Identifier: Apache-2.0 AND BSD-3-Clause
-- One exported call against one step of the definition: what is held goes on meaning the world of the run, and what the call tells is what the step answers.
use Rattle.std.specs.Prelude.{Some}
use Prim.Native.Nat.{ℕ}
use mathlib.Core.Path.{◌≡◌, refl, ap, ◌∙◌}
use mathlib.Core.Bool.{Bool, true, false, not, ◌||◌}
use lib.Dec.{eqb}
use lib.ListN.{length}
use Rattle.units.proofs.Tests.{by_test}
use Rattle.bitmap.specs.Blocks.{blocks}
use Rattle.rows.specs.Rows.{rows_of}
use Rattle.rows.proofs.Words.{read_back}
use Rattle.little_endian.specs.Bytes.{put}
use Rattle.record.specs.Shape.{is_idle}
use Rattle.step.specs.declared.Answer.{Answer}
use Rattle.step.specs.World.{World, Outcome, world_of}
use Rattle.step.specs.Step.{step}
use Rattle.words.specs.Record.{decoded_of}
use Rattle.words.proofs.Laws.{decoded_fits}
use Rattle.step.specs.Answers.{answer_words, number_of}
use Rattle.jambcopper.specs.Exports.{Handed, Told as Kept, Called}
use Rattle.history.specs.Rules.{is_place}
use Rattle.history.proofs.Shaped.{clash}
use Rattle.linked.specs.Runs.{Function, jambcopper_place, jambcopper_set_requested_size, jambcopper_request, jambcopper_host_answer, jambcopper_read_config, jambcopper_write_config}
use Rattle.linked.specs.Runs.{Use, call_by, call_of, Held, in_use, on_tables, new_tables, holding, leaves, One, Means, in_hand}
use Rattle.linked.proofs.Tables.{lengths_kept, Stay, read_stays, write_stays, size_early, request_early, answer_early, places_alike}

-- the call has told what the definition's step answers in this world: its number, the answer's words, and the bytes
pub record Tells (w : World) (u : Use) : Type 0 where
  pub numbered : u.number ≡ number_of (step w (call_of u)).answer
  pub told : u.after.answer ≡ put u.before.answer 0 (answer_words (step w (call_of u)).answer)
  pub left : u.after.slices.bytes ≡ (step w (call_of u)).bytes

-- the world in hand is the world that what is held means
pub in_hand_lem : (h : Held) (w : World) → Means h w → in_hand h ≡ w
in_hand_lem h w m = rw ((decoded_fits h.words w.device m.decodes).1, m.marked, m.mapped)

-- where the tables are not in use, the device is not placed and waits for nothing
pub not_in_use : (h : Held) (w : World) → Means h w → in_use h ≡ false → (w.device.placed ≡ false) × (is_idle w.device.pending ≡ true)
unfolding in_use
not_in_use h w m e =
    let same = (decoded_fits h.words w.device m.decodes).1 in
    neither w.device.placed (is_idle w.device.pending) (rw same at e)
  where
    neither : (a b : Bool) → (a || not b) ≡ false → (a ≡ false) × (b ≡ true)
    neither false true e = (refl, refl)
    neither false false e = clash refl e
    neither true b e = clash refl e

-- ---- what a call leaves
-- its tables are held now, where it left as many rows as it was lent
pub now_held : (h : Held) (o : Outcome) (b a : Handed) (n : ℕ) → Kept o b a n → length o.world.rows ≡ length (rows_of b.slices.table) → Means (holding true h a) o.world
unfolding holding
now_held h o b a n k l =
    record { decodes = k.decodes; marked = k.leaves.marked; mapped = ap rows_of k.leaves.mapped ∙ read_back b.slices.table o.world.rows l }

-- the tables that were held are held still, where the world stays
pub still_held : (h : Held) (w v : World) (a : Handed) → Means h w → v ≡ w → decoded_of a.words ≡ Some w.device → Means (holding false h a) v
unfolding holding
still_held h w v a m e d = rw e (record { decodes = d; marked = m.marked; mapped = m.mapped })

-- what is told, where another step answers the same
pub told_alike : (w : World) (u : Use) (o : Outcome) → Kept o u.before u.after u.number → o.answer ≡ (step w (call_of u)).answer → o.bytes ≡ (step w (call_of u)).bytes → Tells w u
told_alike w u o k p q =
    record {
      numbered = k.numbered ∙ ap number_of p;
      told = k.told ∙ ap (λ (a : Answer). put u.before.answer 0 (answer_words a)) p;
      left = k.leaves.left ∙ q;
    }

-- ---- each function
module _ (h : Held) (w : World) (m : Means h w) where
  abbrev Goes : Use → Type 0
  Goes u = Tells w u × Means (leaves h u) (step w (call_of u)).world

  -- the promise, on the record that is held
  pub kept : (u : Use) → One h u → Kept (step (world_of w.device u.before.slices.bitmap u.before.slices.table) (call_of u)) u.before u.after u.number
  unfolding Called
  kept u one = rw (ap decoded_of one.lends.same_words ∙ m.decodes) at one.promised

  -- the world that is lent is the world of the run, where the tables are those held
  lent_world : (u : Use) → u.before.slices.bitmap ≡ h.bitmap → u.before.slices.table ≡ h.table → world_of w.device u.before.slices.bitmap u.before.slices.table ≡ w
  lent_world u p q = rw (p, q, m.marked, m.mapped)

  -- a call on the tables that are held
  on_held : (u : Use) → One h u → is_place (call_of u) ≡ false → u.before.slices.bitmap ≡ h.bitmap → u.before.slices.table ≡ h.table
      → Tells w u × Means (holding true h u.after) (step w (call_of u)).world
  on_held u one np p q =
      let v = world_of w.device u.before.slices.bitmap u.before.slices.table in
      let k = kept u one in
      let e : v ≡ w = lent_world u p q in (
        told_alike w u (step v (call_of u)) k (ap (λ (x : World). (step x (call_of u)).answer) e) (ap (λ (x : World). (step x (call_of u)).bytes) e),
        rw (ap (λ (x : World). (step x (call_of u)).world) e) at (now_held h (step v (call_of u)) _ _ _ k (lengths_kept v (call_of u) np).same_rows),
      )

  -- a call that leaves every world as it is, whatever tables are lent
  on_any : (u : Use) → One h u → Stay w (world_of w.device u.before.slices.bitmap u.before.slices.table) (step w (call_of u)) (step (world_of w.device u.before.slices.bitmap u.before.slices.table) (call_of u))
      → Tells w u × Means (holding false h u.after) (step w (call_of u)).world
  on_any u one y =
      let k = kept u one in (
        told_alike w u _ k y.same_answer y.same_bytes,
        still_held h w _ u.after m y.stays (k.decodes ∙ ap (λ (x : World). Some x.device) y.stays'),
      )

  -- the tables that are held, while they are in use; any otherwise
  by_use : (u : Use) → One h u → is_place (call_of u) ≡ false → on_tables u.function ≡ true → new_tables u.function (in_use h) u.number ≡ in_use h
      → (w.device.placed ≡ false → is_idle w.device.pending ≡ true → Stay w (world_of w.device u.before.slices.bitmap u.before.slices.table) (step w (call_of u)) (step (world_of w.device u.before.slices.bitmap u.before.slices.table) (call_of u)))
      → Goes u
  by_use u one np on new early =
      by_test (in_use h)
      (λ t. let r = on_held u one np (one.lends.same_bitmap on t) (one.lends.same_table on t) in (r.0, rw (new ∙ t) r.1))
      (λ t. let idle = not_in_use h w m t in let r = on_any u one (early idle.0 idle.1) in (r.0, rw (new ∙ t) r.1))

  goes : (f : Function) (b a : Handed) (n : ℕ) → One h (record { function = f; before = b; after = a; number = n }) → Goes (record { function = f; before = b; after = a; number = n })
  unfolding call_by on_tables new_tables is_place
  goes (jambcopper_place start size slots) b a n one =
      let u : Use = record { function = jambcopper_place start size slots; before = b; after = a; number = n } in
      let k = kept u one in
      let y = places_alike w.device w.blocks (blocks b.slices.bitmap) w.rows (rows_of b.slices.table) start size slots (blocks b.slices.bitmap) (rows_of b.slices.table) in
      let tells = told_alike w u _ k y.same_answer y.same_bytes in
      by_test (eqb n 0)
      (λ t.
      let r = y.takes (rw tells.numbered at t) in
      (tells, rw t (rw r.0 at (now_held h _ b a n k (rw r.0 r.1)))))
      (λ t.
      let r = y.refuses (rw tells.numbered at t) in
      (tells, rw t (still_held h w _ a m r.0 (k.decodes ∙ ap (λ (x : World). Some x.device) r.1))))
  goes (jambcopper_set_requested_size mib) b a n one =
      by_use _ one refl refl refl (λ p i. size_early w.device w.blocks (blocks b.slices.bitmap) w.rows (rows_of b.slices.table) p i mib)
  goes (jambcopper_request base descriptors head) b a n one =
      by_use _ one refl refl refl (λ p i. request_early w.device w.blocks (blocks b.slices.bitmap) w.rows (rows_of b.slices.table) p i _ descriptors head)
  goes (jambcopper_host_answer base ok host) b a n one =
      by_use _ one refl refl refl (λ p i. answer_early w.device w.blocks (blocks b.slices.bitmap) w.rows (rows_of b.slices.table) p i _ ok host)
  goes (jambcopper_read_config offset) b a n one =
      on_any _ one (read_stays w.device w.blocks (blocks b.slices.bitmap) w.rows (rows_of b.slices.table) offset b.slices.bytes)
  goes (jambcopper_write_config offset) b a n one =
      on_any _ one (write_stays w.device w.blocks (blocks b.slices.bitmap) w.rows (rows_of b.slices.table) offset b.slices.bytes)

  pub one_goes : (u : Use) → One h u → Tells w u × Means (leaves h u) (step w (call_of u)).world
  one_goes u one = goes u.function u.before u.after u.number one
