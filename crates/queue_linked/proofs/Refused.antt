-- SPDX-License-Identifier: Apache-2.0 AND BSD-3-Clause
-- A refused export on a queue changes nothing: the definition's refused call does not, and an export leaves what the definition's call leaves.
use Rattle.record.specs.declared.Device.{Device}
use Rattle.step.specs.declared.Answer.{Answer}
use Rattle.std.specs.Prelude.{Option, Some, None}
use Prim.Native.Nat.{ℕ}
use mathlib.Core.Path.{◌≡◌, refl, ap, ◌∙◌}
use mathlib.Core.Bool.{true}
use Rattle.bitmap.proofs.Bytes.{blocks_tell}
use Rattle.rows.specs.Rows.{written}
use Rattle.rows.proofs.Words.{whole}
use Rattle.rings.specs.declared.Queue.{Queue}
use Rattle.step.specs.declared.Answer.TheVariants.{Refused}
use Rattle.step.specs.World.{World, world_of}
use Rattle.step.specs.Promise.{Lent}
use Rattle.words.specs.Record.{words_of, decoded_of}
use Rattle.words.proofs.Laws.{decoded_encodes}
use Rattle.little_endian.specs.Bytes.{put}
use Rattle.queue.specs.Queue.{queue_number_of}
use Rattle.queue_words.specs.Words.{queue_words, decoded_queue_of}
use Rattle.queue_words.proofs.Laws.{decoded_encodes as queue-encodes}
use Rattle.jambcopper.specs.Queue.{QueueHanded, QueueForeign, QueueCalled}
use Rattle.history.proofs.Shaped.{clash}
use Rattle.linked.proofs.Refused.{refused_with}
use Rattle.queue_runs.specs.Runs.{QueueCall, TakeNext, Host, PastIt, queue_step, lent_to}
use Rattle.queue_runs.specs.Heads.{bytes_to}
use Rattle.queue_runs.specs.Standard.{on_guest}
use Rattle.queue_runs.proofs.Refused.{refused_takes_none, refused_moves_nothing}
use Rattle.queue_linked.specs.Refused.{QueueUntouched, RefusedQueueExportChangesNothing}

refused_of : (t : Option Answer) → (queue_number_of t ≡ 0 → ⊥) → t ≡ Some (Refused (queue_number_of t))
refused_of None h = absurd (h refl)
refused_of (Some a) h = ap Some (refused_with a h)

guest_bytes : (c : QueueCall) → on_guest c ≡ true → bytes_to c ≡ (lent_to c).mem
unfolding on_guest bytes_to lent_to
guest_bytes (TakeNext g) e = refl
guest_bytes (Host g ok host) e = refl
guest_bytes (PastIt b) e = clash e refl

foreign : (b a : QueueHanded) (n : ℕ) → QueueForeign b a n → QueueUntouched b a
foreign b a n f =
    record {
      same_words = f.others.recorded;
      same_queue = f.queued;
      same_bitmap = ap (λ (l : Lent). l.bitmap) f.others.untouched;
      same_table = ap (λ (l : Lent). l.table) f.others.untouched;
      same_bytes = ap (λ (l : Lent). l.bytes) f.others.untouched;
    }

pub refused_queue_export_changes_nothing : RefusedQueueExportChangesNothing
unfolding QueueCalled
refused_queue_export_changes_nothing c b a n guest lends low low' p refused not-10 = go (decoded_of b.others.words) (decoded_queue_of b.queue) refl refl p
  where
    go : (r : Option Device) (s : Option Queue) → decoded_of b.others.words ≡ r → decoded_queue_of b.queue ≡ s
        → QueueCalled r s (λ l w q. queue_step w q (c l)) b a n → QueueUntouched b a
    go (Some d) (Some q) is queue-is t =
        let w = world_of d b.others.slices.bitmap b.others.slices.table in
        let call = c b.others.slices in
        let o = queue_step w q call in
        let is-refused = refused_of o.answer (λ e. refused (t.numbered ∙ e)) in
        let same = refused_moves_nothing w q call (queue_number_of o.answer) is-refused (λ e. not-10 (t.numbered ∙ e)) in
        let none = refused_takes_none w q call (queue_number_of o.answer) is-refused in
        record {
          same_words = t.recorded ∙ ap (λ (v : World). put b.others.words 0 (words_of v.device)) same ∙ decoded_encodes b.others.words d is;
          same_queue = t.queued ∙ ap (λ (x : Queue). put b.queue 0 (queue_words x)) none.0.same_queue ∙ queue-encodes b.queue q queue-is;
          same_bitmap = blocks_tell a.others.slices.bitmap b.others.slices.bitmap low' low (t.leaves.marked ∙ ap (λ (v : World). v.blocks) same);
          same_table = t.leaves.mapped ∙ ap (λ (v : World). written b.others.slices.table v.rows) same ∙ whole b.others.slices.table;
          same_bytes = t.leaves.left ∙ none.1 ∙ guest_bytes call guest ∙ lends;
        }
    go (Some d) None is queue-is t = foreign b a n t
    go None s is queue-is t = foreign b a n t
