-- SPDX-License-Identifier: Apache-2.0 AND BSD-3-Clause
-- A refused export on a queue changes nothing: whatever is lent to it, in a run or not, a number other than 0 and 10 means that every lent word and byte but the answer's is as it was.
use Rattle.std.specs.Prelude.{ℕ, ◌≡◌, true}
use Rattle.jambcopper.specs.Queue.{QueueHanded}
use Rattle.linked.specs.Refused.{AreBytes}
use Rattle.step.specs.Promise.{Lent}
use Rattle.queue_runs.specs.Runs.{QueueCall, lent_to}
use Rattle.queue_runs.specs.Standard.{on_guest}
use Rattle.queue_linked.specs.Runs.{OnQueue}

pub record QueueUntouched (b a : QueueHanded) : Type 0 where
  pub same_words : a.others.words ≡ b.others.words
  pub same_queue : a.queue ≡ b.queue
  pub same_bitmap : a.others.slices.bitmap ≡ b.others.slices.bitmap
  pub same_table : a.others.slices.table ≡ b.others.slices.table
  pub same_bytes : a.others.slices.bytes ≡ b.others.slices.bytes

-- jambcopper_serve and jambcopper_serve_answer, on the guest memory that they are lent
abbrev pub RefusedQueueExportChangesNothing : Type 0
RefusedQueueExportChangesNothing = (c : Lent → QueueCall) (b a : QueueHanded) (n : ℕ) → on_guest (c b.others.slices) ≡ true → (lent_to (c b.others.slices)).mem ≡ b.others.slices.bytes → AreBytes b.others.slices.bitmap → AreBytes a.others.slices.bitmap
    → OnQueue c b a n → (n ≡ 0 → ⊥) → (n ≡ 10 → ⊥) → QueueUntouched b a
