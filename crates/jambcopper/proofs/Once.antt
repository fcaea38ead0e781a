-- SPDX-License-Identifier: Apache-2.0 AND BSD-3-Clause
-- The promise of every export leaves one outcome, bytes included: the number, and what stands in each lent slice.
use Rattle.record.specs.declared.Device.{Device}
use Rattle.std.specs.Prelude.{Option, Some, None, Result}
use Prim.Native.Nat.{ℕ, ◌<◌}
use mathlib.Core.Path.{◌≡◌, sym, ap, ◌∙◌}
use mathlib.Core.List.{List}
use lib.ListN.{get_or}
use Rattle.step.specs.World.{Outcome, Call}
use Rattle.step.specs.Step.{step}
use Rattle.step.specs.Promise.{Lent, on, left_by}
use Rattle.step.proofs.Once.{leaves_once}
use Rattle.rings.specs.declared.Queue.{Queue}
use Rattle.queue.specs.Queue.{QueueOutcome, left_by_queue}
use Rattle.refusal.specs.declared.Refusal.{Refusal}
use Rattle.words.specs.Record.{decoded_of}
use Rattle.queue_words.specs.Words.{decoded_queue_of}
use Rattle.jambcopper.specs.Exports.{MadeIn, Handed, handed, Told, Foreign, Called, Exported}
use Rattle.jambcopper.specs.Queue.{QueueMadeIn, QueueHanded, queue_handed, QueueStep, QueueTold, QueueForeign, QueueCalled, QueueExported}

pub made_in_once : (words : List ℕ) (m : Result Device Refusal) (n n' : ℕ) (words' words'' : List ℕ) → MadeIn words m n words' → MadeIn words m n' words'' → (n ≡ n') × (words' ≡ words'')
made_in_once words m n n' words' words'' p q = (p.numbered ∙ sym q.numbered, p.recorded ∙ sym q.recorded)

-- slices that are alike one by one
same_handed : (x y : Handed) → x.words ≡ y.words → x.answer ≡ y.answer → x.slices ≡ y.slices → x ≡ y
same_handed x y p q r =
    ap (λ (l : List ℕ). handed l x.answer x.slices) p
    ∙ ap (λ (l : List ℕ). handed y.words l x.slices) q
    ∙ ap (handed y.words y.answer) r

-- the bytes of a bitmap are below 256, as its type says
module _ (entry exit exit' : Handed) (n n' : ℕ)
    (b : (i : ℕ) → get_or exit.slices.bitmap i 0 < 256) (b' : (i : ℕ) → get_or exit'.slices.bitmap i 0 < 256) where
  pub told_once : (o : Outcome) → Told o entry exit n → Told o entry exit' n' → (exit ≡ exit') × (n ≡ n')
  told_once o p q = (
    same_handed exit exit' (p.recorded ∙ sym q.recorded) (p.told ∙ sym q.told)
        (leaves_once (left_by o) entry.slices exit.slices exit'.slices b b' p.leaves q.leaves),
    p.numbered ∙ sym q.numbered,
  )

  pub foreign_once : Foreign entry exit n → Foreign entry exit' n' → (exit ≡ exit') × (n ≡ n')
  foreign_once p q = (
    same_handed exit exit' (p.recorded ∙ sym q.recorded) (p.told ∙ sym q.told) (p.untouched ∙ sym q.untouched),
    p.numbered ∙ sym q.numbered,
  )

  called_once : (r : Option Device) (call : Lent → Call) → Called r call entry exit n → Called r call entry exit' n' → (exit ≡ exit') × (n ≡ n')
  unfolding Called
  called_once (Some d) call p q = told_once (step (on d entry.slices) (call entry.slices)) p q
  called_once None call p q = foreign_once p q

  pub exported_once : (call : Lent → Call) → Exported call entry exit n → Exported call entry exit' n' → (exit ≡ exit') × (n ≡ n')
  exported_once call p q = called_once (decoded_of entry.words) call p q

-- ---- on a queue
pub queue_made_in_once : (words : List ℕ) (q : Queue) (n n' : ℕ) (words' words'' : List ℕ) → QueueMadeIn words q n words' → QueueMadeIn words q n' words'' → (n ≡ n') × (words' ≡ words'')
queue_made_in_once words q n n' words' words'' p r = (p.numbered ∙ sym r.numbered, p.queued ∙ sym r.queued)

same_queue_handed : (x y : QueueHanded) → x.queue ≡ y.queue → x.others ≡ y.others → x ≡ y
same_queue_handed x y p q =
    ap (λ (l : List ℕ). queue_handed l x.others) p ∙ ap (queue_handed y.queue) q

module _ (entry exit exit' : QueueHanded) (n n' : ℕ)
    (b : (i : ℕ) → get_or exit.others.slices.bitmap i 0 < 256) (b' : (i : ℕ) → get_or exit'.others.slices.bitmap i 0 < 256) where
  pub queue_told_once : (o : QueueOutcome) → QueueTold o entry exit n → QueueTold o entry exit' n' → (exit ≡ exit') × (n ≡ n')
  queue_told_once o p q = (
    same_queue_handed exit exit' (p.queued ∙ sym q.queued)
        (same_handed exit.others exit'.others (p.recorded ∙ sym q.recorded) (p.told ∙ sym q.told)
        (leaves_once (left_by_queue o) entry.others.slices exit.others.slices exit'.others.slices b b' p.leaves q.leaves)),
    p.numbered ∙ sym q.numbered,
  )

  pub queue_foreign_once : QueueForeign entry exit n → QueueForeign entry exit' n' → (exit ≡ exit') × (n ≡ n')
  queue_foreign_once p q =
      let others = foreign_once entry.others exit.others exit'.others n n' b b' p.others q.others in
      (same_queue_handed exit exit' (p.queued ∙ sym q.queued) others.0, others.1)

  queue_called_once : (r : Option Device) (x : Option Queue) (call : QueueStep)
      → QueueCalled r x call entry exit n → QueueCalled r x call entry exit' n' → (exit ≡ exit') × (n ≡ n')
  unfolding QueueCalled
  queue_called_once (Some d) (Some q) call p p' =
      queue_told_once (call entry.others.slices (on d entry.others.slices) q) p p'
  queue_called_once (Some d) None call p p' = queue_foreign_once p p'
  queue_called_once None x call p p' = queue_foreign_once p p'

  pub queue_exported_once : (call : QueueStep) → QueueExported call entry exit n → QueueExported call entry exit' n' → (exit ≡ exit') × (n ≡ n')
  queue_exported_once call p q =
      queue_called_once (decoded_of entry.others.words) (decoded_queue_of entry.queue) call p q
