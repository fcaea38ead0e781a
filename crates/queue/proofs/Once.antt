-- SPDX-License-Identifier: Apache-2.0 AND BSD-3-Clause
-- A promise of `GivesTurn` leaves one outcome, bytes included.
use Rattle.step.specs.declared.Answer.{Answer}
use Rattle.std.specs.Prelude.{Option}
use Prim.Native.Nat.{ℕ, ◌<◌}
use mathlib.Core.Path.{◌≡◌, sym, ap, ◌∙◌}
use lib.ListN.{get_or}
use Rattle.record.specs.declared.Device.{Device}
use Rattle.rings.specs.declared.Queue.{Queue}
use Rattle.step.specs.Promise.{Lent}
use Rattle.step.proofs.Once.{leaves_once}
use Rattle.queue.specs.declared.Turn.{Turn}
use Rattle.queue.specs.Queue.{QueueOutcome, turned, left_by_queue, GivesTurn}

same_turn : (s s' : Turn) → s.device ≡ s'.device → s.queue ≡ s'.queue → s.answer ≡ s'.answer → s ≡ s'
same_turn s s' p q r =
    ap (λ (d : Device). turned d s.queue s.answer) p
    ∙ ap (λ (x : Queue). turned s'.device x s.answer) q
    ∙ ap (λ (a : Option Answer). turned s'.device s'.queue a) r

-- a bitmap's bytes are below 256, as its type says
pub turn_once : (o : QueueOutcome) (before after after' : Lent) (s s' : Turn)
    → ((i : ℕ) → get_or after.bitmap i 0 < 256) → ((i : ℕ) → get_or after'.bitmap i 0 < 256)
    → GivesTurn o before after s → GivesTurn o before after' s' → (s ≡ s') × (after ≡ after')
turn_once o before after after' s s' b b' m m' = (
  same_turn s s' (m.recorded ∙ sym m'.recorded) (m.queued ∙ sym m'.queued) (m.answered ∙ sym m'.answered),
  leaves_once (left_by_queue o) before after after' b b' m.leaves m'.leaves,
)
