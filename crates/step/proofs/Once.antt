-- SPDX-License-Identifier: Apache-2.0 AND BSD-3-Clause
-- A promise of `Gives` leaves one outcome, bytes included.
use Prim.Native.Nat.{ℕ, ◌<◌}
use mathlib.Core.Path.{◌≡◌, sym, ap, ◌∙◌}
use mathlib.Core.List.{List}
use lib.ListN.{get_or}
use Rattle.bitmap.proofs.Bytes.{blocks_tell}
use Rattle.step.specs.declared.Answer.{Answer}
use Rattle.step.specs.declared.Answered.{Answered}
use Rattle.step.specs.World.{Outcome}
use Rattle.step.specs.Promise.{Lent, lent, Meant, left_by, Leaves, Gives}
use Rattle.record.specs.declared.Device.{Device}

-- an answer and a record are all of what is answered
abbrev answered : Device → Answer → Answered
answered d a = record { device = d; answer = a }

same_answered : (s s' : Answered) → s.answer ≡ s'.answer → s.device ≡ s'.device → s ≡ s'
same_answered s s' p q = ap (λ (d : Device). answered d s.answer) q ∙ ap (answered s'.device) p

-- the bitmap, the map table and the bytes that are left; a bitmap's bytes are below 256, as its type says
pub leaves_once : (o : Meant) (before after after' : Lent)
    → ((i : ℕ) → get_or after.bitmap i 0 < 256) → ((i : ℕ) → get_or after'.bitmap i 0 < 256)
    → Leaves o before after → Leaves o before after' → after ≡ after'
leaves_once o before after after' b b' m m' =
    ap (λ (bitmap : List ℕ). lent bitmap after.table after.bytes) (blocks_tell after.bitmap after'.bitmap b b' (m.marked ∙ sym m'.marked))
    ∙ ap (λ (table : List ℕ). lent after'.bitmap table after.bytes) (m.mapped ∙ sym m'.mapped)
    ∙ ap (lent after'.bitmap after'.table) (m.left ∙ sym m'.left)

-- .. and the answer with the record
pub gives_once : (o : Outcome) (before after after' : Lent) (s s' : Answered)
    → ((i : ℕ) → get_or after.bitmap i 0 < 256) → ((i : ℕ) → get_or after'.bitmap i 0 < 256)
    → Gives o before after s → Gives o before after' s' → (s ≡ s') × (after ≡ after')
gives_once o before after after' s s' b b' m m' = (
  same_answered s s' (m.answered ∙ sym m'.answered) (m.recorded ∙ sym m'.recorded),
  leaves_once (left_by o) before after after' b b' m.leaves m'.leaves,
)
