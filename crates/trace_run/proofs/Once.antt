-- SPDX-License-Identifier: Apache-2.0 AND BSD-3-Clause
-- A promise of `Serves` leaves one outcome only.
use Prim.Native.Nat.{ℕ, ◌<◌}
use mathlib.Core.Path.{◌≡◌, sym, ap, ◌∙◌}
use mathlib.Core.List.{List}
use lib.ListN.{get_or}
use Rattle.step.specs.declared.Answer.{Answer}
use Rattle.step.specs.Promise.{Lent}
use Rattle.step.proofs.Once.{leaves_once}
use Rattle.trace_text.proofs.Laws.{reads_once}
use Rattle.trace_run.specs.declared.Run.{Run}
use Rattle.trace_run.specs.declared.Shown.{Shown}
use Rattle.trace_run.specs.Run.{Turn, Comes, Serves}

shown_same : (r r₂ : Shown) → r.run ≡ r₂.run → r.answer ≡ r₂.answer → r.length ≡ r₂.length → r ≡ r₂
shown_same r r₂ e a l =
    ap (λ (run : Run). shown run r.answer r.length) e ∙ ap (λ (answer : Answer). shown r₂.run answer r.length) a
    ∙ ap (shown r₂.run r₂.answer) l
  where
    shown : Run → Answer → ℕ → Shown
    shown run answer length = record { run = run; answer = answer; length = length }

module _ {before after after₂ : Lent} {out₀ out out₂ : List ℕ} {r r₂ : Shown}
    (p : (i : ℕ) → get_or after.bitmap i 0 < 256) (q : (i : ℕ) → get_or after₂.bitmap i 0 < 256) where
  comes_once : (t : Turn) → Comes t before after out₀ out r → Comes t before after₂ out₀ out₂ r₂
      → (r ≡ r₂) × (after ≡ after₂) × (out ≡ out₂)
  comes_once t f g = (
    shown_same r r₂ (f.stands ∙ sym g.stands) (f.said ∙ sym g.said) (f.printed.next ∙ sym g.printed.next),
    leaves_once t.left before after after₂ p q f.leaves g.leaves,
    f.printed.held ∙ sym g.printed.held,
  )

  pub serves_once : {run : Run} {s : List ℕ} → Serves run s before after out₀ out r → Serves run s before after₂ out₀ out₂ r₂
      → (r ≡ r₂) × (after ≡ after₂) × (out ≡ out₂)
  serves_once {s = s} f g = comes_once _ f.comes (rw (reads_once s g.line f.line g.reads f.reads) at g.comes)
