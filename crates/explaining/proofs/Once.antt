-- SPDX-License-Identifier: Apache-2.0 AND BSD-3-Clause
-- A promise of `Explains` leaves one outcome only.
use Prim.Native.Nat.{ℕ, ◌<◌}
use mathlib.Core.Path.{◌≡◌, sym, ap, ◌∙◌}
use mathlib.Core.List.{List}
use lib.ListN.{get_or}
use Rattle.step.specs.Promise.{Lent, meant}
use Rattle.text.specs.Putting.{Put}
use Rattle.trace_text.proofs.Laws.{reads_once}
use Rattle.trace_run.specs.declared.Run.{Run}
use Rattle.trace_run.specs.declared.Shown.{Shown}
use Rattle.trace_run.specs.Run.{turn}
use Rattle.trace_run.proofs.Once.{serves_once}
use Rattle.explaining.specs.declared.Explained.{Explained}
use Rattle.explaining.specs.Explaining.{said_of, Explains}

explained_same : (r r₂ : Explained) → r.shown ≡ r₂.shown → r.said ≡ r₂.said → r ≡ r₂
explained_same r r₂ e l = ap (λ (s : Shown). explained s r.said) e ∙ ap (explained r₂.shown) l
  where
    explained : Shown → ℕ → Explained
    explained shown said = record { shown = shown; said = said }

pub explains_once : {run : Run} {s : List ℕ} {before after after₂ : Lent} {out₀ out out₂ said₀ said said₂ : List ℕ} {r r₂ : Explained}
    → ((i : ℕ) → get_or after.bitmap i 0 < 256) → ((i : ℕ) → get_or after₂.bitmap i 0 < 256)
    → Explains run s before after out₀ out said₀ said r → Explains run s before after₂ out₀ out₂ said₀ said₂ r₂
    → (r ≡ r₂) × (after ≡ after₂) × (out ≡ out₂) × (said ≡ said₂)
explains_once {run = run} {s = s} {before = before} {said₀ = said₀} {said₂ = said₂} {r = r} {r₂ = r₂} p q f g =
    let shown = serves_once p q (record { line = f.line; reads = f.reads; comes = f.comes }) (record { line = g.line; reads = g.reads; comes = g.comes }) in
    let told : Put said₀ 0 (said_of run f.line (turn run f.line (meant before))) said₂ r₂.said = rw (reads_once s g.line f.line g.reads f.reads) at g.told in
    (explained_same r r₂ shown.0 (f.told.next ∙ sym told.next), shown.1, shown.2, f.told.held ∙ sym told.held)
