-- SPDX-License-Identifier: Apache-2.0 AND BSD-3-Clause
-- What is shown of a line grows by one byte at its end; and what a line is told to be is told of its turn.
use Rattle.std.specs.Prelude.{Option}
use Prim.Native.Nat.{ℕ, ◌+◌, ◌<◌}
use mathlib.Core.Path.{◌≡◌, refl, ap}
use mathlib.Core.Bool.{Bool}
use mathlib.Core.List.{List, [], ◌∷◌, ◌++◌}
use native.Mathlib.Numerals.{add-one}
use lib.ListN.{length, take, get_or}
use lib.Seq.{take-suc}
use Rattle.record.specs.declared.Device.{Device}
use Rattle.step.specs.declared.Answer.{Answer}
use Rattle.trace_text.specs.declared.Line.{Line}
use Rattle.trace_run.specs.declared.Run.{Run}
use Rattle.trace_run.specs.Run.{Turn}
use Rattle.sentences.specs.Sentences.{sentence}
use Rattle.explaining.specs.Explaining.{visible, visibles, no_device, device_in, said_of}

visibles_append : (xs ys : List ℕ) → visibles (xs ++ ys) ≡ visibles xs ++ visibles ys
unfolding visibles
visibles_append [] ys = refl
visibles_append (x ∷ xs) ys = ap (λ (l : List ℕ). visible x ∷ l) (visibles_append xs ys)

pub visible_more : (s : List ℕ) (i : ℕ) → i < length s → visibles (take (i + 1) s) ≡ visibles (take i s) ++ visible (get_or s i 0) ∷ []
unfolding visibles
visible_more s i h = rw (add-one, take-suc s i 0 h) (visibles_append (take i s) (get_or s i 0 ∷ []))

module _ (run : Run) (line : Option Line) (t : Turn) where
  pub told : (next : Run) (answer : Answer) (bs : List Bool) (before after : Device)
      → next ≡ t.run → answer ≡ t.answer → bs ≡ t.left.blocks → after ≡ device_in next no_device → before ≡ device_in run after
      → sentence line before after bs answer ≡ said_of run line t
  told next answer bs before after n a b f g = rw (g, f, n, a, b)
