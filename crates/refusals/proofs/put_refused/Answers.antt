-- SPDX-License-Identifier: Apache-2.0 AND BSD-3-Clause
-- `refusals::put_refused` meets its contract: a number that the law has not is told as it is, whatever the line.
use Rattle.std.specs.Prelude.{Option, Some, None}
use mathlib.Core.Logic.{◌⊎◌, ⊎_elim}
use Prim.Native.Nat.{ℕ, ◌<◌, ◌≤◌}
use mathlib.Core.Path.{◌≡◌, refl}
use mathlib.Core.Bool.{false}
use lib.Dec.{eqb}
use native.Mathlib.Omega.{arith}
use borrow.Author.Tests.{ne_eqb}
use Rattle.record.specs.declared.Device.{Device}
use Rattle.trace_text.specs.declared.Line.{Line}
use Rattle.trace_text.specs.declared.Line.TheVariants.{First, Later}
use Rattle.refusals.specs.Refusals.{other, plain_text, first_refused, later_refused, refused_text}
use Rattle.refusals.proofs.put_refused.Goals as goal

module _ (n : ℕ) (h : 19 < n) where
  not_in : (k : ℕ) → k ≤ 19 → eqb n k ≡ false
  not_in k l = ne_eqb n k (λ e. omega arith)

  above : (line : Option Line) (before after : Device) → refused_text n line before after ≡ other n
  unfolding refused_text first_refused later_refused plain_text
  above (Some (First f)) before after =
      rw (not_in 1 (omega arith), not_in 2 (omega arith), not_in 4 (omega arith), not_in 3 (omega arith), not_in 5 (omega arith), not_in 6 (omega arith), not_in 8 (omega arith), not_in 11 (omega arith), not_in 12 (omega arith), not_in 13 (omega arith))
  above (Some (Later op)) before after =
      rw (not_in 1 (omega arith), not_in 7 (omega arith), not_in 9 (omega arith), not_in 10 (omega arith), not_in 3 (omega arith), not_in 5 (omega arith), not_in 6 (omega arith), not_in 8 (omega arith), not_in 11 (omega arith), not_in 12 (omega arith), not_in 13 (omega arith))
  above None before after =
      rw (not_in 3 (omega arith), not_in 5 (omega arith), not_in 6 (omega arith), not_in 8 (omega arith), not_in 11 (omega arith), not_in 12 (omega arith), not_in 13 (omega arith))

zero_is : (line : Option Line) (before after : Device) → refused_text 0 line before after ≡ other 0
unfolding refused_text first_refused later_refused plain_text
zero_is (Some (First f)) before after = refl
zero_is (Some (Later op)) before after = refl
zero_is None before after = refl

unknown : (n : ℕ) (line : Option Line) (before after : Device) → (n ≡ 0) ⊎ (19 < n) → refused_text n line before after ≡ other n
unknown n line before after u =
    ⊎_elim (λ z. rw z (zero_is line before after)) (λ h. above n h line before after) u

pub returns-in-Err : goal.returns-in-Err
returns-in-Err c =
    let a = c.args in
    rw (unknown a.n a.line a.records.before a.records.after c.in-Err.ensures.1) c.put_form_at.ensures
