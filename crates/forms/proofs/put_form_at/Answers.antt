-- SPDX-License-Identifier: Apache-2.0 AND BSD-3-Clause
-- `forms::put_form_at` meets its contract: a hole's number, or the form's byte, goes after what was put (`Puts`).
use mathlib.Core.Path.{ap, ◌∙◌}
use native.Mathlib.Omega.{arith}
use Rattle.std.specs.Prelude.{ℕ, Option, unwrap_or}
use Rattle.forms.proofs.Turns.{put_hole, put_byte, put_end}
use Rattle.forms.proofs.put_form_at.Goals as goal
use Rattle.forms.proofs.put_form_at.Goals.{then-b-eq-HOLE, else-b-eq-HOLE}

pub loop-b-preserved : goal.loop-b-preserved
loop-b-preserved c =
    elim c.if-b-eq-HOLE.branch [
      | then-b-eq-HOLE w ↦
          let number = w.unwrap_or.ensures ∙ ap (λ (o : Option ℕ). unwrap_or o 0) w.copied.ensures ∙ w.get.ensures.lookup.4 (omega arith) 0 in
          rw (w.out-is, w.to-is, w.k-is) (put_hole c.loop-b.invariant c.loop-b-test.true _ w.if-b-eq-HOLE.true number w.put_number-to.ensures)
      | else-b-eq-HOLE w ↦ rw (w.out-is, w.to-is, w.k-is) (put_byte c.loop-b.invariant c.loop-b-test.true w.if-b-eq-HOLE.false w.put-to.ensures)
    ]

pub returns : goal.returns
returns c = put_end c.loop-b.invariant c.loop-b-test.false
