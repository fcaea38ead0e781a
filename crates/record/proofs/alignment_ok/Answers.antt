-- SPDX-License-Identifier: Apache-2.0 AND BSD-3-Clause
-- `record::alignment_ok` meets its contract: the match is the list of five.
use mathlib.Core.Logic.{⊎_elim}
use Rattle.std.proofs.lemmas.Grind.{common_steps}
use Rattle.std.proofs.Common.{arith}
use Rattle.record.specs.Shape.{alignment_ok}
use Rattle.record.proofs.alignment_ok.Goals as goal

pub returns-in-134217728 : goal.returns-in-134217728
unfolding alignment_ok
returns-in-134217728 c =
    ⊎_elim (λ w. rw w)
    (⊎_elim (λ w. rw w) (⊎_elim (λ w. rw w) (⊎_elim (λ w. rw w) (λ w. rw w))))
    c.in-134217728.is

pub returns-in_default : goal.returns-in_default
unfolding alignment_ok
returns-in_default c = grind (arith, common_steps)
