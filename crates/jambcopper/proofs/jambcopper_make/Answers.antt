-- SPDX-License-Identifier: Apache-2.0 AND BSD-3-Clause
-- `jambcopper::jambcopper_make` meets its contract: 12 where there is no room, else what was made.
use Rattle.std.specs.Prelude.{Option, ℕ}
use native.Mathlib.Omega.{arith}
use mathlib.Core.Path.{ap, ◌∙◌}
use Rattle.making.specs.Made.{made}
use Rattle.jambcopper.proofs.Ways.{no_room, made_refused, made_device}
use Rattle.jambcopper.proofs.jambcopper_make.Goals as goal

pub returns-then-too_short : goal.returns-then-too_short
returns-then-too_short c = no_room (omega arith) c.number.ensures

pub returns-in-Err : goal.returns-in-Err
returns-in-Err c =
    let a = c.args in
    made_refused (omega arith)
    (c.new.ensures.same
    ∙ ap (λ (n : Option ℕ). made a.capacity_mib a.requested_mib a.several n a.boot) c.node_of-which.ensures)
    c.in-Err.is
    c.number-in-Err.ensures

pub returns-in-Ok : goal.returns-in-Ok
returns-in-Ok c =
    let a = c.args in
    made_device (omega arith)
    (c.new.ensures.same
    ∙ ap (λ (n : Option ℕ). made a.capacity_mib a.requested_mib a.several n a.boot) c.node_of-which.ensures)
    c.in-Ok.is
    c.encode.ensures.words_after
