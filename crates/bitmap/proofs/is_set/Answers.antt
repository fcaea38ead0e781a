-- SPDX-License-Identifier: Apache-2.0 AND BSD-3-Clause
-- `bitmap::is_set` meets its contract. No loop.
use mathlib.Core.Path.{◌∙◌}
use Rattle.bitmap.proofs.Turns.{at_place, at_out}
use Rattle.bitmap.proofs.is_set.Goals as goal

pub returns-then-j-bitmap : goal.returns-then-j-bitmap
returns-then-j-bitmap c =
    let a = c.args in
    c.bit.ensures ∙ at_place a.bitmap.now a.block c.if-j-bitmap.true

pub returns-else-j-bitmap : goal.returns-else-j-bitmap
returns-else-j-bitmap c = at_out c.args.bitmap.now c.args.block c.if-j-bitmap.false
