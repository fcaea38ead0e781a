-- SPDX-License-Identifier: Apache-2.0 AND BSD-3-Clause
-- `refusals::put_known` meets its contract: a bad line has the plain sentence of its refusal.
use mathlib.Core.Path.{◌≡◌}
use Rattle.std.specs.Prelude.{Some}
use Rattle.refusals.specs.Refusals.{refused_text}
use Rattle.refusals.proofs.put_known.Goals as goal

pub returns-in-Some-Later : goal.returns-in-Some-Later
unfolding refused_text
returns-in-Some-Later c =
    let e : c.args.line ≡ Some c.in-Some-Later.field-0 = c.in-Some-Later.is in
    let f = rw e at c.in-Some-Later.field-0-is in
    rw (e, f) c.put_later_refused.ensures

pub returns-in-None : goal.returns-in-None
unfolding refused_text
returns-in-None c = rw c.in-None.is c.put_plain.ensures
