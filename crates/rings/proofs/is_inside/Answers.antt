-- SPDX-License-Identifier: Apache-2.0 AND BSD-3-Clause
-- `rings::is_inside` meets its contract: a place is told exactly where the bytes lie inside.
use mathlib.Core.Path.{sym}
use Rattle.descriptors.proofs.Laws.{place_found, place_outside}
use Rattle.rings.proofs.is_inside.Goals as goal

pub returns-in_default : goal.returns-in_default
returns-in_default c = sym (place_outside _ _ _ _ _ c.place_of.ensures c.in_default.is)

pub returns : goal.returns
returns c = sym (place_found _ _ _ _ _ _ c.place_of.ensures c.in-Some.is).lies
