-- SPDX-License-Identifier: Apache-2.0 AND BSD-3-Clause
-- `refusals::put_later_refused` meets its contract: a size change is told with the record before the line.
use Rattle.refusals.specs.Refusals.{later_refused}
use Rattle.refusals.proofs.put_later_refused.Goals as goal

pub returns-in-WrongSize : goal.returns-in-WrongSize
unfolding later_refused
returns-in-WrongSize c = rw (c.in-WrongSize.is, ← c.number_of.ensures) c.put_size.ensures
