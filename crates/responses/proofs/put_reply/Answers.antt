-- SPDX-License-Identifier: Apache-2.0 AND BSD-3-Clause
-- `responses::put_reply` meets its contract: a NACK is told with the record before the line.
use Rattle.responses.specs.Responses.{told_as, reply_text}
use Rattle.responses.proofs.put_reply.Goals as goal

pub returns-in-Nack : goal.returns-in-Nack
unfolding reply_text told_as
returns-in-Nack c = rw (← c.of.ensures, c.in-Nack.is, ← c.op_span-s.ensures) c.put_nack.ensures
