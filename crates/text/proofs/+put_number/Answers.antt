-- SPDX-License-Identifier: Apache-2.0 AND BSD-3-Clause
-- `text::put_number` meets its contract: the digits of n / 10, and after them the last.
use Rattle.text.proofs.Laws.{decimal_one, decimal_more}
use Rattle.text.proofs.Puts.{then}
use Rattle.text.proofs.+put_number.Goals as goal

pub returns-then-n-lt10 : goal.returns-then-n-lt10
returns-then-n-lt10 t c = rw (decimal_one _ c.if-n-lt10.true) c.put.ensures

pub returns : goal.returns
returns t c = rw (decimal_more _ c.if-n-lt10.false) (then c.put_number-to.ensures c.put-2.ensures)
