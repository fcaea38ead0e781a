-- SPDX-License-Identifier: Apache-2.0 AND BSD-3-Clause
-- `save_words::tell_wrote` meets its contract.
use Rattle.save_words.proofs.Ways.{told_number, told_length}
use Rattle.save_words.proofs.tell_wrote.Goals as goal

pub returns-in-Err : goal.returns-in-Err
returns-in-Err c = told_number _ _ _ _ c.in-Err.is c.number.ensures

pub returns-in-Ok : goal.returns-in-Ok
returns-in-Ok c = told_length _ _ _ _ c.in-Ok.is c.write_words.ensures
