-- SPDX-License-Identifier: Apache-2.0 AND BSD-3-Clause
-- `save_words::tell_restore` meets its contract.
use Rattle.save_words.proofs.Ways.{restore_foreign, restore_refused, restore_laid}
use Rattle.save_words.proofs.tell_restore.Goals as goal

pub returns-in_default : goal.returns-in_default
returns-in_default c = restore_foreign _ _ _ _ c.decode.ensures c.in_default.is _ c.number.ensures

pub returns-in-Err : goal.returns-in-Err
returns-in-Err c = restore_refused _ _ _ _ c.decode.ensures _ c.in-Some.is _ _ c.restore.ensures _ _ c.in-Err.is c.number-in-Err.ensures

pub returns-in-Ok : goal.returns-in-Ok
returns-in-Ok c = restore_laid _ _ _ _ c.decode.ensures _ c.in-Some.is _ _ c.restore.ensures _ c.in-Ok.is _ c.encode.ensures.words_after
