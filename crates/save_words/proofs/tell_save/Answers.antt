-- SPDX-License-Identifier: Apache-2.0 AND BSD-3-Clause
-- `save_words::tell_save` meets its contract.
use Rattle.save_words.proofs.Ways.{save_no_room, save_foreign, save_told}
use Rattle.save_words.proofs.tell_save.Goals as goal

pub returns-then-length-lt-LENGTH_WORDS : goal.returns-then-length-lt-LENGTH_WORDS
returns-then-length-lt-LENGTH_WORDS c = save_no_room _ _ _ _ c.if-length-lt-LENGTH_WORDS.true _ c.number.ensures

pub returns-in_default : goal.returns-in_default
returns-in_default c = save_foreign _ _ _ c.if-length-lt-LENGTH_WORDS.false _ c.decode.ensures _ c.in_default.is _ c.number-in_default.ensures

pub returns : goal.returns
returns c = save_told _ _ _ c.if-length-lt-LENGTH_WORDS.false _ c.decode.ensures _ c.in-Some.is _ _ _ c.tell_wrote.ensures _ _ c.save-w.ensures
