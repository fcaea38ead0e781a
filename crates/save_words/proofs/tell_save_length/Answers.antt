-- SPDX-License-Identifier: Apache-2.0 AND BSD-3-Clause
-- `save_words::tell_save_length` meets its contract.
use Rattle.save_words.proofs.Ways.{length_no_room, length_foreign, length_told}
use Rattle.save_words.proofs.tell_save_length.Goals as goal

pub returns-then-length-lt-LENGTH_WORDS : goal.returns-then-length-lt-LENGTH_WORDS
returns-then-length-lt-LENGTH_WORDS c = length_no_room _ _ _ c.if-length-lt-LENGTH_WORDS.true _ c.number.ensures

pub returns-in_default : goal.returns-in_default
returns-in_default c = length_foreign _ _ _ c.if-length-lt-LENGTH_WORDS.false _ c.decode.ensures c.in_default.is _ c.number-in_default.ensures

pub returns : goal.returns
returns c = length_told _ _ _ c.if-length-lt-LENGTH_WORDS.false _ c.decode.ensures _ c.in-Some.is _ _ _ c.tell_wrote.ensures c.save_length-w.ensures
