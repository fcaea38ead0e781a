-- SPDX-License-Identifier: Apache-2.0 AND BSD-3-Clause
-- `save_words::tell_old` meets its contract.
use Rattle.save_words.proofs.Ways.{old_no_room, old_refused, old_told}
use Rattle.save_words.proofs.tell_old.Goals as goal

pub returns-then-fields-lt-FIELDS_WORDS : goal.returns-then-fields-lt-FIELDS_WORDS
returns-then-fields-lt-FIELDS_WORDS c = old_no_room c.args.text.now c.args.scratch.now c.args.old.now c.args.fields.now c.if-fields-lt-FIELDS_WORDS.true _ c.number.ensures

pub returns-in-Err : goal.returns-in-Err
returns-in-Err c = old_refused c.args.text.now c.args.scratch.now c.args.old.now c.args.fields.now c.if-fields-lt-FIELDS_WORDS.false _ _ _ c.to_old.ensures _ _ c.in-Err.is c.number-in-Err.ensures

pub returns-in-Ok : goal.returns-in-Ok
returns-in-Ok c = old_told c.args.text.now c.args.scratch.now c.args.old.now c.args.fields.now c.if-fields-lt-FIELDS_WORDS.false _ _ _ c.to_old.ensures _ c.in-Ok.is _ c.write_words.ensures
