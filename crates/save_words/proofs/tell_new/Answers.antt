-- SPDX-License-Identifier: Apache-2.0 AND BSD-3-Clause
-- `save_words::tell_new` meets its contract.
use Rattle.save_words.proofs.Ways.{no_fields, no_length, new_told}
use Rattle.save_words.proofs.tell_new.Goals as goal

pub returns-then-fields-lt-FIELDS_WORDS : goal.returns-then-fields-lt-FIELDS_WORDS
returns-then-fields-lt-FIELDS_WORDS c = no_fields c.args.fields.now c.args.old.now c.args.scratch.now c.args.text.now c.args.length.now c.if-fields-lt-FIELDS_WORDS.true _ c.number.ensures

pub returns-then-length-lt-LENGTH_WORDS : goal.returns-then-length-lt-LENGTH_WORDS
returns-then-length-lt-LENGTH_WORDS c = no_length c.args.fields.now c.args.old.now c.args.scratch.now c.args.text.now c.args.length.now c.if-fields-lt-FIELDS_WORDS.false c.if-length-lt-LENGTH_WORDS.true _ c.number-then-length-lt-LENGTH_WORDS.ensures

pub returns : goal.returns
returns c = new_told c.args.fields.now c.args.old.now c.args.scratch.now c.args.text.now c.args.length.now c.if-fields-lt-FIELDS_WORDS.false c.if-length-lt-LENGTH_WORDS.false _ c.fields_of.ensures _ _ _ _ _ c.to_new-w.ensures c.tell_wrote.ensures
