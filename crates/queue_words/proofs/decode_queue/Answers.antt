-- SPDX-License-Identifier: Apache-2.0 AND BSD-3-Clause
-- `queue_words::decode_queue` meets its contract, test by test and then field by field.
use mathlib.Core.Path.{◌∙◌}
use borrow.Author.Tests.{le-leb, lt-leb}
use Rattle.words.specs.Record.{word}
use Rattle.words.proofs.Laws.{no_u16, a_u16}
use Rattle.queue_words.specs.Words.{is_queue, queue_of, decoded_queue_of}
use Rattle.queue_words.proofs.Laws.{Fits, unfit, fit, no_taken, a_taken}
use Rattle.queue_words.proofs.decode_queue.Goals as goal

pub returns-in_default : goal.returns-in_default
unfolding decoded_queue_of is_queue
returns-in_default c = simp (lt-leb 6 _ c.in_default.len_below)

pub returns-in_err-ok : goal.returns-in_err-ok
returns-in_err-ok c = c.from_residual.ensures ∙ unfit c.args.words.now _ (λ f. le-leb _ _ f.available) (no_u16 _ _ c.try_from.ensures c.in_err-ok.ensures.value)

pub returns-in_err-ok-2 : goal.returns-in_err-ok-2
returns-in_err-ok-2 c = c.from_residual-in_err-ok-2.ensures ∙ unfit c.args.words.now _ (λ f. le-leb _ _ f.used) (no_u16 _ _ c.try_from-2.ensures c.in_err-ok-2.ensures.value)

pub returns-in_err-taken_of : goal.returns-in_err-taken_of
returns-in_err-taken_of c = c.from_residual-in_err-taken_of.ensures ∙ unfit c.args.words.now _ (λ f. le-leb _ _ f.taken) (no_taken _ c.in_err-taken_of.ensures)

pub returns : goal.returns
unfolding queue_of
returns c =
    let ws = c.args.words.now in
    let available = a_u16 (word ws 3) c.in_ok-ok.field-0 _ c.try_from.ensures c.in_ok-ok.ensures.value in
    let used = a_u16 (word ws 4) c.in_ok-ok-2.field-0 _ c.try_from-2.ensures c.in_ok-ok-2.ensures.value in
    let taken = a_taken (word ws 5) c.in_ok-taken_of.field-0 c.in_ok-taken_of.ensures in
    let fits : Fits ws = record {
      long = c.in-len6-up.len_at_least;
      available = available.0;
      used = used.0;
      taken = taken.0;
    } in
    rw (fit ws fits, available.1, used.1, taken.1)
