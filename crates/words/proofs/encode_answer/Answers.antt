-- SPDX-License-Identifier: Apache-2.0 AND BSD-3-Clause
-- `words::encode_answer` meets its contract: the stores write what a host's answer may change.
use Prim.Native.Nat.{◌≤◌}
use lib.ListN.{length, set, length-set}
use borrow.Author.Tests.{le-leb, lt-leb}
use Rattle.little_endian.specs.Bytes.{put}
use Rattle.words.specs.Record.{bit, after_answer}
use Rattle.words.proofs.Laws.{pending_laid}
use Rattle.words.proofs.encode_answer.Goals as goal

pub returns-then-words-lt-RECORD_WORDS : goal.returns-then-words-lt-RECORD_WORDS
unfolding after_answer
returns-then-words-lt-RECORD_WORDS c = simp (lt-leb 15 _ c.if-words-lt-RECORD_WORDS.true)

pub returns : goal.returns
unfolding after_answer put
returns c =
    let d = c.args.d in
    let ws = c.args.words.now in
    let h = c.if-words-lt-RECORD_WORDS.false in
    let stored = (set (set (set ws 4 d.config.usable_region_size) 5 d.config.plugged_size) 10 (bit d.placed)) in
    let long : 15 ≤ length stored = simp length-set h in
    rw (le-leb 15 (length ws) h, c.copy_from_slice.ensures.after, c.bit.ensures)
    (pending_laid stored _ d.pending long c.pending_words.ensures)
