-- SPDX-License-Identifier: Apache-2.0 AND BSD-3-Clause
-- `words::encode_request` meets its contract: the stores write what a request may change.
use Prim.Native.Nat.{◌≤◌}
use lib.ListN.{length, set, length-set}
use borrow.Author.Tests.{le-leb, lt-leb}
use Rattle.little_endian.specs.Bytes.{put}
use Rattle.words.specs.Record.{after_request}
use Rattle.words.proofs.Laws.{pending_laid}
use Rattle.words.proofs.encode_request.Goals as goal

pub returns-then-words-lt-RECORD_WORDS : goal.returns-then-words-lt-RECORD_WORDS
unfolding after_request
returns-then-words-lt-RECORD_WORDS c = simp (lt-leb 15 _ c.if-words-lt-RECORD_WORDS.true)

pub returns : goal.returns
unfolding after_request put
returns c =
    let d = c.args.d in
    let ws = c.args.words.now in
    let h = c.if-words-lt-RECORD_WORDS.false in
    let stored = (set ws 5 d.config.plugged_size) in
    let long : 15 ≤ length stored = simp length-set h in
    rw (le-leb 15 (length ws) h, c.copy_from_slice.ensures.after)
    (pending_laid stored _ d.pending long c.pending_words.ensures)
