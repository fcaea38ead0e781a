-- SPDX-License-Identifier: Apache-2.0 AND BSD-3-Clause
-- `answer_words::tell` meets its contract: the words are those of the answer.
use mathlib.Core.Path.{ap, ◌∙◌}
use Rattle.little_endian.specs.Bytes.{put}
use Rattle.answer_words.proofs.tell.Goals as goal

pub returns : goal.returns
returns c =
    let told = c.answer_words-all.ensures in
    record { value = rw told; words_after = c.write_all.ensures ∙ ap (put c.args.words.now 0) told }
