-- SPDX-License-Identifier: Apache-2.0 AND BSD-3-Clause
-- `words::write_words` meets its contract: as many words as both have are written.
use mathlib.Core.Path.{sym}
use Rattle.little_endian.proofs.Laws.{put_start}
use Rattle.words.proofs.write_words.Goals as goal

pub returns : goal.returns
returns c = rw (c.copy_from_slice.ensures.after, c.min-n.ensures) (sym (put_start c.args.words.now c.args.what.now))
