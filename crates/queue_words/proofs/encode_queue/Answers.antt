-- SPDX-License-Identifier: Apache-2.0 AND BSD-3-Clause
-- `queue_words::encode_queue` meets its contract: the words are those of the queue.
use Rattle.std.specs.Prelude.{Some}
use Prim.Native.Nat.{ℕ, ◌≤◌}
use mathlib.Core.Path.{◌≡◌, ap, ◌∙◌}
use mathlib.Core.Bool.{true}
use mathlib.Core.List.{List}
use lib.ListN.{length}
use Rattle.little_endian.specs.Bytes.{put}
use Rattle.rings.specs.declared.Queue.{Queue}
use Rattle.queue_words.specs.Words.{queue_words, is_queue, decoded_queue_of}
use Rattle.queue_words.proofs.Laws.{encoded_decodes}
use Rattle.queue_words.proofs.encode_queue.Goals as goal

-- the words that are written are the queue's, and decode to it where there is room
record Written (q : Queue) (ws ws' : List ℕ) : Type 0 where
  same : ws' ≡ put ws 0 (queue_words q)
  decodes : 6 ≤ length ws → decoded_queue_of ws' ≡ Some q

written : (q : Queue) (ws all ws' : List ℕ) → all ≡ queue_words q → is_queue all ≡ true → ws' ≡ put ws 0 all → Written q ws ws'
written q ws all ws' e f w =
    let same = w ∙ ap (put ws 0) e in
    record { same = same; decodes = λ room. ap decoded_queue_of same ∙ encoded_decodes q ws (rw (← e) f) room }

pub returns : goal.returns
returns c =
    let e = c.queue_words.ensures in
    let w = written _ _ _ _ e.value e.result_value c.write_all.ensures in
    record { words_after = w.same; words_after_2 = w.decodes }
