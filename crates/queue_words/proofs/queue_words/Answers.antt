-- SPDX-License-Identifier: Apache-2.0 AND BSD-3-Clause
-- `queue_words::queue_words` meets its contract: they are words of a queue, since the indices and a head are of 16 bits.
use native.Mathlib.Omega.{arith}
use Rattle.queue_words.specs.Words.{queue_words}
use Rattle.queue_words.proofs.Laws.{fits_queue}
use Rattle.queue_words.proofs.queue_words.Goals as goal

pub returns : goal.returns
unfolding queue_words
returns c =
    let word = c.taken_word.ensures in
    record {
      value = rw (word.value, c.from.ensures, c.from-2.ensures);
      result_value = fits_queue _ (record { long = omega arith; available = omega arith; used = omega arith; taken = word.upper_bound });
    }
