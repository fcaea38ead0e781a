-- SPDX-License-Identifier: Apache-2.0 AND BSD-3-Clause
-- The queue as words, and what words mean (R19.4).
use Rattle.std.specs.Prelude.{ℕ, ◌+◌, ◌-◌, Bool, cond, ◌&&◌, List, [], ◌∷◌, leb, eqb, length, Option, Some, None}
use Rattle.rings.specs.declared.Queue.{Queue}
use Rattle.words.specs.Record.{word}
use Rattle.queue.specs.declared.Ending.{Ending}
use Rattle.queue.specs.declared.Ending.TheVariants.{Stays, Out, Used}

-- R19.4: how many words a queue is
abbrev pub queue_length : ℕ
queue_length = 6

-- 0 where no head is out, else the head plus 1
abbrev pub taken_word : Option ℕ → ℕ
taken_word None = 0
taken_word (Some head) = head + 1

-- R19.4: a queue, word by word
unfoldable pub queue_words : Queue → List ℕ
queue_words q =
    q.descriptors.0
    ∷ q.available.0
    ∷ q.used.0
    ∷ q.next_available
    ∷ q.next_used
    ∷ taken_word q.taken
    ∷ []

-- ---- and back
unfoldable pub taken_of : ℕ → Option ℕ
taken_of n = cond (eqb n 0) None (Some (n - 1))

-- a word means a head, or none, where that is a number of 16 bits
abbrev pub taken_meant : ℕ → Option (Option ℕ)
taken_meant n = cond (leb n 65536) (Some (taken_of n)) None

-- R19.4: words begin with a queue's: there are as many, and the indices and a head are numbers of 16 bits
unfoldable pub is_queue : List ℕ → Bool
is_queue ws =
    leb queue_length (length ws) && (leb (word ws 3) 65535 && (leb (word ws 4) 65535 && leb (word ws 5) 65536))

-- the queue that words begin with
unfoldable pub queue_of : List ℕ → Queue
queue_of ws =
    record {
      descriptors = record { 0 = word ws 0 };
      available = record { 0 = word ws 1 };
      used = record { 0 = word ws 2 };
      next_available = word ws 3;
      next_used = word ws 4;
      taken = taken_of (word ws 5);
    }

-- what words mean: no queue where they are no encoding of one
unfoldable pub decoded_queue_of : List ℕ → Option Queue
decoded_queue_of ws = cond (is_queue ws) (Some (queue_of ws)) None

-- ---- R19.3, R13.8: what the words of an answer mean for the head that it is about: kinds 1 and 2 ask the host, 4 serves no request, 5 responds with a used length of 10 or 0 (`ending_told_lem`)
unfoldable pub ending_words : List ℕ → Ending
ending_words ws =
    cond (eqb (word ws 0) 1) Out
    (cond (eqb (word ws 0) 2) Out
    (cond (eqb (word ws 0) 4) (Used 0)
    (cond (eqb (word ws 0) 5) (cond (eqb (word ws 7) 0) (Used 0) (Used 10)) Stays)))
