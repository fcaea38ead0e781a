-- SPDX-License-Identifier: Apache-2.0 AND BSD-3-Clause
-- `jambcopper::jambcopper_queue_make` meets its contract: 12 where there is no room, else the words of a new queue.
use Rattle.jambcopper.proofs.QueueWays.{no_queue_room, queue_made}
use Rattle.jambcopper.proofs.jambcopper_queue_make.Goals as goal

pub returns-then-queue-lt-QUEUE_WORDS : goal.returns-then-queue-lt-QUEUE_WORDS
returns-then-queue-lt-QUEUE_WORDS c = no_queue_room c.if-queue-lt-QUEUE_WORDS.true c.number.ensures

pub returns : goal.returns
returns c = queue_made c.if-queue-lt-QUEUE_WORDS.false c.encode_queue.ensures.words_after
