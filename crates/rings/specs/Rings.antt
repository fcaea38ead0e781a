-- SPDX-License-Identifier: Apache-2.0 AND BSD-3-Clause
-- The rings of the queue (R13): the next head of the available ring, and a head put into the used ring.
use Rattle.std.specs.Prelude.{ℕ, ◌+◌, ◌-◌, ◌*◌, ◌%◌, Bool, cond, not, ◌&&◌, List, ltb, eqb, length, Option, Some, None, Ok, Err, Result}
use Rattle.little_endian.specs.Bytes.{put, little_endian}
use Rattle.descriptors.specs.Descriptors.{inside}
use Rattle.rings.specs.declared.Queue.{Queue}
use Rattle.refusal.specs.declared.Refusal.{Refusal}
use Rattle.refusal.specs.declared.Refusal.TheVariants.{RingOutside, RingOverfull}
use Rattle.rings.specs.Standard.{available_bytes, used_bytes, available_index, available_head, used_element}

-- R13.2
abbrev pub queue_size : ℕ
queue_size = 128

-- R13.3
abbrev pub index_after : ℕ → ℕ
index_after index = (index + 1) % 65536

-- R13.6: how far an index is ahead of another
abbrev pub ahead_of : (index of : ℕ) → ℕ
ahead_of index of = (index + 65536 - of) % 65536

-- R13.5
unfoldable pub rings_inside : (len base : ℕ) → Queue → Bool
rings_inside len base q =
    inside len base q.available.0 (available_bytes queue_size) && inside len base q.used.0 (used_bytes queue_size)

-- R13.4 to R13.6: 14 (R1.14), 15 (R1.15), no head, or the next one
unfoldable pub next_head : List ℕ → (base : ℕ) → Queue → Result (Option ℕ) Refusal
next_head mem base q =
    let at = q.available.0 - base in
    let ahead = ahead_of (available_index mem at) q.next_available in
    cond (not (rings_inside (length mem) base q)) (Err RingOutside)
    (cond (ltb queue_size ahead) (Err RingOverfull)
    (cond (eqb ahead 0) (Ok None)
    (Ok (Some (available_head mem at (q.next_available % queue_size))))))

-- R13.8: the element, then the index after it
unfoldable pub reported : List ℕ → (base used index head length : ℕ) → List ℕ
reported mem base used index head len =
    cond (inside (length mem) base used (used_bytes queue_size))
    (put (put mem (used - base + 4 + 8 * (index % queue_size)) (used_element head len)) (used - base + 2) (little_endian 2 (index_after index)))
    mem
