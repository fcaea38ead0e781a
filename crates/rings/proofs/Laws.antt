-- SPDX-License-Identifier: Apache-2.0 AND BSD-3-Clause
-- Laws on the rings, for callers: what a report leaves, whatever overlaps, and what indices that wrap come to.
use Rattle.std.specs.Prelude.{Some, Ok}
use Prim.Native.Nat.{ℕ, ◌+◌, ◌-◌, ◌*◌, ◌%◌, ◌≤◌, ◌<◌, ◌^◌}
use mathlib.Core.Path.{◌≡◌, ap, ◌∙◌}
use mathlib.Core.Bool.{true}
use mathlib.Core.List.{List}
use native.Mathlib.Omega.{arith}
use lib.Dec.{ltb, eqb}
use lib.ListN.{length, length-append}
use Rattle.units.proofs.Tests.{by_test, and_left, and_right}
use Rattle.little_endian.specs.Bytes.{value, little_endian, part, put}
use Rattle.little_endian.proofs.Laws.{length-little_endian, value_fits, length-put, put_append, part-put, part-put_before, part-put_behind}
use Rattle.descriptors.specs.Descriptors.{inside}
use Rattle.descriptors.proofs.Laws.{Inside, inside_facts}
use Rattle.rings.specs.declared.Queue.{Queue}
use Rattle.rings.specs.Standard.{available_index, available_head, used_element, used_index, used_id, used_length, Apart, Before, Behind}
use Rattle.rings.specs.Rings.{index_after, ahead_of, rings_inside, next_head, reported}

-- an index that wraps has the entry of the number that it stands for: 128 goes into 65,536
pub entry_of : (n : ℕ) → n % 65536 % 128 ≡ n % 128
entry_of n = omega arith

-- n heads after an index, wrapped, and one more
pub index_counts : (n : ℕ) → index_after (n % 65536) ≡ (n + 1) % 65536
index_counts n = omega arith

-- what the guest has made available and is not taken: where it is n ahead of a counter, the wrapped index says so
pub ahead_counts : (taken n : ℕ) → n < 65536 → ahead_of ((taken + n) % 65536) (taken % 65536) ≡ n
ahead_counts taken n h = omega arith

-- past 14 both rings lie inside
pub record RingsLie (len base : ℕ) (q : Queue) : Type 0 where
  pub available_lies : Inside len base q.available.0 262
  pub used_lies : inside len base q.used.0 1030 ≡ true

pub rings_lie : (len base : ℕ) (q : Queue) → rings_inside len base q ≡ true → RingsLie len base q
unfolding rings_inside
rings_lie len base q e =
    record {
      available_lies = inside_facts len base q.available.0 262 (and_left (inside len base q.available.0 262) _ e);
      used_lies = and_right (inside len base q.available.0 262) _ e;
    }

-- a head stands next only in rings that lie inside
pub head_inside : (mem : List ℕ) (base : ℕ) (q : Queue) (head : ℕ) → next_head mem base q ≡ Ok (Some head) → rings_inside (length mem) base q ≡ true
unfolding next_head
head_inside mem base q head e =
    by_test (rings_inside (length mem) base q) (λ t. t)
    (λ t. let f = rw t at e in let z : ◌≡◌ {A = ℕ} 0 1 = cc in absurd (omega arith))

-- and it is what the next entry of the available ring holds
pub head_reads : (mem : List ℕ) (base : ℕ) (q : Queue) (head : ℕ) → next_head mem base q ≡ Ok (Some head) → head ≡ available_head mem (q.available.0 - base) (q.next_available % 128)
unfolding next_head
head_reads mem base q head e =
    let at = q.available.0 - base in
    let ahead = ahead_of (available_index mem at) q.next_available in
    by_test (rings_inside (length mem) base q)
    (λ t. by_test (ltb 128 ahead)
    (λ s. let f = rw (t, s) at e in let z : ◌≡◌ {A = ℕ} 0 1 = cc in absurd (omega arith))
    (λ s. by_test (eqb ahead 0)
    (λ r. let f = rw (t, s, r) at e in let z : ◌≡◌ {A = ℕ} 0 1 = cc in absurd (omega arith))
    (λ r. let f = rw (t, s, r) at e in cc)))
    (λ t. let f = rw t at e in let z : ◌≡◌ {A = ℕ} 0 1 = cc in absurd (omega arith))

-- a number that was written reads back
value-put : (xs : List ℕ) (at n v : ℕ) → at + n ≤ length xs → v < 256 ^ n → value (part (put xs at (little_endian n v)) at n) ≡ v
value-put xs at n v h k =
    let e = length-little_endian n v in
    ap value (rw e at (part-put xs at (little_endian n v) (rw e h))) ∙ value_fits n v k

pub length-reported : (mem : List ℕ) (base used index head len : ℕ) → length (reported mem base used index head len) ≡ length mem
unfolding reported
length-reported mem base used index head len =
    by_test (inside (length mem) base used 1030) (λ t. simp (t, length-put)) (λ t. simp t)

-- a report in three writes, as the code makes them
pub reported_by : (mem : List ℕ) {one two three : List ℕ} (base used index next head len at : ℕ) → inside (length mem) base used 1030 ≡ true → at ≡ used - base
    → one ≡ put mem (at + 4 + 8 * (index % 128)) (little_endian 4 head) → two ≡ put one (at + 4 + 8 * (index % 128) + 4) (little_endian 4 len)
    → three ≡ put two (at + 2) (little_endian 2 next) → next ≡ index_after index → three ≡ reported mem base used index head len
unfolding reported
reported_by mem {one} {two} {three} base used index next head len at lies e a b c d =
    let element = at + 4 + 8 * (index % 128) in
    let joined : put mem element (used_element head len) ≡ two = put_append mem element (little_endian 4 head) (little_endian 4 len) ∙ rw (length-little_endian 4 head, b, a) in
    rw (lies, ← e, joined, ← d) c

-- what the guest reads in the used ring after a report: its index is one further, and its element holds the head and the length
pub record Reports (mem : List ℕ) (at index head len : ℕ) : Type 0 where
  pub counted : used_index mem at ≡ index_after index
  pub named : used_id mem at (index % 128) ≡ head
  pub measured : used_length mem at (index % 128) ≡ len

module _ (mem : List ℕ) (base used index head len : ℕ) (lies : inside (length mem) base used 1030 ≡ true) where
  pub report_reads : head < 65536 → len < 4294967296 → Reports (reported mem base used index head len) (used - base) index head len
  unfolding reported
  report_reads h l =
      let f = inside_facts (length mem) base used 1030 lies in
      let at = used - base in
      let element = at + 4 + 8 * (index % 128) in
      let first = put mem element (little_endian 4 head) in
      let second = put first (element + 4) (little_endian 4 len) in
      let joined : put mem element (used_element head len) ≡ second = put_append mem element (little_endian 4 head) (little_endian 4 len) ∙ rw (length-little_endian 4 head) in
      let m = length-put mem element (little_endian 4 head) in
      let n = length-put first (element + 4) (little_endian 4 len) in
      let two = length-little_endian 2 (index_after index) in
      let four = length-little_endian 4 head in
      rw (lies, joined) (record {
        counted = value-put second (at + 2) 2 (index_after index) (omega arith) (omega arith);
        named =
            ap value (part-put_behind second (at + 2) (little_endian 2 (index_after index)) element 4 (omega arith) ∙ part-put_before first (element + 4) (little_endian 4 len) element 4 (omega arith))
            ∙ value-put mem element 4 head (omega arith) (omega arith);
        measured =
            ap value (part-put_behind second (at + 2) (little_endian 2 (index_after index)) (element + 4) 4 (omega arith))
            ∙ value-put first (element + 4) 4 len (omega arith) (omega arith);
      })

-- ---- which bytes a report writes: those of the used ring

put_apart : (xs : List ℕ) (at : ℕ) (ys : List ℕ) (i : ℕ) → Apart i at (length ys) → part (put xs at ys) i 1 ≡ part xs i 1
put_apart xs at ys i (Before h) = part-put_before xs at ys i 1 (omega arith)
put_apart xs at ys i (Behind h) = part-put_behind xs at ys i 1 h

-- and of those its index and one element
pub report_apart : (mem : List ℕ) (base used index head len i : ℕ) → Apart i (used - base + 2) 2 → Apart i (used - base + 4 + 8 * (index % 128)) 8
    → part (reported mem base used index head len) i 1 ≡ part mem i 1
unfolding reported
report_apart mem base used index head len i a b =
    let at = used - base in
    let element = at + 4 + 8 * (index % 128) in
    let eight : length (used_element head len) ≡ 8 = length-append (little_endian 4 head) (little_endian 4 len) ∙ rw (length-little_endian 4 head, length-little_endian 4 len) in
    let two = length-little_endian 2 (index_after index) in
    by_test (inside (length mem) base used 1030)
    (λ t. rw t
    (put_apart (put mem element (used_element head len)) (at + 2) (little_endian 2 (index_after index)) i (rw two a)
    ∙ put_apart mem element (used_element head len) i (rw eight b)))
    (λ t. rw t)
