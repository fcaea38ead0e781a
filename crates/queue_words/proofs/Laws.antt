-- SPDX-License-Identifier: Apache-2.0 AND BSD-3-Clause
-- Encoding and decoding are inverse: a queue reads back from its words, and words that are a queue's are what it is written as.
use Rattle.std.specs.Prelude.{Option, Some, None}
use Prim.Native.Nat.{ℕ, ◌+◌, ◌-◌, ◌≤◌}
use mathlib.Core.Path.{◌≡◌, refl, sym, ap}
use mathlib.Core.Bool.{Bool, true, false, cond}
use mathlib.Core.List.{List, ◌++◌}
use native.Mathlib.Omega.{arith}
use lib.Dec.{leb, eqb}
use lib.ListN.{length, drop, length-append}
use lib.Seq.{set-get_or}
use borrow.Author.Tests.{le-leb, leb-true, eqb-true, eqb-false, ne_eqb}
use Rattle.units.proofs.Tests.{by_test, and_left, and_right}
use Rattle.little_endian.specs.Bytes.{put}
use Rattle.little_endian.proofs.Laws.{put_fits}
use Rattle.words.specs.Record.{word}
use Rattle.rings.specs.declared.Queue.{Queue}
use Rattle.step.specs.declared.Verdict.{Verdict}
use Rattle.record.specs.declared.HostCall.{HostCall}
use Rattle.record.specs.declared.HostCall.TheVariants.{Create, Discard}
use Rattle.step.specs.declared.Answer.{Answer}
use Rattle.step.specs.declared.Answer.TheVariants.{Refused, Wants, Sized, Unserved, Served, Done}
use Rattle.step.specs.Answers.{answer_words, served_with, OfReply}
use Rattle.step.proofs.Served.{Short}
use Rattle.queue.specs.declared.Ending.TheVariants.{Out, Used}
use Rattle.queue.specs.Queue.{ending_of}
use Rattle.queue_words.specs.Words.{taken_word, taken_of, taken_meant, queue_words, is_queue, queue_of, decoded_queue_of, ending_words}

-- ---- the tests of a queue
-- what the tests of `is_queue` say
pub record Fits (ws : List ℕ) : Type 0 where
  pub long : 6 ≤ length ws
  pub available : word ws 3 ≤ 65535
  pub used : word ws 4 ≤ 65535
  pub taken : word ws 5 ≤ 65536

pub queue_fits : (ws : List ℕ) → is_queue ws ≡ true → Fits ws
unfolding is_queue
queue_fits ws h =
    let h₁ = and_right (leb 6 (length ws)) _ h in
    let h₂ = and_right (leb (word ws 3) 65535) _ h₁ in
    record {
      long = leb-true 6 (length ws) (and_left (leb 6 (length ws)) _ h);
      available = leb-true (word ws 3) 65535 (and_left (leb (word ws 3) 65535) _ h₁);
      used = leb-true (word ws 4) 65535 (and_left (leb (word ws 4) 65535) _ h₂);
      taken = leb-true (word ws 5) 65536 (and_right (leb (word ws 4) 65535) _ h₂);
    }

pub fits_queue : (ws : List ℕ) → Fits ws → is_queue ws ≡ true
unfolding is_queue
fits_queue ws f = simp (le-leb _ _ f.long, le-leb _ _ f.available, le-leb _ _ f.used, le-leb _ _ f.taken)

-- ---- the words test by test, as `decode_queue` does it
-- one test that fails is enough
pub unfit : (ws : List ℕ) (t : Bool) → (Fits ws → t ≡ true) → t ≡ false → None ≡ decoded_queue_of ws
unfolding decoded_queue_of
unfit ws t f e =
    by_test (is_queue ws)
    (λ s. let h : t ≡ true = f (queue_fits ws s) in absurd (let z : ◌≡◌ {A = ℕ} 0 1 = cc in omega arith))
    (λ s. simp s)

pub fit : (ws : List ℕ) → Fits ws → decoded_queue_of ws ≡ Some (queue_of ws)
unfolding decoded_queue_of
fit ws f = simp (fits_queue ws f)

-- the head that a word means
pub no_taken : (w : ℕ) → None ≡ taken_meant w → leb w 65536 ≡ false
no_taken w e = by_test (leb w 65536) (λ t. let q = simp t at e in absurd (cc)) (λ t. t)

pub a_taken : (w : ℕ) (taken : Option ℕ) → Some taken ≡ taken_meant w → (w ≤ 65536) × (taken_of w ≡ taken)
a_taken w taken e = by_test (leb w 65536) (λ t. let q = simp t at e in (leb-true w 65536 t, cc)) (λ t. let q = simp t at e in absurd (cc))

-- ---- a queue reads back
pub taken_back : (t : Option ℕ) → taken_of (taken_word t) ≡ t
unfolding taken_of
taken_back None = refl
taken_back (Some head) =
    let e : head + 1 - 1 ≡ head = omega arith in
    simp (ne_eqb (head + 1) 0 (λ z. omega arith), e)

words_long : (q : Queue) (rest : List ℕ) → 6 ≤ length (queue_words q ++ rest)
unfolding queue_words
words_long q rest = rw length-append (omega arith)

-- whatever is behind its words
words_back : (q : Queue) (rest : List ℕ) → is_queue (queue_words q) ≡ true → decoded_queue_of (queue_words q ++ rest) ≡ Some q
unfolding decoded_queue_of is_queue queue_of queue_words
words_back q rest h =
    let f = queue_fits (queue_words q) h in
    simp (le-leb _ _ (words_long q rest), le-leb _ 65535 f.available, le-leb _ 65535 f.used, le-leb _ 65536 f.taken, taken_back q.taken)

-- what was encoded decodes to the queue, where there is room for it
pub encoded_decodes : (q : Queue) (ws : List ℕ) → is_queue (queue_words q) ≡ true → 6 ≤ length ws → decoded_queue_of (put ws 0 (queue_words q)) ≡ Some q
unfolding queue_words
encoded_decodes q ws h room = rw (put_fits ws 0 (queue_words q) room) (words_back q (drop 6 ws) h)

-- ---- words are written back
taken_written : (n : ℕ) → taken_word (taken_of n) ≡ n
unfolding taken_of
taken_written n =
    by_test (eqb n 0) (λ t. simp t (sym (eqb-true n 0 t)))
    (λ t. let p = eqb-false n 0 t in simp t (omega (arith, p)))

queue_written : (ws : List ℕ) → put ws 0 (queue_words (queue_of ws)) ≡ ws
unfolding queue_words queue_of put
queue_written ws = simp (taken_written (word ws 5), set-get_or)

-- the queue that words mean, if they mean one
abbrev meant : Queue → Option Queue → Queue
meant e (Some q) = q
meant e None = e

abbrev is_queue_lem : Option Queue → ℕ
is_queue_lem (Some q) = 1
is_queue_lem None = 0

-- words that decode are a queue's
pub decoded_fits : (ws : List ℕ) (q : Queue) → decoded_queue_of ws ≡ Some q → (is_queue ws ≡ true) × (queue_of ws ≡ q)
unfolding decoded_queue_of
decoded_fits ws q h =
    by_test (is_queue ws) (λ t. let g : Some (queue_of ws) ≡ Some q = simp t at h in (t, ap (meant q) g))
    (λ t. let g : None ≡ Some q = simp t at h in let y : ◌≡◌ {A = ℕ} 0 1 = ap is_queue_lem g in absurd (omega arith))

pub decoded_long : (ws : List ℕ) (q : Queue) → decoded_queue_of ws ≡ Some q → 6 ≤ length ws
decoded_long ws q h = (queue_fits ws (decoded_fits ws q h).0).long

-- what decodes encodes to the same words
pub decoded_encodes : (ws : List ℕ) (q : Queue) → decoded_queue_of ws ≡ Some q → put ws 0 (queue_words q) ≡ ws
decoded_encodes ws q h = rw (← (decoded_fits ws q h).1) (queue_written ws)

-- ---- an answer's ending reads back from its words
ending_question : (call : HostCall) → ending_words (answer_words (Wants call)) ≡ Out
unfolding ending_words
ending_question (Create guest size slot) = refl
ending_question (Discard offset size host) = refl

ending_served : (v : Verdict) (t : Bool) → ending_words (answer_words (served_with v (cond t 10 0))) ≡ Used (cond t 10 0)
unfolding ending_words
ending_served v true = refl
ending_served v false = refl

pub ending_told_lem : (a : Answer) → Short a → ending_words (answer_words a) ≡ ending_of a
unfolding ending_words OfReply
ending_told_lem (Refused n) s = refl
ending_told_lem (Wants call) s = ending_question call
ending_told_lem Sized s = refl
ending_told_lem (Unserved reason) s = refl
ending_told_lem (Served reply) s = rw s.1 (ending_served (record { response = reply.response; why = reply.why }) s.0)
ending_told_lem Done s = refl
