-- SPDX-License-Identifier: Apache-2.0 AND BSD-3-Clause
-- Words written one at a time are words written at once. Encoding and decoding are inverse: a record reads back from its words, and words that are a record's are what it is written as.
use Rattle.std.specs.Prelude.{Option, Some, None, Result, Ok, Err}
use Rattle.std.specs.Result.{OkIff, result_ok}
use Prim.Native.Nat.{ℕ, ◌+◌, ◌≤◌, ◌<◌}
use mathlib.Core.Path.{◌≡◌, refl, sym, ap, ◌∙◌}
use mathlib.Core.Bool.{Bool, true, false, ◌&&◌}
use mathlib.Core.List.{List, [], ◌∷◌, ◌++◌}
use native.Mathlib.Omega.{arith}
use Rattle.std.proofs.Common.{append_assoc}
use native.Mathlib.Numerals.{add-one}
use lib.Dec.{leb, eqb}
use lib.ListN.{length, take, drop, get_or, set, length-append, drop_of_length-le}
use borrow.Rule.Slice.PartMut.{put_mid}
use lib.Seq.{drop-drop, drop-cons, set-get_or, get_or-set_other}
use borrow.Author.Tests.{le-leb, leb-true, eqb-true, eqb-false}
use Rattle.units.proofs.Tests.{by_test, and_left, and_right}
use Rattle.little_endian.specs.Bytes.{put}
use Rattle.little_endian.proofs.Laws.{put_fits}
use Rattle.record.specs.declared.Device.{Device}
use Rattle.record.specs.declared.Pending.{Pending}
use Rattle.record.specs.declared.Pending.TheVariants.{Nothing, Create, Discard, DiscardOne}
use Rattle.record.specs.Changes.{pending_to, placed_to, plugged_to, usable_to}
use Rattle.words.specs.Record.{bit, word, pending_words, words_of, pending_of, pending_fits, pending_call, is_record, record_of, decoded_of, after_request, after_answer}

-- ---- words one at a time

-- the first word of what is left is written
pub put_next : (xs : List ℕ) (i : ℕ) (ys : List ℕ) → i < length ys
    → put xs i (drop i ys) ≡ put (set xs i (get_or ys i 0)) (i + 1) (drop (i + 1) ys)
unfolding put
put_next xs i ys h = rw (drop-cons ys i 0 h, add-one i)

-- no word is left
pub put_none : (xs : List ℕ) (i : ℕ) (ys : List ℕ) → length ys ≤ i → put xs i (drop i ys) ≡ xs
unfolding put
put_none xs i ys h = rw (drop_of_length-le ys h)

-- the four words of a pending call, one at a time
pub four : (p : Pending)
    → (get_or (pending_words p) 0 0 ∷ get_or (pending_words p) 1 0 ∷ get_or (pending_words p) 2 0 ∷ get_or (pending_words p) 3 0 ∷ [])
    ≡ pending_words p
four Nothing = refl
four (Create first last) = refl
four (Discard first count status) = refl
four (DiscardOne block status) = refl

-- they are laid where a record has them
pub pending_laid : (ws ps : List ℕ) (p : Pending) → 15 ≤ length ws → ps ≡ pending_words p → put_mid 11 4 ws ps ≡ put ws 11 (pending_words p)
pending_laid ws ps p h e =
    let n : length (pending_words p) ≡ 4 = sym (ap length (four p)) in
    let k : 11 + length (pending_words p) ≤ length ws = omega arith in
    rw (e, put_fits ws 11 (pending_words p) k, n, append_assoc)
    (ap (λ (rest : List ℕ). take 11 ws ++ (pending_words p ++ rest)) (drop-drop 4 11 ws))

-- ---- a word that is a number of 16 bits

pub no_u16 : {E : Type 0} (w : ℕ) (r : Result ℕ E) → OkIff r (w < 65536) w → None ≡ result_ok r → leb w 65535 ≡ false
no_u16 w (Ok x) k e = absurd (cc)
no_u16 w (Err x) k e = by_test (leb w 65535) (λ t. absurd (k (omega (arith, leb-true w 65535 t)))) (λ t. t)

pub a_u16 : {E : Type 0} (w n : ℕ) (r : Result ℕ E) → OkIff r (w < 65536) w → Some n ≡ result_ok r → (w ≤ 65535) × (n ≡ w)
a_u16 w n (Ok x) k e = (omega (arith, k.0), let q = k.1 in cc)
a_u16 w n (Err x) k e = absurd (cc)

-- ---- the tests of a record

both : (a b : Bool) → (a && b) ≡ true → (a ≡ true) × (b ≡ true)
both a b h = (and_left a b h, and_right a b h)

-- what the tests of `is_record` say
pub record Fits (ws : List ℕ) : Type 0 where
  pub long : 15 ≤ length ws
  pub node : word ws 1 ≤ 65535
  pub several : word ws 8 ≤ 1
  pub placed : word ws 10 ≤ 1
  pub pending : pending_fits (word ws 11) (word ws 12) (word ws 13) (word ws 14) ≡ true

pub record_fits : (ws : List ℕ) → is_record ws ≡ true → Fits ws
unfolding is_record
record_fits ws h =
    let p = pending_fits (word ws 11) (word ws 12) (word ws 13) (word ws 14) in
    let h₀ = both (leb 15 (length ws)) (leb (word ws 1) 65535 && (leb (word ws 8) 1 && (leb (word ws 10) 1 && p))) h in
    let h₁ = both (leb (word ws 1) 65535) (leb (word ws 8) 1 && (leb (word ws 10) 1 && p)) h₀.1 in
    let h₂ = both (leb (word ws 8) 1) (leb (word ws 10) 1 && p) h₁.1 in
    let h₃ = both (leb (word ws 10) 1) p h₂.1 in
    record {
      long = leb-true 15 (length ws) h₀.0;
      node = leb-true (word ws 1) 65535 h₁.0;
      several = leb-true (word ws 8) 1 h₂.0;
      placed = leb-true (word ws 10) 1 h₃.0;
      pending = h₃.1;
    }

-- ---- the words test by test, as `decode` does it
-- one test that fails is enough
pub unfit : (ws : List ℕ) (t : Bool) → (Fits ws → t ≡ true) → t ≡ false → None ≡ decoded_of ws
unfolding decoded_of
unfit ws t f e =
    by_test (is_record ws)
    (λ s. let h : t ≡ true = f (record_fits ws s) in absurd (let z : ◌≡◌ {A = ℕ} 0 1 = cc in omega arith))
    (λ s. simp s)

pub fit : (ws : List ℕ) → Fits ws → decoded_of ws ≡ Some (record_of ws)
unfolding decoded_of is_record
fit ws f = simp (le-leb _ _ f.long, le-leb _ _ f.node, le-leb _ _ f.several, le-leb _ _ f.placed, f.pending)

-- the call that is known, and whether one is
abbrev call : Pending → Option Pending → Pending
call p (Some q) = q
call p None = p

abbrev is_known : Option Pending → Bool
is_known (Some p) = true
is_known None = false

pub known : (k a b c : ℕ) (p : Pending) → pending_call k a b c ≡ Some p → (pending_fits k a b c ≡ true) × (pending_of k a b c ≡ p)
unfolding pending_call
known k a b c p h =
    by_test (pending_fits k a b c) (λ t. let g : Some (pending_of k a b c) ≡ Some p = simp t at h in (t, ap (call p) g))
    (λ t. let g : None ≡ Some p = simp t at h in let z : false ≡ true = ap is_known g in absurd (let y : ◌≡◌ {A = ℕ} 0 1 = cc in omega arith))

pub unknown : (k a b c : ℕ) → pending_call k a b c ≡ None → pending_fits k a b c ≡ false
unfolding pending_call
unknown k a b c h =
    by_test (pending_fits k a b c)
    (λ t. let g : Some (pending_of k a b c) ≡ None = simp t at h in let z : true ≡ false = ap is_known g in absurd (let y : ◌≡◌ {A = ℕ} 0 1 = cc in omega arith))
    (λ t. t)

-- ---- a record reads back

bit-flag : (flag : Bool) → leb (bit flag) 1 ≡ true
bit-flag true = refl
bit-flag false = refl

bit_back : (flag : Bool) → eqb (bit flag) 1 ≡ flag
bit_back true = refl
bit_back false = refl

length_words : (d : Device) (p : Pending) → length (words_of (pending_to p d)) ≡ 15
unfolding words_of
length_words d Nothing = refl
length_words d (Create first last) = refl
length_words d (Discard first count status) = refl
length_words d (DiscardOne block status) = refl

-- whatever is behind them
words_long : (d : Device) (p : Pending) (rest : List ℕ) → 15 ≤ length (words_of (pending_to p d) ++ rest)
words_long d p rest = rw (length-append, length_words d p) (omega arith)

words_back : (d : Device) (p : Pending) (rest : List ℕ) → d.config.node_id ≤ 65535
    → decoded_of (words_of (pending_to p d) ++ rest) ≡ Some (pending_to p d)
unfolding words_of decoded_of is_record record_of
words_back d Nothing rest h =
    simp (
      le-leb _ _ (words_long d Nothing rest),
      le-leb _ 65535 h,
      bit-flag d.several,
      bit-flag d.placed,
      bit_back d.several,
      bit_back d.placed,
    )
words_back d (Create first last) rest h =
    simp (
      le-leb _ _ (words_long d (Create first last) rest),
      le-leb _ 65535 h,
      bit-flag d.several,
      bit-flag d.placed,
      bit_back d.several,
      bit_back d.placed,
    )
words_back d (Discard first count status) rest h =
    simp (
      le-leb _ _ (words_long d (Discard first count status) rest),
      le-leb _ 65535 h,
      bit-flag d.several,
      bit-flag d.placed,
      bit_back d.several,
      bit_back d.placed,
    )
words_back d (DiscardOne block status) rest h =
    simp (
      le-leb _ _ (words_long d (DiscardOne block status) rest),
      le-leb _ 65535 h,
      bit-flag d.several,
      bit-flag d.placed,
      bit_back d.several,
      bit_back d.placed,
    )

-- what was encoded decodes to the record, where there is room for it
pub encoded_decodes : (d : Device) (ws : List ℕ) → d.config.node_id ≤ 65535 → 15 ≤ length ws
    → decoded_of (put ws 0 (words_of d)) ≡ Some d
encoded_decodes d ws h room =
    let n : length (words_of d) ≡ 15 = length_words d d.pending in
    rw (put_fits ws 0 (words_of d) (rw n room)) (words_back d d.pending (drop (0 + length (words_of d)) ws) h)

-- ---- words are written back

flag_written : (w : ℕ) → w ≤ 1 → bit (eqb w 1) ≡ w
flag_written w h =
    by_test (eqb w 1) (λ t. simp t (sym (eqb-true w 1 t)))
    (λ t. let n = eqb-false w 1 t in simp t (omega (arith, n)))

pending_written : (k a b c : ℕ) → pending_fits k a b c ≡ true → pending_words (pending_of k a b c) ≡ k ∷ a ∷ b ∷ c ∷ []
pending_written k a b c h =
    by_test (eqb k 0)
    (λ t.
    let e : k ≡ 0 = eqb-true k 0 t in
    let g : (eqb a 0 && (eqb b 0 && eqb c 0)) ≡ true = simp t at h in
    let g₀ = both (eqb a 0) (eqb b 0 && eqb c 0) g in
    let g₁ = both (eqb b 0) (eqb c 0) g₀.1 in
    rw (e, eqb-true a 0 g₀.0, eqb-true b 0 g₁.0, eqb-true c 0 g₁.1))
    (λ t₀.
    by_test (eqb k 1)
    (λ t. rw (eqb-true k 1 t, eqb-true c 0 (simp (t₀, t) at h)))
    (λ t₁.
    by_test (eqb k 2) (λ t. rw (eqb-true k 2 t))
    (λ t₂.
    by_test (eqb k 3)
    (λ t. rw (eqb-true k 3 t, eqb-true b 0 (simp (t₀, t₁, t₂, t) at h)))
    (λ t₃. let z : false ≡ true = simp (t₀, t₁, t₂, t₃) at h in absurd (let y : ◌≡◌ {A = ℕ} 0 1 = cc in omega arith)))))

record_written : (ws : List ℕ) → is_record ws ≡ true → put ws 0 (words_of (record_of ws)) ≡ ws
unfolding words_of record_of put
record_written ws h =
    let f = record_fits ws h in
    simp (
      flag_written (word ws 8) f.several,
      flag_written (word ws 10) f.placed,
      pending_written (word ws 11) (word ws 12) (word ws 13) (word ws 14) f.pending,
      set-get_or,
    )

-- the record that words mean, if they mean one
abbrev meant : Device → Option Device → Device
meant e (Some d) = d
meant e None = e

abbrev is_record_lem : Option Device → ℕ
is_record_lem (Some d) = 1
is_record_lem None = 0

-- words that decode are a record's
pub decoded_fits : (ws : List ℕ) (d : Device) → decoded_of ws ≡ Some d → (is_record ws ≡ true) × (record_of ws ≡ d)
unfolding decoded_of
decoded_fits ws d h =
    by_test (is_record ws) (λ t. let g : Some (record_of ws) ≡ Some d = simp t at h in (t, ap (meant d) g))
    (λ t. let g : None ≡ Some d = simp t at h in let y : ◌≡◌ {A = ℕ} 0 1 = ap is_record_lem g in absurd (omega arith))

pub decoded_long : (ws : List ℕ) (d : Device) → decoded_of ws ≡ Some d → 15 ≤ length ws
decoded_long ws d h = (record_fits ws (decoded_fits ws d h).0).long

-- what decodes encodes to the same words
pub decoded_encodes : (ws : List ℕ) (d : Device) → decoded_of ws ≡ Some d → put ws 0 (words_of d) ≡ ws
decoded_encodes ws d h = let f = decoded_fits ws d h in rw (← f.1) (record_written ws f.0)

-- ---- a record in part: where words are a record's, the ones that a call may change are enough

-- a word that is as it was, written again
again : (xs ws : List ℕ) (j : ℕ) → get_or xs j 0 ≡ get_or ws j 0 → set xs j (get_or ws j 0) ≡ xs
again xs ws j e = ap (set xs j) (sym e) ∙ set-get_or xs j 0

-- beside one that was written, and beside two
beside : (ws : List ℕ) (a j : ℕ) → 5 < j → set (set ws 5 a) j (get_or ws j 0) ≡ set ws 5 a
beside ws a j h = again (set ws 5 a) ws j (get_or-set_other ws 5 j a 0 (λ e. omega arith))

beside_two : (ws : List ℕ) (a b j : ℕ) → 5 < j → set (set (set ws 4 a) 5 b) j (get_or ws j 0) ≡ set (set ws 4 a) 5 b
beside_two ws a b j h =
    again (set (set ws 4 a) 5 b) ws j
    (get_or-set_other (set ws 4 a) 5 j b 0 (λ e. omega arith) ∙ get_or-set_other ws 4 j a 0 (λ e. omega arith))

module _ (ws : List ℕ) (d : Device) (is : decoded_of ws ≡ Some d) where
  -- a record of the same node reads back
  pub reads_back : (d' : Device) → d'.config.node_id ≡ d.config.node_id → decoded_of (put ws 0 (words_of d')) ≡ Some d'
  unfolding record_of
  reads_back d' same =
      let f = decoded_fits ws d is in
      let t = record_fits ws f.0 in
      let e : word ws 1 ≡ d.config.node_id = ap (λ (d : Device). d.config.node_id) f.1 in
      encoded_decodes d' ws (rw (same, ← e) t.node) t.long

  -- of a request
  pub request_encodes : (plugged : ℕ) (pending : Pending) → let d' = pending_to pending (plugged_to plugged d) in
      (after_request ws d' ≡ put ws 0 (words_of d')) × (decoded_of (after_request ws d') ≡ Some d')
  unfolding after_request words_of record_of put
  request_encodes plugged pending =
      let f = decoded_fits ws d is in
      let t = record_fits ws f.0 in
      let d' = pending_to pending (plugged_to plugged d) in
      let e : after_request ws d' ≡ put ws 0 (words_of d') =
      rw (← f.1)
      (simp (
        le-leb _ _ t.long,
        flag_written (word ws 8) t.several,
        flag_written (word ws 10) t.placed,
        set-get_or,
        beside ws plugged 6 (omega arith),
        beside ws plugged 7 (omega arith),
        beside ws plugged 8 (omega arith),
        beside ws plugged 9 (omega arith),
        beside ws plugged 10 (omega arith),
      )) in
      (e, ap decoded_of e ∙ reads_back d' refl)

  -- of a host's answer
  pub answer_encodes : (usable plugged : ℕ) (placed : Bool) (pending : Pending) → let d' = pending_to pending (placed_to placed (plugged_to plugged (usable_to usable d))) in
      (after_answer ws d' ≡ put ws 0 (words_of d')) × (decoded_of (after_answer ws d') ≡ Some d')
  unfolding after_answer words_of record_of put
  answer_encodes usable plugged placed pending =
      let f = decoded_fits ws d is in
      let t = record_fits ws f.0 in
      let d' = pending_to pending (placed_to placed (plugged_to plugged (usable_to usable d))) in
      let e : after_answer ws d' ≡ put ws 0 (words_of d') =
      rw (← f.1)
      (simp (
        le-leb _ _ t.long,
        flag_written (word ws 8) t.several,
        set-get_or,
        beside_two ws usable plugged 6 (omega arith),
        beside_two ws usable plugged 7 (omega arith),
        beside_two ws usable plugged 8 (omega arith),
        beside_two ws usable plugged 9 (omega arith),
      )) in
      (e, ap decoded_of e ∙ reads_back d' refl)
