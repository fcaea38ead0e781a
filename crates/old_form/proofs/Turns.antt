-- SPDX-License-Identifier: Apache-2.0 AND BSD-3-Clause
-- What each step of packing, unpacking and moving does.
use Rattle.std.specs.Prelude.{Result, Ok, Err, IsTrue, ◌↔◌, EachIndex, slice_index}
use mir.Val.{bool_byte}
use Prim.Native.Nat.{ℕ, zero, suc, ◌+◌, ◌/◌, ◌≤◌, ◌<◌}
use mathlib.Core.Path.{◌≡◌, refl, ap, ◌∙◌, sym}
use mathlib.Core.Bool.{Bool, true, false, cond}
use mathlib.Core.List.{List, [], ◌∷◌, ◌++◌, append_assoc}
use native.Mathlib.Omega.{arith}
use native.Mathlib.Numerals.{add-one}
use borrow.Author.Tests.{leb-true, le-leb, lt-ltb, le-ltb, eq-eqb, ne_eqb}
use lib.Dec.{eqb, leb}
use lib.ListN.{length, set, take, drop, get_or, length-take, length-drop, length-append}
use lib.Seq.{take-suc, take-length, drop-cons, set_at, take_at}
use Rattle.units.proofs.Tests.{by_test, and_left, and_right}
use Rattle.bitmap.specs.Blocks.{blocks, block_at, fill, Outside, Filled}
use Rattle.bitmap.proofs.Laws.{blocks-length, fill_right, fill_none}
use Rattle.save.specs.declared.Fields.{Fields}
use Rattle.refusal.specs.declared.Refusal.{Refusal}
use Rattle.refusal.specs.declared.Refusal.TheVariants as refusal
use Rattle.save.specs.Text.{state_text, shape_ok, all_of}
use Rattle.save.specs.Writing.{blocks_for, is_short, wrote_of, written_on, Writes}
use Rattle.save.specs.Reading.{HoldsBlocks, no_room, ReadsState}
use Rattle.save.proofs.Text.{in_blocks, shape_is}
use Rattle.old_form.specs.Old.{old_of, is_old, bits_of}
use Rattle.old_form.specs.Moves.{old_ok, moved_of, ToNew, ToOld}
use Rattle.old_form.proofs.Laws.{old_length, bits_length}

-- ---- `is_old`

each_small : (old : List ℕ) → is_old old ≡ true → (k : ℕ) → k < length old → get_or old k 0 ≤ 1
unfolding is_old
each_small [] e k h = omega arith
each_small (x ∷ xs) e zero h = leb-true x 1 (and_left (leb x 1) _ e)
each_small (x ∷ xs) e (suc k) h = each_small xs (and_right (leb x 1) _ e) k (omega arith)

all_small : (old : List ℕ) → ((k : ℕ) → k < length old → get_or old k 0 ≤ 1) → is_old old ≡ true
unfolding is_old
all_small [] h = refl
all_small (x ∷ xs) h = rw (le-leb x 1 (h 0 (omega arith))) (all_small xs (λ k l. h (suc k) (omega arith)))

pub each_is_old : (r : Bool) (old : List ℕ) → (IsTrue r ↔ EachIndex old (λ k. slice_index old k ≤ 1)) → r ≡ is_old old
each_is_old true old i = sym (all_small old (i.0 refl))
each_is_old false old i = by_test (is_old old) (λ t. let z : false ≡ true = i.1 (each_small old t) in cc) (λ t. sym t)

-- ---- `pack`

-- the first i bytes are packed
pub record Packing (old entry : List ℕ) (i : ℕ) (cur : List ℕ) : Type 0 where
  pub as_blocks : blocks cur ≡ bits_of (take i old) ++ drop i (blocks entry)
  pub outside : Outside entry cur 0 i

pub pack_start : (old entry : List ℕ) → Packing old entry 0 entry
unfolding bits_of
pack_start old entry = record { as_blocks = refl; outside = record { same_length = refl; same_before = λ n h. refl; same_past = λ n h. refl } }

bits_append : (xs ys : List ℕ) → bits_of (xs ++ ys) ≡ bits_of xs ++ bits_of ys
unfolding bits_of
bits_append [] ys = refl
bits_append (x ∷ xs) ys = ap (λ (l : List Bool). eqb x 1 ∷ l) (bits_append xs ys)

fill_one : (b : Bool) (ys : List Bool) (v : Bool) → fill (b ∷ ys) 0 1 v ≡ v ∷ ys
unfolding fill
fill_one b ys v = ap (λ (l : List Bool). v ∷ l) (fill_none ys 0 v)

module _ {old entry : List ℕ} {i : ℕ} {cur : List ℕ} (o : Packing old entry i cur) (room : length old ≤ length (blocks entry)) where
  pub pack_turn : (cur' : List ℕ) (x : ℕ) → i < length old → x ≡ get_or old i 0 → Filled cur cur' i 1 (eqb x 1) → Packing old entry (i + 1) cur'
  unfolding bits_of
  pack_turn cur' x h e d =
      let xs = bits_of (take i old) in
      let bs = blocks entry in
      let t = length-take i old in
      let len : length xs ≡ i = bits_length (take i old) ∙ omega arith in
      let z : i ≡ length xs + 0 = omega arith in
      let c = drop-cons bs i false (omega arith) in
      let one : bits_of (take (suc i) old) ≡ xs ++ (eqb x 1 ∷ []) =
      ap bits_of (take-suc old i 0 h) ∙ bits_append (take i old) (get_or old i 0 ∷ []) ∙ rw (← e) in
      let p = o.outside in
      let q = d.outside in
      record {
        as_blocks =
            d.as_blocks
            ∙ ap (λ (l : List Bool). fill l i 1 (eqb x 1)) o.as_blocks
            ∙ ap (λ (n : ℕ). fill (xs ++ drop i bs) n 1 (eqb x 1)) z
            ∙ fill_right xs (drop i bs) 0 1 (eqb x 1)
            ∙ ap (λ (l : List Bool). xs ++ fill l 0 1 (eqb x 1)) c
            ∙ ap (λ (l : List Bool). xs ++ l) (fill_one (get_or bs i false) (drop (suc i) bs) (eqb x 1))
            ∙ sym (append_assoc xs (eqb x 1 ∷ []) (drop (suc i) bs))
            ∙ ap (λ (l : List Bool). l ++ drop (suc i) bs) (sym one)
            ∙ rw (add-one i);
        outside = record {
          same_length = q.same_length ∙ p.same_length;
          same_before = λ n k. q.same_before n (omega arith) ∙ p.same_before n k;
          same_past = λ n k. q.same_past n k ∙ p.same_past n (omega arith);
        };
      }

  pub pack_end : length old ≤ i → i ≤ length old → HoldsBlocks (bits_of old) entry cur
  pack_end h k =
      let e : i ≡ length old = omega arith in
      let w : i ≡ length (bits_of old) = e ∙ sym (bits_length old) in
      let t : take i old ≡ old = ap (λ (n : ℕ). take n old) e ∙ take-length old in
      record {
        as_blocks = o.as_blocks ∙ ap (λ (l : List ℕ). bits_of l ++ drop i (blocks entry)) t ∙ ap (λ (n : ℕ). bits_of old ++ drop n (blocks entry)) w;
        outside = rw (← w) o.outside;
      }

-- ---- `unpack`

old_append : (xs ys : List Bool) → old_of (xs ++ ys) ≡ old_of xs ++ old_of ys
unfolding old_of
old_append [] ys = refl
old_append (x ∷ xs) ys = ap (λ (l : List ℕ). cond x 1 0 ∷ l) (old_append xs ys)

-- a block's byte
pub byte_is : (b : Bool) → bool_byte b ≡ cond b 1 0
byte_is true = refl
byte_is false = refl

-- the first i bytes are those of the first i blocks
pub record Unpacking (bs : List Bool) (entry : List ℕ) (i : ℕ) (cur : List ℕ) : Type 0 where
  pub is : cur ≡ old_of (take i bs) ++ drop i entry

pub unpack_start : (bs : List Bool) (entry : List ℕ) → Unpacking bs entry 0 entry
unfolding old_of
unpack_start bs entry = record { is = refl }

first_i : (bs : List Bool) (i : ℕ) → i ≤ length bs → length (old_of (take i bs)) ≡ i
first_i bs i h = let t = length-take i bs in old_length (take i bs) ∙ omega arith

module _ {bs : List Bool} {entry : List ℕ} {i : ℕ} {cur : List ℕ} (o : Unpacking bs entry i cur) where
  pub unpack_long : i ≤ length bs → i ≤ length entry → length cur ≡ length entry
  unpack_long h k =
      let e = ap length o.is in
      let a = length-append (old_of (take i bs)) (drop i entry) in
      let b = first_i bs i h in
      let c = length-drop i entry in
      omega arith

  pub unpack_turn : (b : Bool) (x : ℕ) → i < length bs → i < length entry → b ≡ block_at bs i → x ≡ cond b 1 0 → Unpacking bs entry (i + 1) (set cur i x)
  unfolding old_of
  unpack_turn b x h k e v =
      let xs = old_of (take i bs) in
      let c = drop-cons entry i 0 k in
      let one : old_of (take (suc i) bs) ≡ xs ++ (x ∷ []) =
      ap old_of (take-suc bs i false h) ∙ old_append (take i bs) (get_or bs i false ∷ []) ∙ rw (← e, ← v) in
      record {
        is =
            ap (λ (l : List ℕ). set l i x) (o.is ∙ ap (λ (l : List ℕ). xs ++ l) c)
            ∙ set_at xs (get_or entry i 0) (drop (suc i) entry) x i (first_i bs i (omega arith))
            ∙ sym (append_assoc xs (x ∷ []) (drop (suc i) entry))
            ∙ ap (λ (l : List ℕ). l ++ drop (suc i) entry) (sym one)
            ∙ rw (add-one i);
      }

  pub unpack_end : (n : ℕ) → n ≤ i → i ≤ n → cur ≡ old_of (take n bs) ++ drop n entry
  unpack_end n h k = let e : i ≡ n = omega arith in rw (← e) o.is

-- ---- `to_new`

module _ (f : Fields) (old scratch out : List ℕ) where
  pub no_scratch : length scratch < 32768 → ToNew f old scratch scratch out out (Err refusal.TooShort)
  unfolding moved_of
  no_scratch h =
      let e : no_room scratch ≡ true = lt-ltb (length scratch) 32768 h in
      record {
        answer = rw e;
        buffer = refl;
        packed = λ p. let q : false ≡ true = rw e at p in let z : ◌≡◌ {A = ℕ} 0 1 = cc in absurd (omega arith);
        untouched = λ p. refl;
      }

  module _ (long : 32768 ≤ length scratch) where
    there : no_room scratch ≡ false
    there = le-ltb (length scratch) 32768 long

    not_old : old_ok f old ≡ false → ToNew f old scratch scratch out out (Err refusal.NoState)
    unfolding moved_of
    not_old e =
        let l = there in
        record {
          answer = rw (l, e);
          buffer = refl;
          packed = λ p. let q : false ≡ true = rw (l, e) at p in let z : ◌≡◌ {A = ℕ} 0 1 = cc in absurd (omega arith);
          untouched = λ p. refl;
        }

    pub no_shape_lem : (r : Bool) → r ≡ shape_ok f → r ≡ false → ToNew f old scratch scratch out out (Err refusal.NoState)
    unfolding old_ok
    no_shape_lem r p q = let s = sym p ∙ q in not_old (rw s)

    module _ (r : Bool) (p : r ≡ shape_ok f) (q : r ≡ true) (all : ℕ) (a : all ≡ all_of f) where
      shape : shape_ok f ≡ true
      shape = sym p ∙ q

      pub wrong_number : (length old ≡ all → ⊥) → ToNew f old scratch scratch out out (Err refusal.NoState)
      unfolding old_ok
      wrong_number n = let s = shape in let e = ne_eqb (length old) all n in not_old (rw (s, ← a, e))

      module _ (n : length old ≡ all) (t : Bool) (o : t ≡ is_old old) where
        pub wrong_byte : t ≡ false → ToNew f old scratch scratch out out (Err refusal.NoState)
        unfolding old_ok
        wrong_byte w = let s = shape in let e = eq-eqb (length old) all n in let z = sym o ∙ w in not_old (rw (s, ← a, e, z))

        few : all ≤ 262144
        few = let h = (shape_is f shape).region_top in let b = in_blocks f shape f.region in omega arith

        pub has_room : length old ≤ length (blocks scratch)
        has_room = let x = few in let b = blocks-length scratch in omega arith

        module _ (w : t ≡ true) where
          old_ok_lem : old_ok f old ≡ true
          unfolding old_ok
          old_ok_lem = let s = shape in let e = eq-eqb (length old) all n in let z = sym o ∙ w in rw (s, ← a, e, z)

          pub moved : (scratch' out' : List ℕ) (x : Result ℕ Refusal) → HoldsBlocks (bits_of old) scratch scratch' → Writes f scratch' out out' x → ToNew f old scratch scratch' out out' x
          unfolding moved_of wrote_of
          moved scratch' out' x h y =
              let l = there in
              let k = old_ok_lem in
              let len : length (bits_of old) ≡ all_of f = bits_length old ∙ n ∙ a in
              let bits : blocks_for f scratch' ≡ bits_of old = ap (take (all_of f)) h.as_blocks ∙ take_at (bits_of old) (drop (length (bits_of old)) (blocks scratch)) (all_of f) len in
              let same = h.outside.same_length in
              let c = few in
              let short : is_short f scratch' ≡ false = le-ltb (length scratch') ((all_of f + 7) / 8) (omega arith) in
              let answer : x ≡ moved_of f old scratch (length out) = y.answer ∙ rw (short, bits, l, k) in
              record {
                answer = answer;
                buffer = y.buffer ∙ ap (λ (b : List Bool). written_on x (state_text 2 f b) out) bits;
                packed = λ _. h;
                untouched = λ p. let z : true ≡ false = rw (l, k) at p in let u : ◌≡◌ {A = ℕ} 0 1 = cc in absurd (omega arith);
              }

-- ---- `to_old`

module _ (s scratch scratch' old : List ℕ) (f : Fields) (g : ReadsState s (length old) scratch scratch' (Ok f)) (all : ℕ) (a : all ≡ all_of f) where
  pub fits_both : (all ≤ length (blocks scratch')) × (all ≤ length old)
  fits_both =
      let len = g.1.says.state.all in
      let fits = g.1.fits in
      let b = ap length g.2.as_blocks in
      let c = length-append g.0 (drop (length g.0) (blocks scratch)) in
      (omega arith, omega arith)

  pub unpacked : (old' : List ℕ) → old' ≡ old_of (take all (blocks scratch')) ++ drop all old → ToOld s scratch scratch' old old' (Ok f)
  unpacked old' q =
      let len : all ≡ length g.0 = a ∙ sym g.1.says.state.all in
      let bits : take all (blocks scratch') ≡ g.0 = ap (take all) g.2.as_blocks ∙ take_at g.0 (drop (length g.0) (blocks scratch)) all (sym len) in
      (g.0, g.1, g.2, q ∙ ap (λ (l : List Bool). old_of l ++ drop all old) bits ∙ ap (λ (n : ℕ). old_of g.0 ++ drop n old) len)
