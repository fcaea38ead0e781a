-- SPDX-License-Identifier: Apache-2.0 AND BSD-3-Clause
-- Old bytes and blocks tell each other; and moving there and back gives the same bytes, or the same text.
use Rattle.std.specs.Prelude.{Result, Ok, Err}
use Prim.Native.Nat.{ℕ, zero, suc, ◌+◌, ◌≤◌}
use mathlib.Core.Path.{◌≡◌, refl, ap, ◌∙◌, sym}
use mathlib.Core.Bool.{Bool, true, false, cond, ◌&&◌}
use mathlib.Core.List.{List, [], ◌∷◌}
use native.Mathlib.Omega.{arith}
use borrow.Author.Tests.{leb-true, le-leb, eqb-true, eq-eqb}
use lib.Dec.{leb, eqb}
use lib.ListN.{length, take, drop}
use lib.Seq.{sets, sets-eq, take_at}
use Rattle.units.proofs.Tests.{and_left, and_right}
use Rattle.save.specs.declared.Fields.{Fields}
use Rattle.refusal.specs.declared.Refusal.{Refusal}
use Rattle.refusal.specs.declared.Refusal.TheVariants as refusal
use Rattle.save.specs.Text.{state_text, shape_ok, all_of, valid_of, IsState, Says}
use Rattle.save.specs.Writing.{written_on}
use Rattle.save.specs.Reading.{no_room}
use Rattle.save.proofs.Text.{valid_shape, one_text}
use Rattle.old_form.specs.Old.{old_of, is_old, bits_of}
use Rattle.old_form.specs.Moves.{old_ok, new_text, moved_of, ToNew, ToOld}

-- ---- bytes and blocks

pub bits_old : (bs : List Bool) → bits_of (old_of bs) ≡ bs
unfolding bits_of old_of
bits_old [] = refl
bits_old (true ∷ bs) = ap (λ (l : List Bool). true ∷ l) (bits_old bs)
bits_old (false ∷ bs) = ap (λ (l : List Bool). false ∷ l) (bits_old bs)

byte_bit : (x : ℕ) → x ≤ 1 → cond (eqb x 1) 1 0 ≡ x
byte_bit zero h = refl
byte_bit (suc zero) h = refl
byte_bit (suc (suc x)) h = absurd (omega arith)

pub old_bits : (old : List ℕ) → is_old old ≡ true → old_of (bits_of old) ≡ old
unfolding bits_of old_of is_old
old_bits [] e = refl
old_bits (x ∷ xs) e =
    let h = byte_bit x (leb-true x 1 (and_left (leb x 1) _ e)) in
    let t = old_bits xs (and_right (leb x 1) _ e) in
    rw (h, t)

pub is_old_lem : (bs : List Bool) → is_old (old_of bs) ≡ true
unfolding is_old old_of
is_old_lem [] = refl
is_old_lem (true ∷ bs) = is_old_lem bs
is_old_lem (false ∷ bs) = is_old_lem bs

pub old_length : (bs : List Bool) → length (old_of bs) ≡ length bs
unfolding old_of
old_length [] = refl
old_length (b ∷ bs) = ap suc (old_length bs)

pub bits_length : (old : List ℕ) → length (bits_of old) ≡ length old
unfolding bits_of
bits_length [] = refl
bits_length (x ∷ xs) = ap suc (bits_length xs)

-- ---- the forms say the same: old bytes of a state, and its text

-- what is moved to new is a state
pub moved_state : (f : Fields) (old scratch : List ℕ) (room n : ℕ) → Ok n ≡ moved_of f old scratch room
    → (is_old old ≡ true) × IsState f (bits_of old) × (n ≡ length (new_text f old)) × (n ≤ room)
unfolding moved_of old_ok
moved_state f old scratch room n e = go (no_room scratch) refl
  where
    good : (b : Bool) → (old_ok f old && (valid_of f (bits_of old) && leb (length (new_text f old)) room)) ≡ b → Ok n ≡ cond b (Ok (length (new_text f old))) (Err refusal.NoState)
        → (is_old old ≡ true) × IsState f (bits_of old) × (n ≡ length (new_text f old)) × (n ≤ room)
    good true p q =
        let ok = and_left (old_ok f old) _ p in
        let v = and_right (old_ok f old) _ p in
        let l = and_right (shape_ok f) _ ok in
        let len : length old ≡ all_of f = eqb-true (length old) (all_of f) (and_left (eqb (length old) (all_of f)) _ l) in
        let same : n ≡ length (new_text f old) = cc in
        let fits = leb-true (length (new_text f old)) room (and_right (valid_of f (bits_of old)) _ v) in (
          and_right (eqb (length old) (all_of f)) _ l,
          record { all = bits_length old ∙ len; valid = and_left (valid_of f (bits_of old)) _ v },
          same,
          omega arith,
        )
    good false p q = let z : ◌≡◌ {A = ℕ} 0 1 = cc in absurd (omega arith)

    go : (b : Bool) → no_room scratch ≡ b → (is_old old ≡ true) × IsState f (bits_of old) × (n ≡ length (new_text f old)) × (n ≤ room)
    go true p = let q : Ok n ≡ Err refusal.TooShort = e ∙ rw p in let z : ◌≡◌ {A = ℕ} 0 1 = cc in absurd (omega arith)
    go false p = good _ refl (e ∙ rw p)

-- a state's old bytes are moved to its text, where there is room
pub state_moved : (f : Fields) (bs : List Bool) (scratch : List ℕ) (room : ℕ) → IsState f bs → no_room scratch ≡ false → length (state_text 2 f bs) ≤ room
    → moved_of f (old_of bs) scratch room ≡ Ok (length (state_text 2 f bs))
unfolding moved_of old_ok
state_moved f bs scratch room st long fits =
    let b = bits_old bs in
    let s = valid_shape st in
    let l : length (old_of bs) ≡ all_of f = old_length bs ∙ st.all in
    let v = st.valid in
    rw (long, b, s, eq-eqb (length (old_of bs)) (all_of f) l, is_old_lem bs, v, le-leb (length (state_text 2 f bs)) room fits)

-- the text that stands first in a buffer
pub first_of : (text out : List ℕ) → length text ≤ length out → take (length text) (sets out 0 text) ≡ text
first_of text out h = ap (take (length text)) (sets-eq text out 0 (omega arith)) ∙ take_at text (drop (0 + length text) out) (length text) refl

-- R15.10: from whatever was written, with any scratch, into any buffer with room
pub old_new_old : {f : Fields} {old scratch scratch' out out' : List ℕ} {n : ℕ} → ToNew f old scratch scratch' out out' (Ok n)
    → (work work' into into' : List ℕ) (r : Result Fields Refusal) → no_room work ≡ false → length old ≤ length into → ToOld (take n out') work work' into into' r
    → (r ≡ Ok f) × (take (length old) into' ≡ old)
old_new_old {f} {old} {scratch} {scratch'} {out} {out'} {n} m work work' into into' r long room o =
    let k = moved_state f old scratch (length out) n m.answer in
    let len = k.2 in
    let fits = k.3 in
    let text : take n out' ≡ new_text f old = ap (take n) m.buffer ∙ ap (λ (x : ℕ). take x (sets out 0 (new_text f old))) len ∙ first_of (new_text f old) out (omega arith) in
    let says : Says (take n out') f (bits_of old) = record { state = k.1; text = sym text } in
    go r o says k.0
  where
    go : (r : Result Fields Refusal) → ToOld (take n out') work work' into into' r → Says (take n out') f (bits_of old) → is_old old ≡ true → (r ≡ Ok f) × (take (length old) into' ≡ old)
    go (Ok g) o says is =
        let same = one_text (take n out') g f o.0 (bits_of old) o.1.says says in
        let b = old_bits old is in
        let bytes : old_of o.0 ≡ old = ap old_of same.1 ∙ b in
        (ap Ok same.0, ap (take (length old)) o.3 ∙ take_at (old_of o.0) (drop (length o.0) into) (length old) (ap length bytes) ∙ bytes)
    go (Err q) o says is =
        let b = bits_length old in
        absurd (o.0.none f (bits_of old) (record { long = long; says = says; fits = omega arith }))

-- R15.10
pub new_old_new : (s scratch scratch' old old' : List ℕ) (f : Fields) (o : ToOld s scratch scratch' old old' (Ok f))
    → (work work' out out' : List ℕ) (r : Result ℕ Refusal) → no_room work ≡ false → length s ≤ length out → ToNew f (take (all_of f) old') work work' out out' r
    → (r ≡ Ok (length s)) × (take (length s) out' ≡ s)
new_old_new s scratch scratch' old old' f o work work' out out' r long room m =
    let st = o.1.says.state in
    let text = o.1.says.text in
    let bytes : take (all_of f) old' ≡ old_of o.0 = ap (take (all_of f)) o.3 ∙ take_at (old_of o.0) (drop (length o.0) old) (all_of f) (old_length o.0 ∙ st.all) in
    let same : length (state_text 2 f o.0) ≡ length s = ap length text in
    let answer : r ≡ Ok (length s) = m.answer ∙ ap (λ (x : List ℕ). moved_of f x work (length out)) bytes ∙ state_moved f o.0 work (length out) st long (omega arith) ∙ ap Ok same in
    let new : new_text f (take (all_of f) old') ≡ s = ap (new_text f) bytes ∙ ap (state_text 2 f) (bits_old o.0) ∙ text in
    let put : out' ≡ sets out 0 s = m.buffer ∙ ap (λ (x : Result ℕ Refusal). written_on x (new_text f (take (all_of f) old')) out) answer ∙ ap (sets out 0) new in
    (answer, ap (take (length s)) put ∙ first_of s out room)
