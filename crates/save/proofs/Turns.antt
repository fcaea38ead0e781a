-- SPDX-License-Identifier: Apache-2.0 AND BSD-3-Clause
-- What each step of writing, and of reading onto a bitmap, does.
use Rattle.std.specs.Prelude.{Ok, Err}
use Prim.Native.Nat.{ℕ, ◌+◌, ◌-◌, ◌*◌, ◌/◌, ◌≤◌, ◌<◌}
use mathlib.Core.Path.{◌≡◌, ap, ◌∙◌, sym}
use mathlib.Core.Bool.{Bool, true, false, ◌&&◌}
use mathlib.Core.List.{List, [], ◌∷◌, ◌++◌}
use native.Mathlib.Omega.{arith}
use borrow.Author.Tests.{ltb-false, le-ltb, le-leb, lt-leb}
use lib.Dec.{eqb, ltb}
use lib.ListN.{length, drop, take, replicate, length-take, length-append}
use lib.Seq.{sets}
use Rattle.units.proofs.Tests.{by_test}
use Rattle.units.specs.Numbers.{saturated, top}
use Rattle.text.specs.Putting.{Put}
use Rattle.text.proofs.Puts.{then}
use Rattle.forms.specs.Forms.{holes, filled}
use Rattle.forms.proofs.Laws.{Words, filled_length}
use Rattle.bitmap.specs.Blocks.{blocks, every, all_are, ones, range, fill, Outside, Filled}
use Rattle.bitmap.proofs.Laws.{blocks-length, range-take, range_length, ones-length, fill_left, fill_whole}
use Rattle.runs.specs.Runs.{Run, runs_of, laid_on}
use Rattle.runs.specs.Text.{runs_text}
use Rattle.runs.specs.Reading.{Lays}
use Rattle.runs.proofs.Spread.{take-drop, runs_ones, runs_laid}
use Rattle.runs.proofs.Lines.{runs_short, starts_are}
use Rattle.save.specs.declared.Fields.{Fields}
use Rattle.refusal.specs.declared.Refusal.{Refusal}
use Rattle.refusal.specs.declared.Refusal.TheVariants as refusal
use Rattle.save.specs.Text.{form_line, field_lines, fields_of, head_text, state_text, shape_ok, all_of, used_of, valid_of, IsState}
use Rattle.save.specs.Writing.{blocks_for, is_short, valid_in, text_in, length_of, wrote_of}
use Rattle.save.specs.Reading.{Refuses, Accepts, HoldsBlocks, Takes, NotTaken, AtMost, no_room}
use Rattle.save.proofs.Text.{shape_is, in_blocks, state_few, state_apart, one_text}
use Rattle.save.proofs.Heading.{not_later}

-- ---- `valid`

module _ (f : Fields) (m : List ℕ) (r : Bool) (p : r ≡ shape_ok f) where
  pub shape_bad : r ≡ false → false ≡ valid_in f m
  unfolding valid_of
  shape_bad q = let s = sym p ∙ q in rw s

  module _ (q : r ≡ true) (all used : ℕ) (a : all ≡ all_of f) (u : used ≡ used_of f) where
    good : shape_ok f ≡ true
    good = sym p ∙ q

    pub used_in : used ≤ all
    used_in =
        let h = (shape_is f good).usable_in in
        let x = in_blocks f good f.region in
        let y = in_blocks f good f.usable in
        omega arith

    same_past : all_are (take all (blocks m)) used (all - used) false ≡ all_are (blocks m) used (all - used) false
    same_past = let h = used_in in ap (every false) (range-take all (blocks m) used (all - used) (omega arith))

    valid_is : valid_in f m ≡ (all_are (blocks m) used (all - used) false && eqb f.plugged (ones (take all (blocks m)) * f.block))
    unfolding valid_of
    valid_is = rw (good, ← a, ← u, same_past)

    module _ (t : Bool) (w : t ≡ all_are (blocks m) used (all - used) false) where
      pub past_bad : t ≡ false → false ≡ valid_in f m
      past_bad o = let z = sym w ∙ o in sym (valid_is ∙ rw z)

      pub plugged_is : t ≡ true → (set : ℕ) → set ≡ ones (range (blocks m) 0 all) → eqb f.plugged (set * f.block) ≡ valid_in f m
      plugged_is o set e = let z = sym w ∙ o in sym (valid_is ∙ rw (z, ← e))

    pub set_few : (set : ℕ) → set ≡ ones (range (blocks m) 0 all) → set * f.block ≤ 1099511627776
    set_few set o =
        let h = (shape_is f good).region_top in
        let b = in_blocks f good f.region in
        let x = ones-length (range (blocks m) 0 all) in
        let y = range_length (blocks m) 0 all in
        let few : set ≤ 262144 = omega arith in
        rw (shape_is f good).block_size (omega arith)

-- ---- `head_length`

head_short : (f : Fields) → Words (fields_of f) → length (head_text 2 f) ≤ 200
unfolding holes
head_short f w =
    let a = filled_length 0 form_line (2 ∷ []) (omega arith, tt) in
    let b = filled_length 0 (field_lines 2) (fields_of f) w in
    let n = length-append (filled form_line (2 ∷ [])) (filled (field_lines 2) (fields_of f)) in
    omega arith

pub head_is : {head head' : List ℕ} (f : Fields) (r : ℕ) → length head ≡ 256 → Words (fields_of f) → Put head 0 (head_text 2 f) head' r → r ≡ length (head_text 2 f)
head_is f r l w p = let s = head_short f w in let e = p.next in omega arith

-- ---- `text_length`

module _ (f : Fields) (m : List ℕ) (all : ℕ) (a : all ≡ all_of f) (t : Bool) (s : t ≡ ltb (length m) ((all + 7) / 8)) where
  is_test : is_short f m ≡ t
  is_test = sym (s ∙ ap (λ (n : ℕ). ltb (length m) ((n + 7) / 8)) a)

  pub length_short : t ≡ true → Err refusal.TooShort ≡ length_of f m
  unfolding length_of
  length_short y = let e = is_test ∙ y in rw e

  module _ (n : t ≡ false) (v : Bool) (w : v ≡ valid_in f m) where
    long : is_short f m ≡ false
    long = is_test ∙ n

    pub length_bad : v ≡ false → Err refusal.NoState ≡ length_of f m
    unfolding length_of
    length_bad y = let e = long in let z = sym w ∙ y in rw (e, z)

    module _ (y : v ≡ true) where
      state_in_lem : IsState f (blocks_for f m)
      state_in_lem =
          let b = blocks-length m in
          let l = length-take (all_of f) (blocks m) in
          let k = ltb-false (length m) ((all_of f + 7) / 8) long in
          record { all = omega arith; valid = sym w ∙ y }

      module _ (head runs : ℕ) (h : head ≡ length (head_text 2 f)) (k : runs ≡ saturated (length (runs_text (runs_of (take all (blocks m)))))) where
        runs_few : length (runs_text (runs_of (blocks_for f m))) ≤ 12058624
        runs_few =
            let st = state_in_lem in
            let few = state_few st in
            let x = runs_short 0 (length (blocks_for f m)) (runs_of (blocks_for f m)) (omega arith) (state_apart st) in
            let y = runs_ones (blocks_for f m) in
            let z = ones-length (blocks_for f m) in
            omega arith

        runs_is : runs ≡ length (runs_text (runs_of (blocks_for f m)))
        runs_is =
            let e : length (runs_text (runs_of (take all (blocks m)))) ≡ length (runs_text (runs_of (blocks_for f m))) =
            ap (λ (n : ℕ). length (runs_text (runs_of (take n (blocks m))))) a in
            let x = runs_few in
            omega arith

        pub length_fits : Words (fields_of f) → head + runs ≤ top
        length_fits ws = let x = runs_few in let y = runs_is in let z = head_short f ws in omega arith

        pub length_is : Ok (head + runs) ≡ length_of f m
        unfolding length_of state_text
        length_is =
            let e = long in
            let z = sym w ∙ y in
            let x = runs_is in
            let sum : head + runs ≡ length (head_text 2 f ++ runs_text (runs_of (blocks_for f m))) =
            ap (λ (n : ℕ). n + runs) h ∙ ap (λ (n : ℕ). length (head_text 2 f) + n) x ∙ sym (length-append (head_text 2 f) (runs_text (runs_of (blocks_for f m)))) in
            rw (e, z) (ap Ok sum)

-- ---- `write`

module _ (f : Fields) (m : List ℕ) where
  pub write_refused : (why : Refusal) (room : ℕ) → Err why ≡ length_of f m → Err why ≡ wrote_of f m room
  unfolding length_of wrote_of
  write_refused why room e =
      by_test (is_short f m) (λ t. rw t (rw t at e))
      (λ t. by_test (valid_in f m) (λ v. let x : Err why ≡ Ok (length (text_in f m)) = rw (t, v) at e in cc) (λ v. rw (t, v) (rw (t, v) at e)))

  module _ (n : ℕ) (e : Ok n ≡ length_of f m) where
    went : (is_short f m ≡ false) × (valid_in f m ≡ true) × (n ≡ length (text_in f m))
    unfolding length_of
    went =
        by_test (is_short f m) (λ t. let x : Ok n ≡ Err refusal.TooShort = rw t at e in cc)
        (λ t.
        by_test (valid_in f m)
        (λ v. let x : Ok n ≡ Ok (length (text_in f m)) = rw (t, v) at e in (t, v, cc))
        (λ v. let x : Ok n ≡ Err refusal.NoState = rw (t, v) at e in cc))

    pub write_short : (room : ℕ) → room < n → Err refusal.NoState ≡ wrote_of f m room
    unfolding wrote_of
    write_short room h =
        let w = went in
        let q = w.2 in
        let t = w.0 in
        let v = w.1 in
        let z = lt-leb (length (text_in f m)) room (omega arith) in
        rw (t, v, z)

    pub write_fits : (room : ℕ) → n ≤ room → Ok n ≡ wrote_of f m room
    unfolding wrote_of
    write_fits room h =
        let w = went in
        let q = w.2 in
        let t = w.0 in
        let v = w.1 in
        let z = le-leb (length (text_in f m)) room (omega arith) in
        rw (t, v, z) (ap Ok q)

pub text_put : (f : Fields) (m : List ℕ) (all : ℕ) → all ≡ all_of f → {before mid after : List ℕ} {to r : ℕ} → Put before 0 (head_text 2 f) mid to → Put mid to (runs_text (runs_of (take all (blocks m)))) after r
    → after ≡ sets before 0 (text_in f m)
unfolding state_text
text_put f m all a {before} p q =
    (then p q).held ∙ ap (λ (n : ℕ). sets before 0 (head_text 2 f ++ runs_text (runs_of (take n (blocks m))))) a

-- ---- the runs of a text that was accepted, laid where nothing is set

module _ (s : List ℕ) (f : Fields) (runs : ℕ) (a : Accepts s f runs) where
  pub laid_holds : (before mid after : List ℕ) → blocks mid ≡ replicate (length a.bs) false ++ drop (length a.bs) (blocks before)
      → Outside before mid 0 (length a.bs) → Lays (drop runs s) mid after → HoldsBlocks a.bs before after
  laid_holds before mid after e o l =
      let st = a.says.state in
      let few = state_few st in
      let same : l.runs ≡ runs_of a.bs =
      starts_are 0 (length a.bs) (runs_of a.bs) l.runs (drop runs s) (omega arith) (state_apart st) a.rest l.starts in
      let p = l.outside 0 (length a.bs) (rw same (state_apart st)) in
      record {
        as_blocks =
            l.as_blocks ∙ ap (λ (rs : List Run). laid_on rs (blocks mid)) same ∙ ap (laid_on (runs_of a.bs)) e ∙ runs_laid a.bs (drop (length a.bs) (blocks before));
        outside = record {
          same_length = p.same_length ∙ o.same_length;
          same_before = λ n h. p.same_before n h ∙ o.same_before n h;
          same_past = λ n h. p.same_past n h ∙ o.same_past n h;
        };
      }

  pub blocks_few : length a.bs ≤ 262144
  blocks_few = state_few a.says.state

cleared : (l : List Bool) (n : ℕ) → n ≤ length l → fill l 0 n false ≡ replicate n false ++ drop n l
cleared l n h =
    let t = length-take n l in
    let k : length (take n l) ≡ n = omega arith in
    ap (λ (x : List Bool). fill x 0 n false) (sym (take-drop n l))
    ∙ fill_left (take n l) (drop n l) 0 n false (omega arith)
    ∙ ap (λ (x : List Bool). x ++ drop n l) (fill_whole (take n l) n false (omega arith) ∙ ap (λ (x : ℕ). replicate x false) k)

-- ---- `read`

-- the ways in which a text is not taken: what is lent is too short, it is the text of no state, or the state does not fit
module _ (short : Bool) (Fits : Fields → List Bool → Type 0) (s : List ℕ) where
  pub too_short : short ≡ true → NotTaken short Fits s refusal.TooShort
  too_short e = record { why_is = rw e; none = λ f bs t. let l = t.long in let z : ◌≡◌ {A = ℕ} 0 1 = cc in omega arith }

  pub not_read : (k : Refusal) → short ≡ false → Refuses s k → NotTaken short Fits s k
  not_read k e h = record { why_is = rw e h.why_is; none = λ f bs t. h.no_state f bs t.says }

  pub not_fitting : short ≡ false → (f : Fields) (n : ℕ) (a : Accepts s f n) → (Fits f a.bs → ⊥) → NotTaken short Fits s refusal.NoState
  not_fitting e f n a unfit =
      let l = not_later a.says in
      record {
        why_is = rw (e, l);
        none = λ g cs t. let o = one_text s f g a.bs cs a.says t.says in unfit (rw (o.0, o.1) t.fits);
      }

module _ (s before mid after : List ℕ) (long : 32768 ≤ length before) (f : Fields) (n : ℕ) (there : Accepts s f n) (all : ℕ) (w : all ≡ all_of f) (most : ℕ) where
  blocks_of : all ≡ length there.bs
  blocks_of = w ∙ sym there.says.state.all

  pub read_large : most < all → NotTaken (no_room before) (AtMost most) s refusal.NoState
  read_large l = not_fitting (no_room before) (AtMost most) s (le-ltb (length before) 32768 long) f n there (λ q. let k = blocks_of in omega arith)

  pub read_state : all ≤ most → Filled before mid 0 all false → Lays (drop n s) mid after
      → (bs : List Bool) × Takes (no_room before) (AtMost most) s f bs × HoldsBlocks bs before after
  read_state q d l =
      let k = blocks_of in
      let few = blocks_few s f n there in
      let b = blocks-length before in
      let c = cleared (blocks before) (length there.bs) (omega arith) in
      let d' : Filled before mid 0 (length there.bs) false = rw k at d in
      let z : 0 + length there.bs ≡ length there.bs = omega arith in
      let o : Outside before mid 0 (length there.bs) = rw z at d'.outside in (
        there.bs,
        record { long = le-ltb (length before) 32768 long; says = there.says; fits = omega arith },
        laid_holds s f n there before mid after (d'.as_blocks ∙ c) o l,
      )
