-- SPDX-License-Identifier: Apache-2.0 AND BSD-3-Clause
-- One text for runs that are apart, and one list of runs for a text; and what each step of reading does.
use Rattle.std.specs.Prelude.{Option, Some, None}
use Prim.Native.Nat.{ℕ, suc, ◌+◌, ◌-◌, ◌*◌, ◌≤◌, ◌<◌}
use mathlib.Core.Path.{◌≡◌, refl, ap, ◌∙◌, sym}
use mathlib.Core.Bool.{Bool, true, false}
use mathlib.Core.List.{List, [], ◌∷◌, ◌++◌}
use native.Mathlib.Omega.{arith}
use borrow.Author.Tests.{le-leb, lt-ltb, leb-true, ltb-true}
use lib.Dec.{leb, ltb}
use lib.ListN.{length, drop, get_or, length-append, length-drop, drop_of_length-le}
use Rattle.units.proofs.Tests.{and_left, and_right}
use Rattle.text.specs.Decimal.{largest}
use Rattle.text.specs.Reading.{is_digit, digit_of}
use Rattle.bitmap.specs.Blocks.{blocks, Outside, Filled}
use Rattle.bitmap.proofs.Bytes.{blocks_tell}
use Rattle.forms.specs.Forms.{holes, filled, filled_from}
use Rattle.forms.specs.Scanning.{found, lost, byte_then, scan_of, ScannedAt}
use Rattle.forms.proofs.Laws.{filled_length, opened, scan_written, missing, scan_read, scan_at_found, scan_at_nowhere}
use Rattle.runs.specs.declared.RunLine.{RunLine}
use Rattle.runs.specs.Runs.{Run, RunsApart, total, laid_on}
use Rattle.runs.specs.Text.{run_line, runs_text}
use Rattle.runs.specs.Reading.{IsRunLine, run_ok, Counts, Starts, Lays}

-- ---- the runs' lines

pub runs_open : (rs : List Run) → 9 < digit_of (runs_text rs)
unfolding runs_text digit_of is_digit
runs_open [] = omega arith
runs_open (r ∷ rs) = opened 0 run_line (r.first ∷ r.count ∷ []) (runs_text rs) (runs_open rs) refl

pub run_written : (r : Run) (rs : List Run) → r.first ≤ largest → r.count ≤ largest → scan_of run_line (runs_text (r ∷ rs)) ≡ found (r.first ∷ r.count ∷ []) (runs_text rs)
unfolding runs_text holes is_digit
run_written r rs p q = scan_written 0 run_line (r.first ∷ r.count ∷ []) (runs_text rs) (runs_open rs) refl (p, (q, tt))

pub no_run : scan_of run_line (runs_text []) ≡ lost []
unfolding runs_text scan_of byte_then
no_run = refl

run_is : (r q : Run) → r.first ≡ q.first → r.count ≡ q.count → r ≡ q
run_is r q a b = ap (λ (x : ℕ). record { first = x; count = r.count }) a ∙ ap (λ (y : ℕ). record { first = q.first; count = y }) b

pub same_runs : (i j end stop : ℕ) (rs qs : List Run) → end ≤ largest → stop ≤ largest → RunsApart i end rs → RunsApart j stop qs → runs_text rs ≡ runs_text qs → rs ≡ qs
same_runs i j end stop [] [] u v a b h = refl
same_runs i j end stop [] (q ∷ qs) u v a b h =
    absurd (missing (sym no_run ∙ ap (scan_of run_line) h ∙ run_written q qs (omega (arith, b.2)) (omega (arith, b.2))))
same_runs i j end stop (r ∷ rs) [] u v a b h =
    absurd (missing (sym no_run ∙ ap (scan_of run_line) (sym h) ∙ run_written r rs (omega (arith, a.2)) (omega (arith, a.2))))
same_runs i j end stop (r ∷ rs) (q ∷ qs) u v a b h =
    let e : found (r.first ∷ r.count ∷ []) (runs_text rs) ≡ found (q.first ∷ q.count ∷ []) (runs_text qs) =
    sym (run_written r rs (omega (arith, a.2)) (omega (arith, a.2))) ∙ ap (scan_of run_line) h ∙ run_written q qs (omega (arith, b.2)) (omega (arith, b.2)) in
    let f : r.first ≡ q.first = cc in
    let c : r.count ≡ q.count = cc in
    let t : runs_text rs ≡ runs_text qs = cc in
    let w = run_is r q f c in
    let l = same_runs (suc (r.first + r.count)) (suc (q.first + q.count)) end stop rs qs u v a.3 b.3 t in
    cc

-- ---- `run_at`

module _ (s : List ℕ) (at : ℕ) {after : List ℕ} {r : Option ℕ} (o : ScannedAt (0 ∷ 0 ∷ []) s (scan_of run_line (drop at s)) r after) where
  pub run_found : (n : ℕ) → r ≡ Some n → scan_of run_line (drop at s) ≡ found (get_or after 0 0 ∷ get_or after 1 0 ∷ []) (drop n s)
  unfolding holes
  run_found n e = let f = scan_at_found run_line s at o n e in rw (f.stored 0 refl, f.stored 1 refl) f.is

  pub run_nowhere : r ≡ None → (us rest : List ℕ) → scan_of run_line (drop at s) ≡ found us rest → ⊥
  unfolding holes
  run_nowhere e = scan_at_nowhere run_line s at o e (omega arith)

-- ---- `count_runs`

bad_is : {n : ℕ} → None ≡ Some n → ⊥
bad_is h = let z : ◌≡◌ {A = ℕ} 0 1 = cc in omega arith

-- a text that starts with no run's line is that of no run, and empty
no_line : (from end : ℕ) (l : List ℕ) → end ≤ largest → ((us rest : List ℕ) → scan_of run_line l ≡ found us rest → ⊥) → (rs : List Run) → RunsApart from end rs → runs_text rs ≡ l → l ≡ []
unfolding runs_text
no_line from end l h n [] a t = sym t
no_line from end l h n (r ∷ rs) a t =
    absurd (n _ _ (ap (scan_of run_line) (sym t) ∙ run_written r rs (omega (arith, a.2)) (omega (arith, a.2))))

pub counts_none : (from end sum : ℕ) (l : List ℕ) → end ≤ largest → 0 < length l → ((us rest : List ℕ) → scan_of run_line l ≡ found us rest → ⊥) → Counts from end sum l None
counts_none from end sum l h p n =
    record {
      whole = λ rs a t. let e : length l ≡ 0 = ap length (no_line from end l h n rs a t) in absurd (omega arith);
      only = λ m e. absurd (bad_is e);
    }

pub counts_end : (from end sum : ℕ) → end ≤ largest → Counts from end sum [] (Some sum)
unfolding total runs_text
counts_end from end sum h = record { whole = go; only = λ m e. ([], tt, refl, (let q : sum ≡ m = cc in omega arith)) }
  where
    go : (rs : List Run) → RunsApart from end rs → runs_text rs ≡ [] → Some sum ≡ Some (sum + total rs)
    go [] a t = let z : sum ≡ sum + 0 = omega arith in ap Some z
    go (r ∷ rs) a t =
        absurd (missing (sym no_run ∙ ap (scan_of run_line) (sym t) ∙ run_written r rs (omega (arith, a.2)) (omega (arith, a.2))))

run_ok_lem : (first count from end : ℕ) → run_ok first count from end ≡ true → (from ≤ first) × (0 < count) × (first + count ≤ end)
unfolding run_ok
run_ok_lem first count from end e =
    let r = and_right (leb from first) _ e in
    (leb-true from first (and_left (leb from first) _ e), ltb-true 0 count (and_left (ltb 0 count) _ r), leb-true (first + count) end (and_right (ltb 0 count) _ r))

ok_run : (first count from end : ℕ) → from ≤ first → 0 < count → first + count ≤ end → run_ok first count from end ≡ true
unfolding run_ok
ok_run first count from end p q r = rw (le-leb from first p, lt-ltb 0 count q) (le-leb (first + count) end r)

module _ (from end sum : ℕ) (l : List ℕ) (h : end ≤ largest) (first count : ℕ) (rest : List ℕ) (e : scan_of run_line l ≡ found (first ∷ count ∷ []) rest) where
  -- runs whose text is l start with this one
  starts : (P : Type 0) (rs : List Run) → RunsApart from end rs → runs_text rs ≡ l
      → ((qs : List Run) → run_ok first count from end ≡ true → RunsApart (suc (first + count)) end qs → runs_text qs ≡ rest → total rs ≡ count + total qs → P) → P
  unfolding total
  starts P [] a t f = absurd (missing (sym no_run ∙ ap (scan_of run_line) t ∙ e))
  starts P (r ∷ rs) a t f =
      let q : found (r.first ∷ r.count ∷ []) (runs_text rs) ≡ found (first ∷ count ∷ []) rest =
      sym (run_written r rs (omega (arith, a.2)) (omega (arith, a.2))) ∙ ap (scan_of run_line) t ∙ e in
      let x : r.first ≡ first = cc in
      let y : r.count ≡ count = cc in
      let w : runs_text rs ≡ rest = cc in
      let z : r.first + r.count ≡ first + count = omega arith in
      f rs (ok_run first count from end (omega (arith, a.0)) (omega (arith, a.1)) (omega (arith, a.2))) (rw z at a.3) w (rw y)

  pub counts_bad : run_ok first count from end ≡ false → Counts from end sum l None
  counts_bad n =
      record {
        whole = λ rs a t. starts (None ≡ Some (sum + total rs)) rs a t (λ qs y b u v. absurd (let z : ◌≡◌ {A = ℕ} 0 1 = cc in omega arith));
        only = λ m q. absurd (bad_is q);
      }

  pub counts_turn : (w : Option ℕ) → run_ok first count from end ≡ true → Counts (suc (first + count)) end (sum + count) rest w → Counts from end sum l w
  unfolding total runs_text holes
  counts_turn w y c =
      let o = run_ok_lem first count from end y in
      record {
        whole =
            λ rs a t.
            starts (w ≡ Some (sum + total rs)) rs a t
            (λ qs y b u v. let z : sum + count + total qs ≡ sum + total rs = omega arith in c.whole qs b u ∙ ap Some z);
        only =
            λ m q.
            let d = c.only m q in
            let k = d.3 in
            let p = (scan_read run_line l (first ∷ count ∷ []) rest e).1 in (
              record { first = first; count = count } ∷ d.0,
              (o.0, o.1, o.2, d.1),
              ap (λ (r : List ℕ). filled run_line (first ∷ count ∷ []) ++ r) d.2 ∙ p,
              omega arith,
            );
      }

  -- the text that is left is shorter
  shorter : length rest < length l
  unfolding filled_from holes
  shorter =
      let p = (scan_read run_line l (first ∷ count ∷ []) rest e).1 in
      let q : length l ≡ length (filled run_line (first ∷ count ∷ []) ++ rest) = ap length (sym p) in
      let r = length-append (filled run_line (first ∷ count ∷ [])) rest in
      omega arith

-- the loop stands at i of the text, with `sum` blocks in runs that end before block `from`: what is right for the text that is left is right for the whole
pub record Reading (s : List ℕ) (at end i from sum : ℕ) : Type 0 where
  pub back : (w : Option ℕ) → Counts from end sum (drop i s) w → Counts 0 end 0 (drop at s) w
  pub few : sum ≤ from
  pub inside : from ≤ end + 1

pub reading_start : (s : List ℕ) (at end : ℕ) → Reading s at end at 0 0
reading_start s at end = record { back = λ w c. c; few = omega arith; inside = omega arith }

module _ {s : List ℕ} {at end i from sum : ℕ} (h : end ≤ 1099511627776) (o : Reading s at end i from sum) where
  left_long : i < length s → 0 < length (drop i s)
  left_long p = let d = length-drop i s in omega arith

  pub read_none : i < length s → IsRunLine s (drop i s) None → Counts 0 end 0 (drop at s) None
  read_none p n = o.back None (counts_none from end sum (drop i s) (omega arith) (left_long p) n)

  pub read_end : length s ≤ i → Counts 0 end 0 (drop at s) (Some sum)
  read_end p = o.back (Some sum) (rw (drop_of_length-le s p) (counts_end from end sum (omega arith)))

  module _ (r : RunLine) (q : IsRunLine s (drop i s) (Some r)) (g : Bool) (t : g ≡ run_ok r.first r.count from end) where
    pub read_bad : g ≡ false → Counts 0 end 0 (drop at s) None
    read_bad u = o.back None (counts_bad from end sum (drop i s) (omega arith) r.first r.count (drop r.next s) q (sym t ∙ u))

    pub read_sums : g ≡ true → (sum + r.count ≤ end) × (r.first + r.count ≤ end)
    read_sums u =
        let k = run_ok_lem r.first r.count from end (sym t ∙ u) in
        let a = k.0 in
        let b = k.2 in
        let d = o.few in
        (omega arith, b)

    pub read_turn : g ≡ true → Reading s at end r.next (r.first + r.count + 1) (sum + r.count)
    read_turn u =
        let f = r.first in
        let c = r.count in
        let y = sym t ∙ u in
        let k = read_sums u in
        let a = k.0 in
        let b = k.1 in
        let m = (run_ok_lem f c from end y).0 in
        let d = o.few in
        let z : f + c + 1 ≡ suc (f + c) = omega arith in
        record {
          back = λ w v. o.back w (counts_turn from end sum (drop i s) (omega arith) f c (drop r.next s) q w y (rw z at v));
          few = omega arith;
          inside = omega arith;
        }

-- each line that is read leaves less of the text
pub line_less : (s : List ℕ) (i : ℕ) (r : RunLine) → IsRunLine s (drop i s) (Some r) → length s - r.next < length s - i
line_less s i r q =
    let a = shorter 0 0 0 (drop i s) (omega arith) r.first r.count (drop r.next s) q in
    let b = length-drop i s in
    let d = length-drop r.next s in
    omega arith

-- ---- `lay_runs`

same_outside : (entry : List ℕ) (end : ℕ) → Outside entry entry 0 end
same_outside entry end = record { same_length = refl; same_before = λ n h. refl; same_past = λ n h. refl }

then_outside : (entry mid exit : List ℕ) (f c end : ℕ) → f + c ≤ end → Outside entry mid f (f + c) → Outside mid exit 0 end → Outside entry exit 0 end
then_outside entry mid exit f c end h a b =
    record {
      same_length = b.same_length ∙ a.same_length;
      same_before = λ n k. b.same_before n k ∙ a.same_before n (omega arith);
      same_past = λ n k. b.same_past n k ∙ a.same_past n (omega arith);
    }

lays_none : (l entry : List ℕ) → ((us rest : List ℕ) → scan_of run_line l ≡ found us rest → ⊥) → Lays l entry entry
unfolding laid_on
lays_none l entry n = record { runs = []; starts = n; as_blocks = refl; long = refl; outside = λ from end a. same_outside entry end }

lays_turn : (l rest : List ℕ) (f c : ℕ) (entry mid exit : List ℕ) → scan_of run_line l ≡ found (f ∷ c ∷ []) rest → Filled entry mid f c true → Lays rest mid exit → Lays l entry exit
unfolding laid_on
lays_turn l rest f c entry mid exit e d o =
    record {
      runs = record { first = f; count = c } ∷ o.runs;
      starts = (rest, e, o.starts);
      as_blocks = o.as_blocks ∙ ap (laid_on o.runs) d.as_blocks;
      long = o.long ∙ d.outside.same_length;
      outside = λ from end a. then_outside entry mid exit f c end a.2 d.outside (o.outside (suc (f + c)) end a.3);
    }

-- a text of runs that are apart starts with those, and with no others
pub starts_are : (from end : ℕ) (rs qs : List Run) (l : List ℕ) → end ≤ largest → RunsApart from end rs → runs_text rs ≡ l → Starts l qs → qs ≡ rs
starts_are from end [] [] l h a t s = refl
starts_are from end [] (q ∷ qs) l h a t s = absurd (missing (sym no_run ∙ ap (scan_of run_line) t ∙ s.1))
starts_are from end (r ∷ rs) [] l h a t s =
    absurd (s _ _ (ap (scan_of run_line) (sym t) ∙ run_written r rs (omega (arith, a.2)) (omega (arith, a.2))))
starts_are from end (r ∷ rs) (q ∷ qs) l h a t s =
    let p : found (r.first ∷ r.count ∷ []) (runs_text rs) ≡ found (q.first ∷ q.count ∷ []) s.0 =
    sym (run_written r rs (omega (arith, a.2)) (omega (arith, a.2))) ∙ ap (scan_of run_line) t ∙ s.1 in
    let x : r.first ≡ q.first = cc in
    let y : r.count ≡ q.count = cc in
    let w : runs_text rs ≡ s.0 = cc in
    let i = starts_are (suc (r.first + r.count)) end rs qs s.0 h a.3 w s.2 in
    let z = run_is r q x y in
    cc

-- ---- one outcome

starts_once : (l : List ℕ) (rs qs : List Run) → Starts l rs → Starts l qs → rs ≡ qs
starts_once l [] [] a b = refl
starts_once l [] (q ∷ qs) a b = absurd (a _ _ b.1)
starts_once l (r ∷ rs) [] a b = absurd (b _ _ a.1)
starts_once l (r ∷ rs) (q ∷ qs) a b =
    let p : found (r.first ∷ r.count ∷ []) a.0 ≡ found (q.first ∷ q.count ∷ []) b.0 = sym a.1 ∙ b.1 in
    let x : r.first ≡ q.first = cc in
    let y : r.count ≡ q.count = cc in
    let w : a.0 ≡ b.0 = cc in
    let i = starts_once a.0 rs qs a.2 (rw w b.2) in
    let z = run_is r q x y in
    cc

-- the bytes of a bitmap are below 256, as its type says
pub lays_once : (l entry xs ys : List ℕ) → ((i : ℕ) → get_or xs i 0 < 256) → ((i : ℕ) → get_or ys i 0 < 256) → Lays l entry xs → Lays l entry ys → xs ≡ ys
lays_once l entry xs ys p q a b =
    blocks_tell xs ys p q (a.as_blocks ∙ ap (λ (rs : List Run). laid_on rs (blocks entry)) (starts_once l a.runs b.runs a.starts b.starts) ∙ sym b.as_blocks)

pub counts_once : (from end sum : ℕ) (l : List ℕ) (a b : Option ℕ) → Counts from end sum l a → Counts from end sum l b → a ≡ b
counts_once from end sum l (Some n) b p q = let o = p.only n refl in ap Some o.3 ∙ sym (q.whole o.0 o.1 o.2)
counts_once from end sum l None (Some n) p q = let o = q.only n refl in p.whole o.0 o.1 o.2 ∙ ap Some (sym o.3)
counts_once from end sum l None None p q = refl

-- the loop stands at i of the text: what is right for the text that is left is right for the whole
pub record Setting (s : List ℕ) (at : ℕ) (entry : List ℕ) (i : ℕ) (cur : List ℕ) : Type 0 where
  pub back : (exit : List ℕ) → Lays (drop i s) cur exit → Lays (drop at s) entry exit
  pub long : length cur ≡ length entry

pub setting_start : (s : List ℕ) (at : ℕ) (entry : List ℕ) → Setting s at entry at entry
setting_start s at entry = record { back = λ x o. o; long = refl }

module _ {s : List ℕ} {at : ℕ} {entry : List ℕ} {i : ℕ} {cur : List ℕ} (o : Setting s at entry i cur) where
  pub set_none : IsRunLine s (drop i s) None → Lays (drop at s) entry cur
  set_none n = o.back cur (lays_none (drop i s) cur n)

  pub set_turn : (r : RunLine) → IsRunLine s (drop i s) (Some r) → (cur' : List ℕ) → Filled cur cur' r.first r.count true → Setting s at entry r.next cur'
  set_turn r q cur' d =
      record {
        back = λ x v. o.back x (lays_turn (drop i s) (drop r.next s) r.first r.count cur cur' x q d v);
        long = d.outside.same_length ∙ o.long;
      }

-- ---- how long the lines are

-- no line is longer than 46 bytes, and each run has a block
pub runs_short : (from end : ℕ) (rs : List Run) → end ≤ largest → RunsApart from end rs → length (runs_text rs) ≤ 46 * total rs
unfolding runs_text total holes
runs_short from end [] h a = omega arith
runs_short from end (r ∷ rs) h a =
    let some = a.1 in
    let l = filled_length 0 run_line (r.first ∷ r.count ∷ []) (omega (arith, a.2), (omega (arith, a.2), tt)) in
    let n = length-append (filled run_line (r.first ∷ r.count ∷ [])) (runs_text rs) in
    let i = runs_short (suc (r.first + r.count)) end rs h a.3 in
    omega arith
