-- SPDX-License-Identifier: Apache-2.0 AND BSD-3-Clause
-- What each step of writing and of measuring does.
use Rattle.std.specs.Prelude.{Option, Some, None}
use Prim.Native.Nat.{ℕ, zero, suc, min, ◌+◌, ◌-◌, ◌≤◌, ◌<◌}
use mathlib.Core.Path.{◌≡◌, refl, ap, ◌∙◌, sym}
use mathlib.Core.Bool.{Bool, true, false}
use mathlib.Core.List.{List, [], ◌∷◌, ◌++◌, append_assoc, append-nil}
use native.Mathlib.Omega.{arith}
use borrow.Author.Tests.{ltb-true, ltb-false, leb-true, leb-false}
use lib.Dec.{ltb, leb}
use lib.ListN.{length, drop, take, replicate, length-take, length-drop, length-append, drop_of_length-le}
use lib.Seq.{length-sets, take_all, drop-cons, drop-drop, get_or-take}
use Rattle.units.specs.Numbers.{saturated}
use Rattle.units.proofs.Tests.{by_test}
use Rattle.text.specs.Decimal.{largest}
use Rattle.text.specs.Putting.{Put}
use Rattle.text.proofs.Puts.{then}
use Rattle.forms.specs.Forms.{holes}
use Rattle.forms.proofs.Laws.{filled_length}
use Rattle.bitmap.specs.Blocks.{block_at, every, range, all_are, next_in_state}
use Rattle.bitmap.proofs.Laws.{range-take, range_length, next_at, next_nothing}
use Rattle.runs.specs.declared.NextRun.{NextRun}
use Rattle.runs.specs.Runs.{closed, runs_from, runs_of}
use Rattle.runs.specs.Text.{run_line, line_of, runs_text}
use Rattle.runs.specs.Next.{InARow, IsNext}
use Rattle.runs.proofs.Runs.{skip_clear, count_set, closed_run}
use Rattle.runs.proofs.Spread.{every_is, take-drop, end_clear}

-- ---- `count_from` and `next_run`, on the first `end` of the blocks bs

first_length : (bs : List Bool) (end : ℕ) → length (take end bs) ≡ min end (length bs)
first_length bs end = length-take end bs

block_of : (bs : List Bool) (end i : ℕ) → i < end → block_at (take end bs) i ≡ block_at bs i
block_of bs end i h = get_or-take end bs i false h

-- blocks in one state from i on
alike : (cs : List Bool) (v : Bool) (i n : ℕ) → i + n ≤ length cs → all_are cs i n v ≡ true → drop i cs ≡ replicate n v ++ drop (i + n) cs
alike cs v i n h e =
    let l = range_length cs i n in
    let k : length (range cs i n) ≡ n = omega arith in
    sym (take-drop n (drop i cs))
    ∙ ap (λ (l : List Bool). l ++ drop n (drop i cs)) (every_is v (range cs i n) e ∙ ap (λ (m : ℕ). replicate m v) k)
    ∙ ap (λ (l : List Bool). replicate n v ++ l) (drop-drop n i cs)

past_end : (cs : List Bool) (i : ℕ) → length cs ≤ i → block_at cs i ≡ false
past_end [] i h = refl
past_end (c ∷ cs) zero h = absurd (omega arith)
past_end (c ∷ cs) (suc i) h = past_end cs i (omega arith)

pub stop_after : (bs : List Bool) (end first : ℕ) (r : Option ℕ) → r ≡ next_in_state false bs first end → (stop : ℕ) → r ≡ Some stop → first ≤ stop
stop_after bs end first r e stop q = (next_at false bs first end stop (sym e ∙ q)).from_on

pub room_after : (bs : List Bool) (end first : ℕ) → first < length (take end bs) → (n : ℕ) → n ≡ min end (length bs) → first ≤ n
room_after bs end first h n e = let s = first_length bs end in omega arith

module _ (bs : List Bool) (end first : ℕ) (there : first < length (take end bs)) where
  short : length (take end bs) ≡ min end (length bs)
  short = first_length bs end

  pub row_stops : (r : Option ℕ) → r ≡ next_in_state false bs first end → (stop : ℕ) → r ≡ Some stop → InARow (take end bs) first (stop - first)
  row_stops r e stop q =
      let low = next_at false bs first end stop (sym e ∙ q) in
      let a = low.from_on in
      let b = low.before_end in
      let c = low.exists in
      let s = short in
      let z : first + (stop - first) ≡ stop = omega arith in
      let set : all_are (take end bs) first (stop - first) true ≡ true = ap (every true) (range-take end bs first (stop - first) (omega arith)) ∙ low.none_below in
      record {
        inside = omega arith;
        set = alike (take end bs) true first (stop - first) (omega arith) set;
        ends = rw z (block_of bs end stop b ∙ low.found);
      }

  pub row_ends : (r : Option ℕ) → r ≡ next_in_state false bs first end → r ≡ None → (n : ℕ) → n ≡ min end (length bs) → InARow (take end bs) first (n - first)
  row_ends r e q n k =
      let s = short in
      let z : first + (n - first) ≡ length (take end bs) = omega arith in
      let all : all_are bs first (end - first) true ≡ true = next_nothing false bs first end (sym e ∙ q) in
      let same : range (take end bs) first (end - first) ≡ range bs first (end - first) = range-take end bs first (end - first) (omega arith) in
      let d = length-drop first (take end bs) in
      let whole : range (take end bs) first (n - first) ≡ range (take end bs) first (end - first) =
      take_all (n - first) (drop first (take end bs)) (omega arith) ∙ sym (take_all (end - first) (drop first (take end bs)) (omega arith)) in
      record {
        inside = omega arith;
        set = alike (take end bs) true first (n - first) (omega arith) (ap (every true) (whole ∙ same) ∙ all);
        ends = past_end (take end bs) (first + (n - first)) (omega arith);
      }

-- a run ends where a clear block stands, or the list ends
run_closes : (cs : List Bool) (i n : ℕ) → block_at cs i ≡ false → runs_from i n (drop i cs) ≡ closed i n (runs_from i 0 (drop i cs))
unfolding runs_from closed
run_closes cs i n e =
    by_test (ltb i (length cs))
    (λ t. let d = drop-cons cs i false (ltb-true i (length cs) t) in rw (d, e))
    (λ t. let d = drop_of_length-le cs {i = i} (ltb-false i (length cs) t) in rw d)

module _ (bs : List Bool) (end from : ℕ) (r : Option ℕ) (e : r ≡ next_in_state true bs from end) where
  pub next_found : (first n : ℕ) → r ≡ Some first → (first < length (take end bs)) × (InARow (take end bs) first n → IsNext (take end bs) from (Some (record { first = first; count = n })))
  next_found first n q =
      let cs = take end bs in
      let low = next_at true bs from end first (sym e ∙ q) in
      let a = low.from_on in
      let b = low.before_end in
      let c = low.exists in
      let s = first_length bs end in
      let z : from + (first - from) ≡ first = omega arith in
      let y : 0 + n ≡ n = omega arith in
      let set : block_at (take end bs) first ≡ true = block_of bs end first b ∙ low.found in
      let clear : all_are (take end bs) from (first - from) false ≡ true = ap (every false) (range-take end bs from (first - from) (omega arith)) ∙ low.none_below in
      let skip : runs_from from 0 (drop from (take end bs)) ≡ runs_from first 0 (drop first (take end bs)) =
      ap (runs_from from 0) (alike (take end bs) false from (first - from) (omega arith) clear)
      ∙ skip_clear (first - from) from (drop (from + (first - from)) (take end bs))
      ∙ ap (λ (i : ℕ). runs_from i 0 (drop i (take end bs))) z in (
        omega arith,
        λ row.
            let some : 0 < n = not_none (take end bs) first n set row.ends in (
              a,
              some,
              row.inside,
              skip
                  ∙ ap (runs_from first 0) row.set
                  ∙ count_set n first 0 (drop (first + n) (take end bs))
                  ∙ ap (λ (m : ℕ). runs_from (first + n) m (drop (first + n) (take end bs))) y
                  ∙ run_closes (take end bs) (first + n) n row.ends
                  ∙ closed_run first n (runs_from (first + n) 0 (drop (first + n) (take end bs))) some,
            ),
      )
    where
      not_none : (cs : List Bool) (first n : ℕ) → block_at cs first ≡ true → block_at cs (first + n) ≡ false → 0 < n
      not_none cs first zero p q = let w : first + 0 ≡ first = omega arith in let u : true ≡ false = sym p ∙ ap (block_at cs) (sym w) ∙ q in let k : ◌≡◌ {A = ℕ} 0 1 = cc in absurd (omega arith)
      not_none cs first (suc n) p q = omega arith

  pub next_none : r ≡ None → runs_from from 0 (drop from (take end bs)) ≡ []
  unfolding closed
  next_none q =
      let cs = take end bs in
      let all : all_are bs from (end - from) false ≡ true = next_nothing true bs from end (sym e ∙ q) in
      let s = first_length bs end in
      let d = length-drop from (take end bs) in
      let same : drop from (take end bs) ≡ range bs from (end - from) =
      sym (take_all (end - from) (drop from (take end bs)) (omega arith)) ∙ range_cut bs end from in
      ap (runs_from from 0) (same ∙ every_is false (range bs from (end - from)) all) ∙ end_clear from 0 (length (range bs from (end - from)))
    where
      range_cut : (bs : List Bool) (end from : ℕ) → range (take end bs) from (end - from) ≡ range bs from (end - from)
      range_cut bs end from =
          by_test (leb from end)
          (λ t. let h = leb-true from end t in range-take end bs from (end - from) (omega arith))
          (λ t. let h = leb-false from end t in let z : end - from ≡ 0 = omega arith in rw z)

-- ---- the walk from run to run
-- it stands at block i; `done` is the text of the runs that are behind it
pub record Walk (bs : List Bool) (done : List ℕ) (i : ℕ) : Type 0 where
  pub rest : done ++ runs_text (runs_from i 0 (drop i bs)) ≡ runs_text (runs_of bs)

pub walk_start : (bs : List Bool) → Walk bs [] 0
walk_start bs = record { rest = refl }

module _ {bs : List Bool} {done : List ℕ} {i : ℕ} (o : Walk bs done i) where
  walk_run : (r : NextRun) → IsNext bs i (Some r) → Walk bs (done ++ line_of r.first r.count) (r.first + r.count)
  unfolding runs_text
  walk_run r h =
      let f = r.first in
      let n = r.count in
      record {
        rest =
            append_assoc done (line_of f n) (runs_text (runs_from (f + n) 0 (drop (f + n) bs)))
            ∙ ap (λ (l : List ℕ). done ++ l) (sym (ap runs_text h.3)) ∙ o.rest;
      }

  walk_none : runs_from i 0 (drop i bs) ≡ [] → done ≡ runs_text (runs_of bs)
  unfolding runs_text
  walk_none e = sym (append-nil done) ∙ ap (λ (l : List ℕ). done ++ l) (sym (ap runs_text e)) ∙ o.rest

-- ---- `put_runs`: what is behind the walk stands in the buffer
pub record Going (before : List ℕ) (at : ℕ) (bs : List Bool) (out : List ℕ) (to i : ℕ) : Type 0 where
  pub done : List ℕ
  pub put : Put before at done out to
  pub walk : Walk bs done i

pub going_start : (out : List ℕ) (at : ℕ) (bs : List Bool) (to : ℕ) → to ≡ min at (length out + 1) → Going out at bs out to 0
going_start out at bs to e = record { done = []; put = record { held = refl; next = omega arith }; walk = walk_start bs }

pub put_long : {before after text : List ℕ} {at r : ℕ} → Put before at text after r → length after ≡ length before
put_long {before} {after} {text} {at} p = let h = p.held in ap length h ∙ length-sets before at text

module _ {before : List ℕ} {at : ℕ} (bs : List Bool) {out : List ℕ} {to i : ℕ} (o : Going before at bs out to i) where
  pub going_run : (r : NextRun) → IsNext bs i (Some r) → {out' : List ℕ} {to' : ℕ} → Put out to (line_of r.first r.count) out' to' → Going before at bs out' to' (r.first + r.count)
  going_run r h p = record { done = o.done ++ line_of r.first r.count; put = then o.put p; walk = walk_run o.walk r h }

  pub going_none : IsNext bs i None → Put before at (runs_text (runs_of bs)) out to
  going_none h = let w = walk_none o.walk h in rw (← w) o.put

pub going_long : {before : List ℕ} {at : ℕ} {bs : List Bool} {out : List ℕ} {to i : ℕ} → Going before at bs out to i → length out ≡ length before
going_long {before} {at} o = put_long o.put

-- a run ends at or before the end, and behind the block where the walk stood
pub run_inside : (bs : List Bool) (end i : ℕ) (r : NextRun) → IsNext (take end bs) i (Some r) → (r.first + r.count ≤ end) × (i < r.first + r.count)
run_inside bs end i r h =
    let l = first_length bs end in
    let a = h.0 in
    let b = h.1 in
    let c = h.2 in
    (omega arith, omega arith)

-- ---- `line_length`: no line is longer than 46 bytes
pub line_is : {line line' : List ℕ} (first count r : ℕ) → length line ≡ 64 → first ≤ largest → count ≤ largest → Put line 0 (line_of first count) line' r → r ≡ length (line_of first count)
unfolding holes
line_is first count r l h k p =
    let s = filled_length 0 run_line (first ∷ count ∷ []) (h, (k, tt)) in
    let e = p.next in
    omega arith

-- ---- `runs_length`: the sum is the length of what is behind the walk
pub record Measured (bs : List Bool) (sum i : ℕ) : Type 0 where
  pub done : List ℕ
  pub is_sum : sum ≡ saturated (length done)
  pub walk : Walk bs done i

pub measured_start : (bs : List Bool) → Measured bs 0 0
measured_start bs = record { done = []; is_sum = omega arith; walk = walk_start bs }

module _ (bs : List Bool) {sum i : ℕ} (o : Measured bs sum i) where
  pub measured_none : IsNext bs i None → sum ≡ saturated (length (runs_text (runs_of bs)))
  measured_none h = o.is_sum ∙ ap (λ (t : List ℕ). saturated (length t)) (walk_none o.walk h)

  pub measured_run : (r : NextRun) → IsNext bs i (Some r) → (line sum' : ℕ) → line ≡ length (line_of r.first r.count) → sum' ≡ saturated (sum + line) → Measured bs sum' (r.first + r.count)
  measured_run r h line sum' p q =
      let s = o.is_sum in
      let l = length-append o.done (line_of r.first r.count) in
      record { done = o.done ++ line_of r.first r.count; is_sum = omega arith; walk = walk_run o.walk r h }
