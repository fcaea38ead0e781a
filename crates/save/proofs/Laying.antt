-- SPDX-License-Identifier: Apache-2.0 AND BSD-3-Clause
-- `runs_of`: the fields and the runs of a text make a state, or no state has them.
use Rattle.std.specs.Prelude.{Option, Some, None, Err, ok_or}
use Rattle.refusal.specs.declared.Refusal.{Refusal}
use Rattle.refusal.specs.declared.Refusal.TheVariants as refusal
use Prim.Native.Nat.{ℕ, suc, ◌+◌, ◌-◌, ◌*◌, ◌≤◌}
use mathlib.Core.Path.{◌≡◌, refl, ap, ◌∙◌, sym}
use mathlib.Core.Bool.{Bool, true, false}
use mathlib.Core.List.{List, [], ◌∷◌, ◌++◌}
use native.Mathlib.Omega.{arith}
use borrow.Author.Tests.{eq-eqb}
use lib.Dec.{eqb}
use lib.ListN.{length, replicate}
use Rattle.units.specs.Numbers.{blocks_in}
use Rattle.bitmap.specs.Blocks.{ones, all_are}
use Rattle.save.specs.declared.Fields.{Fields}
use Rattle.runs.specs.Runs.{Run, runs_of, spread, RunsApart, total}
use Rattle.runs.specs.Text.{runs_text}
use Rattle.runs.specs.Reading.{Counts}
use Rattle.runs.proofs.Runs.{runs_spread}
use Rattle.runs.proofs.Spread.{spread-length, spread-ones, spread_more, past_clear, runs_ones, runs_inside}
use Rattle.save.specs.Text.{shape_ok, all_of, used_of, valid_of, IsState}
use Rattle.save.proofs.Text.{shape_is, in_blocks, valid_shape, valid_past, valid_plugged, state_block}

later : (i end stop : ℕ) (rs : List Run) → end ≤ stop → RunsApart i end rs → RunsApart i stop rs
later i end stop [] h a = tt
later i end stop (r ∷ rs) h a = (a.0, a.1, omega (arith, a.2), later (suc (r.first + r.count)) end stop rs h a.3)

bad_is : {n : ℕ} → None ≡ Some n → ⊥
bad_is h = let z : ◌≡◌ {A = ℕ} 0 1 = cc in omega arith

blocks_is : {m n : ℕ} → Some m ≡ Some n → m ≡ n
blocks_is h = cc

-- what is passed on for a missing value
pub missing_is : {T : Type 0} (o : Option T) (why other : Refusal) → Err other ≡ ok_or o why → (other ≡ why) × (o ≡ None)
missing_is None why other e = (cc, refl)
missing_is (Some x) why other e = cc

-- the state of runs
made : (f : Fields) (end : ℕ) → shape_ok f ≡ true → end ≡ used_of f → (rs : List Run) → RunsApart 0 end rs → (l : List ℕ) → runs_text rs ≡ l → f.plugged ≡ total rs * f.block
    → (bs : List Bool) × IsState f bs × (runs_text (runs_of bs) ≡ l)
unfolding valid_of
made f end s u rs a l t k =
    let all = all_of f in
    let h = (shape_is f s).usable_in in
    let ra = in_blocks f s f.region in
    let ua = in_blocks f s f.usable in
    let i : end ≤ all = omega arith in
    let g = all - end in
    let z : all ≡ end + g = omega arith in
    let bs = spread 0 all rs in
    let b = later 0 end all rs i a in
    let n : length (spread 0 all rs) ≡ all = spread-length 0 all rs (omega arith) b ∙ omega arith in
    let m : length (spread 0 end rs) ≡ end = spread-length 0 end rs (omega arith) a ∙ omega arith in
    let x : spread 0 all rs ≡ spread 0 end rs ++ replicate g false = ap (λ (y : ℕ). spread 0 y rs) z ∙ spread_more 0 end g rs (omega arith) a in
    let y : all_are (spread 0 end rs ++ replicate g false) end g false ≡ true = rw m at (past_clear g g (spread 0 end rs)) in
    let p : all_are (spread 0 all rs) end g false ≡ true = rw x y in
    let o = spread-ones 0 all rs in
    let q : eqb f.plugged (ones (spread 0 all rs) * f.block) ≡ true = rw o (eq-eqb f.plugged (total rs * f.block) k) in (
      spread 0 all rs,
      record { all = n; valid = rw (s, ← u, p, q) },
      ap runs_text (runs_spread 0 all rs b) ∙ t,
    )

-- l is not the text of the runs of a state with these fields
abbrev No : Fields → List ℕ → Type 0
No f l = (◌≡◌ {A = Refusal} refusal.NoState refusal.NoState) × ((bs : List Bool) → IsState f bs → runs_text (runs_of bs) ≡ l → ⊥)

pub laid_shape : (f : Fields) (l : List ℕ) (r : Bool) → r ≡ shape_ok f → r ≡ false → No f l
laid_shape f l r p q =
    (refl, λ bs st t. let a = sym p ∙ q in let b = valid_shape st in let z : ◌≡◌ {A = ℕ} 0 1 = cc in omega arith)

module _ (f : Fields) (end : ℕ) (s : shape_ok f ≡ true) (u : end ≡ used_of f) where
  pub end_few : end ≤ 262144
  end_few = let h = shape_is f s in let a = h.usable_in in let b = h.region_top in let c = in_blocks f s f.usable in omega arith

  state_runs : (bs : List Bool) → IsState f bs → RunsApart 0 end (runs_of bs)
  state_runs bs st =
      let h = (shape_is f s).usable_in in
      let a = st.all in
      let ra = in_blocks f s f.region in
      let ua = in_blocks f s f.usable in
      let p : all_are bs end (length bs - end) false ≡ true = rw (a, u) (valid_past st) in
      runs_inside bs end (omega arith) p

  -- `end` as the code hands it on
  module _ (e : ℕ) (same : e ≡ end) (l : List ℕ) (w : Option ℕ) (c : Counts 0 e 0 l w) where
    counts : Counts 0 end 0 l w
    counts = rw same at c

    pub laid_bad : w ≡ None → No f l
    laid_bad q = (refl, λ bs st t. bad_is (sym q ∙ counts.whole (runs_of bs) (state_runs bs st) t))

    module _ (n plugged : ℕ) (q : w ≡ Some n) (v : plugged ≡ blocks_in f.block f.plugged) where
      pub laid_other : (plugged ≡ n → ⊥) → No f l
      laid_other d = (
        refl,
        λ bs st t.
            let a : n ≡ 0 + total (runs_of bs) = blocks_is (sym q ∙ counts.whole (runs_of bs) (state_runs bs st) t) in
            let b = runs_ones bs in
            let k : f.plugged ≡ ones bs * 4194304 = rw (state_block st) at (valid_plugged st) in
            let p = in_blocks f s f.plugged in
            d (omega arith),
      )

      pub laid : plugged ≡ n → (bs : List Bool) × IsState f bs × (runs_text (runs_of bs) ≡ l)
      laid d = let o = counts.only n q in go o.0 o.1 o.2 o.3
        where
          go : (rs : List Run) → RunsApart 0 end rs → runs_text rs ≡ l → n ≡ 0 + total rs → (bs : List Bool) × IsState f bs × (runs_text (runs_of bs) ≡ l)
          go rs a t k = made f end s u rs a l t (rw (shape_is f s).block_size (let o = (shape_is f s).plugged_blocks_lem in let p = in_blocks f s f.plugged in omega arith))
