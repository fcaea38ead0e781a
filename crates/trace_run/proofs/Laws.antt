-- SPDX-License-Identifier: Apache-2.0 AND BSD-3-Clause
-- The laws of `specs/Run.antt`: slots that count up, and what a line of output comes to.
use Rattle.std.specs.Prelude.{Option, Some, None}
use Prim.Native.Nat.{ℕ, zero, suc, ◌+◌, ◌≤◌, ◌<◌}
use mathlib.Core.Path.{◌≡◌, refl, sym, ap, ◌∙◌}
use mathlib.Core.List.{List, [], ◌∷◌, ◌++◌}
use native.Mathlib.Numerals.{add-one}
use native.Mathlib.Omega.{arith}
use lib.ListN.{length, take, set}
use lib.Seq.{take_all, take-suc-set}
use Rattle.bitmap.specs.Blocks.{blocks}
use Rattle.rows.specs.Rows.{written}
use Rattle.rows.proofs.Words.{whole}
use Rattle.step.specs.declared.Answered.{Answered}
use Rattle.step.specs.declared.Answer.{Answer}
use Rattle.step.specs.declared.Answer.TheVariants.{Done}
use Rattle.step.specs.World.{Outcome}
use Rattle.step.specs.Promise.{Lent, meant, Leaves}
use Rattle.trace_text.specs.declared.Line.{Line}
use Rattle.trace_text.specs.declared.Line.TheVariants.{First, Later}
use Rattle.trace_text.specs.Lines.{Reads}
use Rattle.trace_run.specs.Ops.{answer_text}
use Rattle.trace_run.specs.declared.Run.{Run}
use Rattle.trace_run.specs.declared.Run.TheVariants.{On, Ended}
use Rattle.trace_run.specs.declared.Shown.{Shown}
use Rattle.trace_run.specs.Run.{as_line, answered_as, counted_from, placed_as, placed_on, Prints, Comes, SlotFits}

-- ---- the slots

counted_more : (slot count : ℕ) → counted_from slot (suc count) ≡ counted_from slot count ++ (slot + count) ∷ []
unfolding counted_from
counted_more slot zero = let e : slot + 0 ≡ slot = omega arith in rw e
counted_more slot (suc count) =
    let e : slot + suc count ≡ suc slot + count = omega arith in
    rw e (ap (λ l. slot ∷ l) (counted_more (suc slot) count))

pub counted_take : (k count slot : ℕ) → k ≤ count → take k (counted_from slot count) ≡ counted_from slot k
unfolding counted_from
counted_take zero count slot h = refl
counted_take (suc k) zero slot h = absurd (omega arith)
counted_take (suc k) (suc count) slot h = ap (λ l. slot ∷ l) (counted_take k count (suc slot) (omega arith))

pub counted_turn : (slots : List ℕ) (first i : ℕ) → i < length slots → take i slots ≡ counted_from first i → take (i + 1) (set slots i (first + i)) ≡ counted_from first (i + 1)
counted_turn slots first i h e = rw (add-one, take-suc-set slots i (first + i) h, e) (sym (counted_more first i))

pub counted_end : (slots : List ℕ) (first i n : ℕ) → i ≡ n → length slots ≡ n → take i slots ≡ counted_from first i → slots ≡ counted_from first n
counted_end slots first i n e l t = sym (take_all i slots (omega arith)) ∙ t ∙ ap (counted_from first) e

-- the first line that was read has slots that fit
pub slot_fits : (s : List ℕ) (line : Option Line) → Reads s line → SlotFits line
slot_fits s (Some (First f)) h = h.only.range.slot
slot_fits s (Some (Later op)) h = tt
slot_fits s None h = tt

-- ---- a line of output

-- a line that comes to no call leaves all that is lent
unchanged : (l : Lent) → Leaves (meant l) l l
unchanged l = record { marked = refl; mapped = sym (whole l.table); left = refl }

pub printed_comes : (l : Lent) {run : Run} {said : Answer} {text out out' : List ℕ} {r : Shown}
    → Prints run said text out r out' → Comes (record { run = run; answer = said; left = meant l; printed = as_line text }) l l out out' r
printed_comes l p = record { stands = p.stands; said = p.said; leaves = unchanged l; printed = p.printed }

pub ended_comes : (l : Lent) (out : List ℕ) (r : Shown) → r.run ≡ Ended → r.answer ≡ Done → r.length ≡ 0
    → Comes (record { run = Ended; answer = Done; left = meant l; printed = [] }) l l out out r
ended_comes l out r e a z = record { stands = e; said = a; leaves = unchanged l; printed = record { held = refl; next = omega arith } }

-- a call that was answered, with `mem` for the bytes of guest memory then
module _ (o : Outcome) (mem : List ℕ) {s : Answered} {run : Run} {before after : Lent} {out out' : List ℕ} {r : Shown}
    (a : s.answer ≡ o.answer) (d : s.device ≡ o.world.device) (m : blocks after.bitmap ≡ o.world.blocks)
    (t : after.table ≡ written before.table o.world.rows) (l : after.bytes ≡ mem)
    (p : Prints run s.answer (answer_text s.answer s.device after.bytes) out r out') where
  comes : (to : Run) → run ≡ to → Comes (answered_as to o mem) before after out out' r
  comes to e =
      record { stands = p.stands ∙ e; said = p.said ∙ a; leaves = record { marked = m; mapped = t; left = l }; printed = rw (a, d, l) at p.printed }

  pub placed_comes : run ≡ placed_as s.answer s.device → Comes (placed_on o mem) before after out out' r
  placed_comes e = comes _ (rw (a, d) at e)

  pub applied_comes : run ≡ On s.device → Comes (answered_as (On o.world.device) o mem) before after out out' r
  applied_comes e = comes _ (e ∙ ap On d)
