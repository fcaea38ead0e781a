-- SPDX-License-Identifier: Apache-2.0 AND BSD-3-Clause
-- How an outcome is given: a refusal, a response that was delivered, an answer that leaves all as it is.
use Prim.Native.Nat.{ℕ}
use mathlib.Core.Path.{◌≡◌, refl, ap, sym}
use mathlib.Core.List.{List, []}
use Rattle.std.specs.Prelude.{Result, Ok, Err, ⊤}
use Rattle.refusal.specs.declared.Refusal.{Refusal}
use Rattle.refusal.specs.Refusal.{number}
use Rattle.bitmap.specs.Blocks.{blocks}
use Rattle.rows.specs.Rows.{rows_of}
use Rattle.rows.proofs.Words.{whole}
use Rattle.record.specs.declared.Device.{Device}
use Rattle.step.specs.declared.Verdict.{Verdict}
use Rattle.step.specs.declared.Answered.{Answered}
use Rattle.step.specs.declared.Answer.{Answer}
use Rattle.step.specs.declared.Answer.TheVariants.{Refused}
use Rattle.step.specs.Answers.{answer_words}
use Rattle.step.specs.World.{World, Guest, Outcome, world_of, answered_by}
use Rattle.step.specs.Step.{served, refused, unless}
use Rattle.step.specs.Promise.{Lent, lent, on, left_by, Leaves, Gives}

-- a response, as it is delivered on guest memory alone
abbrev pub Responded : Guest → (status : ℕ) → Verdict → Device → Answered → (bytes : List ℕ) → Type 0
Responded g status v d s bytes =
    Gives (served v status (world_of d [] []) g) (lent [] [] g.mem) (lent [] [] bytes) s

-- a response that was delivered, and tables that are those of its world
pub serves : (g : Guest) (status : ℕ) {v : Verdict} {s : Answered} {bytes : List ℕ} {l : Lent} (w : World) (bitmap : List ℕ) → Responded g status v w.device s bytes → blocks bitmap ≡ w.blocks → rows_of l.table ≡ w.rows → Gives (served v status w g) l (lent bitmap l.table bytes) s
serves g status {l = l} w bitmap p b t =
    record {
      answered = p.answered;
      told = p.told;
      recorded = p.recorded;
      leaves = record { marked = b; mapped = rw (← t) (sym (whole l.table)); left = p.leaves.left };
    }

-- an answer that leaves guest memory and the tables as they are
pub answers : {s : Answered} {l : Lent} (w : World) (a : Answer) → s ≡ record { device = w.device; answer = a } → blocks l.bitmap ≡ w.blocks → rows_of l.table ≡ w.rows → Gives (record { world = w; answer = a; bytes = l.bytes }) l l s
answers {l = l} w a e b t =
    record {
      answered = rw e;
      told = rw e;
      recorded = rw e;
      leaves = record { marked = b; mapped = rw (← t) (sym (whole l.table)); left = refl };
    }

-- of the tables that were lent only the map table is compared
pub relent : {o : Outcome} {l l' after : Lent} {s : Answered} → l.table ≡ l'.table → Gives o l after s → Gives o l' after s
relent e m =
    record {
      answered = m.answered;
      told = m.told;
      recorded = m.recorded;
      leaves = record { marked = m.leaves.marked; mapped = rw e at m.leaves.mapped; left = m.leaves.left };
    }

-- what gives an outcome gives the same outcome
pub as_given : {o o' : Outcome} {before after : Lent} {s : Answered} → o ≡ o' → Gives o' before after s → Gives o before after s
as_given e m = rw e m

-- an outcome whose answer and record are known
pub as_answered : (o : Outcome) (before after : Lent) (s : Answered) → s ≡ answered_by o → Leaves (left_by o) before after → Gives o before after s
as_answered o before after s e m =
    record { answered = ap (λ s. s.answer) e; told = ap (λ s. answer_words s.answer) e; recorded = ap (λ s. s.device) e; leaves = m }

-- ---- the refusals
module _ (d : Device) (l : Lent) where
  pub refused_gives : (r : Refusal) (o : Outcome) (s : Answered) → o ≡ refused r (on d l) l.bytes → s ≡ record { device = d; answer = Refused (number r) } → Gives o l l s
  refused_gives r o s e a =
      rw (e, a)
      (record { answered = refl; told = refl; recorded = refl; leaves = record { marked = refl; mapped = sym (whole l.table); left = refl } })

  -- the call is refused by its first tests
  pub stops : (x : Result ⊤ Refusal) (r : Refusal) (o : Outcome) (s : Answered) → x ≡ Err r → s ≡ record { device = d; answer = Refused (number r) } → Gives (unless x (on d l) l.bytes o) l l s
  unfolding unless
  stops x r o s e a = refused_gives r _ s (rw e) a

-- or it goes on
pub goes_on : (x : Result ⊤ Refusal) (w : World) (bytes : List ℕ) (o : Outcome) (before after : Lent) (s : Answered) → x ≡ Ok tt → Gives o before after s → Gives (unless x w bytes o) before after s
unfolding unless
goes_on x w bytes o before after s e m = rw e m
