-- SPDX-License-Identifier: Apache-2.0 AND BSD-3-Clause
-- The endings of a creation's answer: failed, past 2^64 - 1, and made; and what is heard of a creation is the host's answer, with guest memory as it was.
use Rattle.refusal.specs.Refusal.{number}
use Prim.Native.Nat.{ℕ, ◌+◌}
use mathlib.Core.Path.{◌≡◌, refl, sym, ap, ◌∙◌}
use mathlib.Core.Bool.{Bool, true, false}
use mathlib.Core.List.{List, []}
use lib.Dec.{leb, ltb}
use borrow.Author.Tests.{leb-true, leb-false, lt-ltb, le-ltb}
use Rattle.units.specs.Numbers.{top}
use Rattle.units.proofs.Tests.{by_test}
use Rattle.bitmap.specs.Blocks.{blocks}
use Rattle.rows.specs.declared.MapRow.{MapRow}
use Rattle.rows.specs.Rows.{written}
use Rattle.record.specs.declared.Device.{Device}
use Rattle.record.specs.declared.Pending.TheVariants.{Nothing, Create}
use Rattle.record.specs.Changes.{pending_to}
use Rattle.refusal.specs.declared.Refusal.TheVariants.{HostPastTop, CreationFailed}
use Rattle.step.specs.declared.Answer.TheVariants.{Refused}
use Rattle.step.specs.declared.Answered.{Answered}
use Rattle.step.specs.Answers.{answer_words}
use Rattle.step.specs.World.{Guest, no_guest, Outcome, world_of}
use Rattle.step.specs.Step.{covered_by, creates, host_answer}
use Rattle.step.specs.Promise.{lent, Gives}
use Rattle.step.proofs.Giving.{answers}

module _ (d : Device) (tb : List ℕ) (ok : Bool) (host i last : ℕ) (s : Answered) where
  pub failed : (d' : Device) → d' ≡ pending_to Nothing d → ok ≡ false → s ≡ record { device = d'; answer = Refused (number CreationFailed) } → Gives (host_answer (Create i last) (world_of d [] tb) no_guest ok host) (lent [] tb []) (lent [] tb []) s
  unfolding host_answer
  failed d' e t is = rw t (answers _ _ (rw e at is) refl refl)

  module _ (t : ok ≡ true) (n : ℕ) (r : Bool) (e : n ≡ covered_by (world_of d [] []) i last) (f : r ≡ leb (host + n) top) where
    pub past : r ≡ false → s ≡ record { device = d; answer = Refused (number HostPastTop) } → Gives (host_answer (Create i last) (world_of d [] tb) no_guest ok host) (lent [] tb []) (lent [] tb []) s
    unfolding host_answer
    past q is =
        let over : ltb top (host + n) ≡ true = lt-ltb top (host + n) (leb-false (host + n) top (sym f ∙ q)) in
        rw (t, rw e at over) (answers _ _ is refl refl)

    pub done : r ≡ true → (tb' : List ℕ) → Gives (creates (world_of d [] tb) i last host []) (lent [] tb []) (lent [] tb' []) s → Gives (host_answer (Create i last) (world_of d [] tb) no_guest ok host) (lent [] tb []) (lent [] tb' []) s
    unfolding host_answer
    done q tb' m =
        let within : ltb top (host + n) ≡ false = le-ltb top (host + n) (leb-true (host + n) top (sym f ∙ q)) in
        rw (t, rw e at within) m

-- ---- what is heard of a creation is the host's answer: it leaves the bitmap and guest memory as they were
by_parts : (o o' : Outcome) (s : Answered) (bm tb tb' bytes : List ℕ) → o.world.device ≡ o'.world.device → o.answer ≡ o'.answer → o.world.rows ≡ o'.world.rows → blocks bm ≡ o'.world.blocks → bytes ≡ o'.bytes
    → Gives o (lent [] tb []) (lent [] tb' []) s → Gives o' (lent bm tb bytes) (lent bm tb' bytes) s
by_parts o o' s bm tb tb' bytes d a r b left m =
    record {
      answered = m.answered ∙ a;
      told = m.told ∙ ap answer_words a;
      recorded = m.recorded ∙ d;
      leaves = record { marked = b; mapped = m.leaves.mapped ∙ ap (λ (rows : List MapRow). written tb rows) r; left = left };
    }

pub heard : (d : Device) (bm tb : List ℕ) (g : Guest) (ok : Bool) (host i last : ℕ) (s : Answered) (tb' : List ℕ) → Gives (host_answer (Create i last) (world_of d [] tb) no_guest ok host) (lent [] tb []) (lent [] tb' []) s → Gives (host_answer (Create i last) (world_of d bm tb) g ok host) (lent bm tb g.mem) (lent bm tb' g.mem) s
unfolding host_answer
heard d bm tb g ok host i last s tb' =
    by_test ok
    (λ u. by_test (ltb top (host + covered_by (world_of d [] []) i last))
    (λ v. rw (u, v) (by_parts _ _ s bm tb tb' g.mem refl refl refl refl refl))
    (λ v. rw (u, v) (by_parts _ _ s bm tb tb' g.mem refl refl refl refl refl)))
    (λ u. rw u (by_parts _ _ s bm tb tb' g.mem refl refl refl refl refl))
