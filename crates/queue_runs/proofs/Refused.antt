-- SPDX-License-Identifier: Apache-2.0 AND BSD-3-Clause
-- A refused call takes no head and changes nothing, nor does one that finds the ring empty; 12 never appears, and 7 does while a host call is pending.
use Rattle.std.specs.Prelude.{Option, Some, None, Ok, Err, Result}
use Prim.Native.Nat.{ℕ}
use mathlib.Core.Path.{◌≡◌, refl, ◌∙◌}
use mathlib.Core.Bool.{Bool}
use mathlib.Core.List.{List, []}
use lib.Dec.{eqb}
use borrow.Author.Tests.{eqb-true, eqb-false}
use Rattle.units.proofs.Tests.{by_test}
use Rattle.refusal.specs.declared.Refusal.{Refusal}
use Rattle.rings.specs.declared.Queue.{Queue}
use Rattle.step.specs.declared.Answer.TheVariants.{Refused}
use Rattle.step.specs.World.{World, Guest, Call, Request, HostAnswer, Outcome}
use Rattle.step.specs.Step.{step}
use Rattle.queue.specs.Queue.{QueueOutcome, took_head, queue_by, bytes_by, about, next_of, takes, answers}
use Rattle.history.specs.Refusals.{lent_bytes}
use Rattle.history.proofs.Refusals.{refused_changes_nothing, ten_is_creation_failed}
use Rattle.queue_runs.specs.Runs.{Beside, Placing, Sizing, Reading, Writing, beside_call, QueueCall, TakeNext, Host, PastIt, queue_step, ending_told, taken_by, used_by, newly_taken, newly_reported, FromEveryQueue}
use Rattle.queue_runs.specs.Heads.{beside_bytes, bytes_to, RefusedTakesNone, RefusedMovesNothing, EmptyMovesNothing}
use Rattle.queue_runs.proofs.Cases.{impossible, answer_cases}

-- ---- what a call that is refused leaves, by the device's own
refused_bytes : (w : World) (call : Call) (n : ℕ) → (step w call).answer ≡ Refused n → (step w call).bytes ≡ lent_bytes call
refused_bytes w call n e =
    by_test (eqb n 10)
    (λ t. (ten_is_creation_failed w call (rw (eqb-true n 10 t) at e)).same_bytes)
    (λ t. (refused_changes_nothing w call n e (eqb-false n 10 t)).1)

-- nothing moves: the queue, the bytes, and the world unless the number is 10
record Unmoved (w : World) (q : Queue) (bytes : List ℕ) (n : ℕ) (o : QueueOutcome) : Type 0 where
  pub same_queue : o.queue ≡ q
  pub same_bytes : o.bytes ≡ bytes
  pub same_world : (n ≡ 10 → ⊥) → o.world ≡ w

abbrev IfRefused : World → Queue → (bytes : List ℕ) → QueueOutcome → Type 0
IfRefused w q bytes o = (n : ℕ) → o.answer ≡ Some (Refused n) → Unmoved w q bytes n o

module _ (w : World) (q : Queue) where
  about_refused : (head base : ℕ) (out : Queue) (call : Call) → IfRefused w q (lent_bytes call) (about head base q out (step w call))
  unfolding queue_by bytes_by
  about_refused head base out call n e =
      let f : (step w call).answer ≡ Refused n = cc in
      record { same_queue = rw f; same_bytes = rw f (refused_bytes w call n f); same_world = λ k. (refused_changes_nothing w call n f k).0 }

  taken_refused : (g : Guest) (x : Result (Option ℕ) Refusal) → IfRefused w q g.mem (takes x w q g)
  unfolding takes lent_bytes
  taken_refused g (Ok (Some h)) = about_refused h g.base (took_head q h) (Request g q.descriptors.0 h)
  taken_refused g (Ok None) = λ n e. record { same_queue = refl; same_bytes = refl; same_world = λ _. refl }
  taken_refused g (Err refusal) = λ n e. record { same_queue = refl; same_bytes = refl; same_world = λ _. refl }

  heard_refused : (g : Guest) (ok : Bool) (host : ℕ) (t : Option ℕ) → IfRefused w q g.mem (answers t q g.base (step w (HostAnswer g ok host)))
  unfolding answers lent_bytes
  heard_refused g ok host None = λ n e.
      let call = HostAnswer g ok host in
      let f : (step w call).answer ≡ Refused n = cc in
      record { same_queue = refl; same_bytes = refused_bytes w call n f; same_world = λ k. (refused_changes_nothing w call n f k).0 }
  heard_refused g ok host (Some h) = about_refused h g.base q (HostAnswer g ok host)

  same_lent : (b : Beside) → lent_bytes (beside_call b) ≡ beside_bytes b
  unfolding lent_bytes beside_call beside_bytes
  same_lent (Placing at size slots blocks rows) = refl
  same_lent (Sizing mib) = refl
  same_lent (Reading offset buffer) = refl
  same_lent (Writing offset buffer) = refl

  unmoved : (c : QueueCall) → IfRefused w q (bytes_to c) (queue_step w q c)
  unfolding queue_step bytes_to
  unmoved (TakeNext g) = taken_refused g (next_of w q g)
  unmoved (Host g ok host) =
      answer_cases w q g ok host (λ _. IfRefused w q g.mem)
      (λ _. heard_refused g ok host q.taken)
      (λ refusal _ n e. record { same_queue = refl; same_bytes = refl; same_world = λ _. refl })
  unmoved (PastIt b) = λ n e.
      let f : (step w (beside_call b)).answer ≡ Refused n = cc in
      record { same_queue = refl; same_bytes = refused_bytes w (beside_call b) n f ∙ same_lent b; same_world = λ k. (refused_changes_nothing w (beside_call b) n f k).0 }

-- ---- no head is taken, none is reported
none_of_refused : (q : Queue) (c : QueueCall) (n : ℕ) → (newly_taken q c (Some (Refused n)) ≡ []) × (newly_reported q c (Some (Refused n)) ≡ [])
unfolding newly_taken newly_reported ending_told taken_by used_by
none_of_refused q (TakeNext g) n = (refl, refl)
none_of_refused q (Host g ok host) n = (refl, refl)
none_of_refused q (PastIt b) n = (refl, refl)

none_of_empty : (q : Queue) (c : QueueCall) → (newly_taken q c None ≡ []) × (newly_reported q c None ≡ [])
unfolding newly_taken newly_reported ending_told taken_by used_by
none_of_empty q (TakeNext g) = (refl, refl)
none_of_empty q (Host g ok host) = (refl, refl)
none_of_empty q (PastIt b) = (refl, refl)

pub refused_takes_none : FromEveryQueue RefusedTakesNone
refused_takes_none w q c n e =
    let m = unmoved w q c n e in
    (record { none_taken = rw e (none_of_refused q c n).0; none_reported = rw e (none_of_refused q c n).1; same_queue = m.same_queue }, m.same_bytes)

pub refused_moves_nothing : FromEveryQueue RefusedMovesNothing
refused_moves_nothing w q c n e k = (unmoved w q c n e).same_world k

-- ---- an empty ring
record Still (w : World) (q : Queue) (bytes : List ℕ) (o : QueueOutcome) : Type 0 where
  pub same_queue : o.queue ≡ q
  pub same_bytes : o.bytes ≡ bytes
  pub same_world : o.world ≡ w

abbrev IfEmpty : World → Queue → (bytes : List ℕ) → QueueOutcome → Type 0
IfEmpty w q bytes o = o.answer ≡ None → Still w q bytes o

module _ (w : World) (q : Queue) where
  empty_taken : (g : Guest) (x : Result (Option ℕ) Refusal) → IfEmpty w q g.mem (takes x w q g)
  unfolding takes
  empty_taken g (Ok (Some h)) = λ e. impossible cc
  empty_taken g (Ok None) = λ e. record { same_queue = refl; same_bytes = refl; same_world = refl }
  empty_taken g (Err refusal) = λ e. record { same_queue = refl; same_bytes = refl; same_world = refl }

  empty_heard : (g : Guest) (o : Outcome) (t : Option ℕ) → IfEmpty w q g.mem (answers t q g.base o)
  unfolding answers
  empty_heard g o None = λ e. impossible cc
  empty_heard g o (Some h) = λ e. impossible cc

  still : (c : QueueCall) → IfEmpty w q (bytes_to c) (queue_step w q c)
  unfolding queue_step bytes_to
  still (TakeNext g) = empty_taken g (next_of w q g)
  still (Host g ok host) =
      answer_cases w q g ok host (λ _. IfEmpty w q g.mem)
      (λ _. empty_heard g (step w (HostAnswer g ok host)) q.taken)
      (λ r _ e. record { same_queue = refl; same_bytes = refl; same_world = refl })
  still (PastIt b) = λ e. impossible cc

pub empty_moves_nothing : FromEveryQueue EmptyMovesNothing
empty_moves_nothing w q c e =
    let m = still w q c e in
    (record { none_taken = rw e (none_of_empty q c).0; none_reported = rw e (none_of_empty q c).1; same_queue = m.same_queue }, m.same_world, m.same_bytes)
