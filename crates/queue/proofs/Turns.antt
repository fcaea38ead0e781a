-- SPDX-License-Identifier: Apache-2.0 AND BSD-3-Clause
-- What the ways through a call of the queue come to: each lemma takes what the code knows on a way and shows the ending of `Queue.antt` there.
use Rattle.refusal.specs.Refusal.{number}
use Rattle.std.specs.Prelude.{Option, Some, None, Ok, Err, Result, ⊤}
use Rattle.std.specs.Result.{result_ok, result_and}
use Rattle.std.specs.Option.{option_flatten}
use Prim.Native.Nat.{ℕ, ◌*◌}
use mathlib.Core.Path.{◌≡◌, refl, sym, ap, ◌∙◌}
use mathlib.Core.Bool.{Bool, true, false, cond}
use mathlib.Core.List.{List}
use native.Mathlib.Omega.{arith}
use lib.ListN.{length}
use Rattle.units.proofs.Tests.{by_test}
use Rattle.bitmap.proofs.Laws.{blocks-length}
use Rattle.rows.specs.Rows.{rows_in}
use Rattle.rows.proofs.Words.{count, whole}
use Rattle.record.specs.declared.Device.{Device}
use Rattle.record.specs.declared.Pending.{Pending}
use Rattle.record.specs.declared.Pending.TheVariants.{Nothing as Idle, Create, Discard, DiscardOne}
use Rattle.record.specs.Shape.{shaped_of, is_idle}
use Rattle.rings.specs.declared.Queue.{Queue}
use Rattle.refusal.specs.declared.Refusal.{Refusal}
use Rattle.rings.specs.Rings.{next_head}
use Rattle.step.specs.declared.Answered.{Answered}
use Rattle.step.specs.declared.Answer.{Answer}
use Rattle.step.specs.declared.Answer.TheVariants.{Refused}
use Rattle.step.specs.World.{World, Guest, Request, HostAnswer, Outcome, world_of}
use Rattle.step.specs.Promise.{Lent, lent, Gives}
use Rattle.step.specs.Step.{step, unless, ready_refusal, pending_refusal, tables_fit}
use Rattle.queue.specs.declared.Ending.{Ending}
use Rattle.queue.specs.declared.Taking.{Taking}
use Rattle.queue.specs.declared.Taking.TheVariants.{Walk, NoHead}
use Rattle.queue.specs.declared.Turn.{Turn}
use Rattle.queue.specs.Queue.{queue_ok, took_head, ending_of, queue_by, bytes_by, unmoved, aside, about, taking_refusal, next_unless, none_told, takes, serve_next, standing, taking_of, walks, discarding, can_report, outside_refusal, out_refusal, answer_refusal, queue_refusal, answers, unless_refused, host_answers, Settles, turned, GivesTurn}

clash : {A : Type 0} {t : Bool} → t ≡ true → t ≡ false → A
clash p q = let z : ◌≡◌ {A = ℕ} 0 1 = cc in absurd (omega arith)

-- ---- how an outcome is met
-- a call of the device, and what its answer means for the head that it is about
module _ {o : Outcome} {s : Answered} {t : Turn} {before after : Lent} (m : Gives o before after s) where
  pub about_met : {bytes : List ℕ} (head base : ℕ) (was out q : Queue) (e : Ending) → e ≡ ending_of s.answer → Settles e head base was out after.bytes q bytes → t ≡ turned s.device q (Some s.answer) → GivesTurn (about head base was out o) before (lent after.bitmap after.table bytes) t
  about_met head base was out q e ending k is =
      let same = ending ∙ ap ending_of m.answered in
      record {
        answered = rw is (ap Some m.answered);
        told = rw is m.told;
        recorded = rw is m.recorded;
        queued = rw is (rw same at k.queued);
        leaves = record { marked = m.leaves.marked; mapped = m.leaves.mapped; left = rw (same, m.leaves.left) at k.left };
      }

  pub aside_met : (q : Queue) → t ≡ turned s.device q (Some s.answer) → GivesTurn (aside q o) before after t
  aside_met q is =
      record {
        answered = rw is (ap Some m.answered);
        told = rw is m.told;
        recorded = rw is m.recorded;
        queued = rw is;
        leaves = record { marked = m.leaves.marked; mapped = m.leaves.mapped; left = m.leaves.left };
      }

-- ---- what is told where no head is taken: what stands next is looked at behind the device's tests
pub told_none : (admitted : Result ⊤ Refusal) (next : Result (Option ℕ) Refusal) (head : Option ℕ) → result_and admitted next ≡ Ok head → None ≡ none_told (next_unless admitted next)
unfolding none_told next_unless
told_none (Ok u) (Ok None) head e = refl
told_none (Ok u) (Ok (Some h)) head e = refl
told_none (Ok u) (Err r) head e = let z : ◌≡◌ {A = ℕ} 0 1 = cc in absurd (omega arith)
told_none (Err r) next head e = let z : ◌≡◌ {A = ℕ} 0 1 = cc in absurd (omega arith)

pub told_refusal : (admitted : Result ⊤ Refusal) (next : Result (Option ℕ) Refusal) (refusal : Refusal) → result_and admitted next ≡ Err refusal → Some (Refused (number refusal)) ≡ none_told (next_unless admitted next)
unfolding none_told next_unless
told_refusal (Ok u) (Ok head) refusal e = let z : ◌≡◌ {A = ℕ} 0 1 = cc in absurd (omega arith)
told_refusal (Ok u) (Err r) refusal e = cc
told_refusal (Err r) next refusal e = cc

-- what stands next, by whether that is a head
pub none_stands : (next : Result (Option ℕ) Refusal) → option_flatten (result_ok next) ≡ None → (admitted : Result ⊤ Refusal) → standing next admitted ≡ NoHead (none_told (next_unless admitted next))
unfolding standing
none_stands (Ok None) e admitted = refl
none_stands (Ok (Some head)) e admitted = let z : ◌≡◌ {A = ℕ} 0 1 = cc in absurd (omega arith)
none_stands (Err refusal) e admitted = refl

pub head_stands : (next : Result (Option ℕ) Refusal) (head : ℕ) → option_flatten (result_ok next) ≡ Some head → (admitted : Result ⊤ Refusal) → standing next admitted ≡ Walk head
unfolding standing
head_stands (Ok None) head e admitted = let z : ◌≡◌ {A = ℕ} 0 1 = cc in absurd (omega arith)
head_stands (Ok (Some h)) head e admitted = cc
head_stands (Err refusal) head e admitted = let z : ◌≡◌ {A = ℕ} 0 1 = cc in absurd (omega arith)

-- ---- the refusals of the device, which its own call tests again
module _ (w : World) (q : Queue) (g : Guest) where
  -- with what stands next, and what the device's tests give
  stands : (n : Result ⊤ Refusal) → n ≡ ready_refusal w.device (length w.blocks) (length w.rows) → (x : Result (Option ℕ) Refusal) → takes (next_unless n x) w q g ≡ walks (standing x n) w q g
  unfolding next_unless takes none_told standing walks step unless queue_by bytes_by
  stands (Ok u) e (Ok None) = refl
  stands (Err r) e (Ok None) = refl
  stands (Ok u) e (Err m) = refl
  stands (Err r) e (Err m) = refl
  stands (Ok u) e (Ok (Some head)) = refl
  stands (Err r) e (Ok (Some head)) = rw (← e)

  -- R13.9: where the device refuses, the head stays
  pub by_taking : serve_next w q g ≡ walks (taking_of w.device q (length w.blocks) (length w.rows) g.mem g.base) w q g
  unfolding taking_refusal taking_of next_unless takes walks
  by_taking =
      by_test (queue_ok q.taken w.device.pending)
      (λ t. rw t (stands (ready_refusal w.device (length w.blocks) (length w.rows)) refl (next_head g.mem g.base q)))
      (λ t. rw t)

  -- a host's answer, where a head that is out can be reported
  heard : (taken : Option ℕ) (ok : Bool) (host : ℕ) → can_report taken (length g.mem) g.base q ≡ true
      → unless_refused (out_refusal taken w.device q (length w.blocks) (length w.rows) g) w q g.mem (answers taken q g.base (step w (HostAnswer g ok host)))
      ≡ answers taken q g.base (step w (HostAnswer g ok host))
  unfolding can_report out_refusal unless_refused answers step unless queue_by bytes_by
  heard None ok host e = refl
  heard (Some head) ok host e = go (pending_refusal w.device (length w.blocks) (length w.rows)) refl
    where
      go : (x : Result ⊤ Refusal) → pending_refusal w.device (length w.blocks) (length w.rows) ≡ x
          → unless_refused (out_refusal (Some head) w.device q (length w.blocks) (length w.rows) g) w q g.mem (answers (Some head) q g.base (step w (HostAnswer g ok host)))
          ≡ answers (Some head) q g.base (step w (HostAnswer g ok host))
      go (Ok u) p = rw (p, e)
      go (Err r) p = rw p

  -- and where it cannot: a discard is pending, and 14 comes last
  busy : (p : Pending) → discarding p ≡ true → is_idle p ≡ false
  busy Idle e = clash e refl
  busy (Create first last) e = clash e refl
  busy (Discard first count status) e = refl
  busy (DiscardOne block status) e = refl

  outside : (taken : Option ℕ) (n m : ℕ) → queue_ok taken w.device.pending ≡ true → can_report taken (length g.mem) g.base q ≡ false
      → out_refusal taken w.device q n m g ≡ Err (outside_refusal w.device n m)
  unfolding can_report out_refusal pending_refusal outside_refusal tables_fit
  outside None n m k e = clash refl e
  outside (Some head) n m k e =
      let d = w.device in
      by_test (shaped_of d)
      (λ s. by_test (tables_fit d n m) (λ t. rw (e, s, busy d.pending k, t)) (λ t. rw (e, s, busy d.pending k, t)))
      (λ s. rw (e, s))

  alike : (taken : Option ℕ) (ok : Bool) (host : ℕ) → queue_ok taken w.device.pending ≡ true → let n = outside_refusal w.device (length w.blocks) (length w.rows) in let o = answers taken q g.base (step w (HostAnswer g ok host)) in
      unless_refused (out_refusal taken w.device q (length w.blocks) (length w.rows) g) w q g.mem o ≡ unless_refused (cond (can_report taken (length g.mem) g.base q) (Ok tt) (Err n)) w q g.mem o
  unfolding unless_refused
  alike taken ok host k =
      by_test (can_report taken (length g.mem) g.base q)
      (λ t. rw t (heard taken ok host t))
      (λ t. rw (t, outside taken (length w.blocks) (length w.rows) k t))

  pub by_refusal : (ok : Bool) (host : ℕ) → host_answers w q g ok host
      ≡ unless_refused (queue_refusal w.device q (length w.blocks) (length w.rows) (length g.mem) g.base) w q g.mem (answers q.taken q g.base (step w (HostAnswer g ok host)))
  unfolding answer_refusal queue_refusal
  by_refusal ok host =
      by_test (queue_ok q.taken w.device.pending) (λ t. rw t (alike q.taken ok host t)) (λ t. rw t)

module _ (d : Device) (bitmap table : List ℕ) (q : Queue) (g : Guest) where
  -- a call that changes nothing
  unchanged : {t : Turn} (told : Option Answer) → t ≡ turned d q told → GivesTurn (unmoved told (world_of d bitmap table) q g.mem) (lent bitmap table g.mem) (lent bitmap table g.mem) t
  unchanged told is =
      record {
        answered = rw is;
        told = rw is;
        recorded = rw is;
        queued = rw is;
        leaves = record { marked = refl; mapped = sym (whole table); left = refl };
      }

  -- ---- taking the next head
  module _ (x : Taking) (x-is : x ≡ taking_of d q (8 * length bitmap) (rows_in (length table)) g.mem g.base) where
    taken_as : serve_next (world_of d bitmap table) q g ≡ walks x (world_of d bitmap table) q g
    taken_as = by_taking (world_of d bitmap table) q g ∙ rw (blocks-length bitmap, count table, ← x-is)

    pub told_as : (told : Option Answer) → x ≡ NoHead told → serve_next (world_of d bitmap table) q g ≡ unmoved told (world_of d bitmap table) q g.mem
    unfolding walks
    told_as told e = taken_as ∙ rw e

    pub walk_as : (head : ℕ) → x ≡ Walk head → (out : Queue) → out ≡ took_head q head
        → serve_next (world_of d bitmap table) q g ≡ about head g.base q out (step (world_of d bitmap table) (Request g q.descriptors.0 head))
    unfolding walks
    walk_as head e out out-is = taken_as ∙ rw (e, out-is)

    pub next_none : {t : Turn} (told : Option Answer) → x ≡ NoHead told → t ≡ turned d q told → GivesTurn (serve_next (world_of d bitmap table) q g) (lent bitmap table g.mem) (lent bitmap table g.mem) t
    next_none told e is = rw (told_as told e) (unchanged told is)

  -- ---- the host's answer
  module _ (ok : Bool) (host : ℕ) (n : Result ⊤ Refusal) (n-is : n ≡ queue_refusal d q (8 * length bitmap) (rows_in (length table)) (length g.mem) g.base) where
    answered_as_lem : host_answers (world_of d bitmap table) q g ok host ≡ unless_refused n (world_of d bitmap table) q g.mem (answers q.taken q g.base (step (world_of d bitmap table) (HostAnswer g ok host)))
    answered_as_lem = by_refusal (world_of d bitmap table) q g ok host ∙ rw (blocks-length bitmap, count table, ← n-is)

    pub refused_as : (refusal : Refusal) → n ≡ Err refusal → host_answers (world_of d bitmap table) q g ok host ≡ unmoved (Some (Refused (number refusal))) (world_of d bitmap table) q g.mem
    unfolding unless_refused
    refused_as refusal some = answered_as_lem ∙ rw some

    pub heard_as : n ≡ Ok tt → (taken : Option ℕ) → q.taken ≡ taken → host_answers (world_of d bitmap table) q g ok host ≡ answers taken q g.base (step (world_of d bitmap table) (HostAnswer g ok host))
    unfolding unless_refused
    heard_as none taken e =
        let o = step (world_of d bitmap table) (HostAnswer g ok host) in
        answered_as_lem ∙ rw (none, ap (λ (x : Option ℕ). answers x q g.base o) e)

    pub answer_refused : {t : Turn} (refusal : Refusal) → n ≡ Err refusal → t ≡ turned d q (Some (Refused (number refusal))) → GivesTurn (host_answers (world_of d bitmap table) q g ok host) (lent bitmap table g.mem) (lent bitmap table g.mem) t
    answer_refused refusal some is = rw (refused_as refusal some) (unchanged (Some (Refused (number refusal))) is)
