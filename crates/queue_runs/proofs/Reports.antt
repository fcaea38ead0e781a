-- SPDX-License-Identifier: Apache-2.0 AND BSD-3-Clause
-- A refused call takes no head and moves nothing, and the n-th report stands in the used ring at entry n modulo 128, whose index then is n + 1.
use Rattle.std.specs.Prelude.{Option, Some, None, Ok, Err, Result}
use Prim.Native.Nat.{ℕ, ◌-◌, ◌<◌}
use mathlib.Core.Path.{◌≡◌, refl, ap, ◌∙◌}
use mathlib.Core.Bool.{Bool, true}
use mathlib.Core.List.{List, [], ◌∷◌}
use native.Mathlib.Omega.{arith}
use lib.ListN.{length, get_or}
use Rattle.units.proofs.Tests.{by_test}
use Rattle.little_endian.proofs.Laws.{value_below}
use Rattle.refusal.specs.declared.Refusal.{Refusal}
use Rattle.rings.specs.declared.Queue.{Queue}
use Rattle.rings.specs.Rings.{rings_inside, next_head}
use Rattle.rings.proofs.Laws.{entry_of, index_counts, rings_lie, head_inside, head_reads, Reports as ReadsAs, report_reads}
use Rattle.step.specs.World.{World, Guest, Call, Request, HostAnswer, Outcome}
use Rattle.step.specs.Step.{step, pending_refusal}
use Rattle.queue.specs.declared.Ending.{Ending}
use Rattle.queue.specs.declared.Ending.TheVariants.{Stays, Out, Used}
use Rattle.queue.specs.Queue.{QueueOutcome, queue_ok, took_head, ending_of, queue_by, bytes_by, about, takes, out_refusal, answer_refusal, answers}
use Rattle.queue_runs.specs.Runs.{QueueCall, TakeNext, Host, PastIt, queue_step, lent_to, ending_told, used_by, head_of, out_of, newly_reported, QueueStory, next_story, QueueReached, on_new_queue, on_call, on_restore, LendsBytes, AllLendBytes}
use Rattle.queue_runs.specs.Heads.{Reports, NthReport}
use Rattle.queue_runs.proofs.Cases.{impossible, by_admitted, next_cases, answer_cases}
use Rattle.queue_runs.proofs.Order.{in_order}
use Rattle.queue_runs.proofs.Bytes.{Keeps, request_keeps, answer_keeps}

-- ---- a report: what the guest reads in the used ring, whatever overlaps
module _ (w : World) (q : Queue) (g : Guest) where
  abbrev Reported : (head : ℕ) → QueueOutcome → Type 0
  Reported head o = (len : ℕ) → ending_told o.answer ≡ Used len → ReadsAs o.bytes (q.used.0 - g.base) q.next_used head len

  about_reported : (head : ℕ) (before out : Queue) → out.used ≡ q.used → out.next_used ≡ q.next_used → rings_inside (length g.mem) g.base q ≡ true → head < 65536
      → (call : Call) (o : Outcome) → Keeps w call g o.answer o.bytes → Reported head (about head g.base before out o)
  unfolding bytes_by ending_told
  about_reported head before out u i lies h call o k len e =
      let long = k.same_length in
      let short = k.short len e in
      rw (e, u, i) (report_reads o.bytes g.base q.used.0 q.next_used head len (rw long (rings_lie _ _ _ lies).used_lies) h (omega arith))

  no_report : {len : ℕ} {A : Type 0} → Stays ≡ Used len → A
  no_report e = impossible cc

  next_reported : (head : ℕ) → head < 65536 → head_of (next_head g.mem g.base q) ≡ head ∷ [] → Reported head (queue_step w q (TakeNext g))
  unfolding queue_step takes ending_told head_of
  next_reported head h stands =
      next_cases w q g (λ x. Reported head (takes x w q g)) (λ r len e. no_report e) (λ _. there (next_head g.mem g.base q) refl stands)
    where
      there : (x : Result (Option ℕ) Refusal) → next_head g.mem g.base q ≡ x → head_of x ≡ head ∷ [] → Reported head (takes x w q g)
      there (Ok None) is s = λ len e. no_report e
      there (Err refusal) is s = λ len e. no_report e
      there (Ok (Some x)) is s =
          let same : x ≡ head = cc in
          rw (← same)
          (about_reported x q (took_head q x) refl refl (head_inside g.mem g.base q x is) (rw same h) (Request g q.descriptors.0 x) (step w (Request g q.descriptors.0 x)) (request_keeps w g q.descriptors.0 x))

  -- a host's answer that is heard while a head is out finds the rings inside
  out_inside : (t : Option ℕ) (head : ℕ) → t ≡ Some head → (n m : ℕ) → out_refusal t w.device q n m g ≡ Ok tt → rings_inside (length g.mem) g.base q ≡ true
  unfolding out_refusal
  out_inside None head e n m z = impossible cc
  out_inside (Some x) head e n m z =
      by_test (rings_inside (length g.mem) g.base q) (λ t. t)
      (λ t. by_admitted (pending_refusal w.device n m) (λ s. let f = rw (t, s) at z in impossible cc) (λ r s. let f = rw s at z in impossible cc))

  answer_inside : (head : ℕ) → q.taken ≡ Some head → (n m : ℕ) → answer_refusal w.device q n m g ≡ Ok tt → rings_inside (length g.mem) g.base q ≡ true
  unfolding answer_refusal
  answer_inside head e n m z =
      by_test (queue_ok q.taken w.device.pending) (λ t. out_inside q.taken head e n m (rw t at z)) (λ t. let f = rw t at z in impossible cc)

  answer_reported : (head : ℕ) → head < 65536 → q.taken ≡ Some head → (ok : Bool) (host : ℕ) → Reported head (queue_step w q (Host g ok host))
  unfolding queue_step answers ending_told
  answer_reported head h out ok host =
      let o = step w (HostAnswer g ok host) in
      answer_cases w q g ok host (λ _. Reported head)
      (λ t. rw (ap (λ (x : Option ℕ). answers x q g.base o) out) (about_reported head q q refl refl (answer_inside head out _ _ t) h (HostAnswer g ok host) o (answer_keeps w g ok host)))
      (λ r _ len e. no_report e)

-- ---- the head that is out was read out of bytes, so it has 16 bits
pub record Fits (t : Option ℕ) : Type 0 where
  pub fits : (head : ℕ) → t ≡ Some head → head < 65536

head_fits : (mem : List ℕ) → ((i : ℕ) → get_or mem i 0 < 256) → (base : ℕ) (q : Queue) (head : ℕ) → next_head mem base q ≡ Ok (Some head) → head < 65536
head_fits mem bytes base q head e = let z = head_reads mem base q head e in rw z (value_below mem bytes _ 2)

settled_fits : (e : Ending) (before out : Queue) → Fits before.taken → Fits out.taken → Fits (queue_by e before out).taken
unfolding queue_by
settled_fits Stays before out f g = f
settled_fits Out before out f g = g
settled_fits (Used len) before out f g = record { fits = λ head e. impossible cc }

taken_fits : (w : World) (q : Queue) (g : Guest) → ((i : ℕ) → get_or g.mem i 0 < 256) → Fits q.taken → Fits (queue_step w q (TakeNext g)).queue.taken
unfolding queue_step takes
taken_fits w q g bytes f =
    next_cases w q g (λ x. Fits (takes x w q g).queue.taken) (λ r. f) (λ _. there (next_head g.mem g.base q) refl)
  where
    there : (x : Result (Option ℕ) Refusal) → next_head g.mem g.base q ≡ x → Fits (takes x w q g).queue.taken
    there (Ok None) is = f
    there (Err refusal) is = f
    there (Ok (Some x)) is =
        settled_fits (ending_of (step w (Request g q.descriptors.0 x)).answer) q (took_head q x) f
        (record { fits = λ head e. let same : x ≡ head = cc in rw (← same) (head_fits g.mem bytes g.base q x is) })

heard_fits : (t : Option ℕ) (q : Queue) (base : ℕ) (o : Outcome) → Fits q.taken → Fits (answers t q base o).queue.taken
unfolding answers
heard_fits None q base o f = f
heard_fits (Some h) q base o f = settled_fits (ending_of o.answer) q q f f

fits_then : (w : World) (q : Queue) (c : QueueCall) → LendsBytes c → Fits q.taken → Fits (queue_step w q c).queue.taken
unfolding queue_step lent_to
fits_then w q (TakeNext g) bytes f = taken_fits w q g bytes f
fits_then w q (Host g ok host) bytes f =
    answer_cases w q g ok host (λ _ (o : QueueOutcome). Fits o.queue.taken)
    (λ _. heard_fits q.taken q g.base (step w (HostAnswer g ok host)) f) (λ r _. f)
fits_then w q (PastIt b) bytes f = f

always_fits : (s : QueueStory) (r : QueueReached s) → AllLendBytes r → Fits s.queue.taken
unfolding next_story AllLendBytes
always_fits s (on_new_queue r idle new) bytes = record { fits = λ head e. let y = new.none_out in impossible cc }
always_fits s (on_call {s = before} r c) bytes = fits_then before.world before.queue c bytes.1 (always_fits before r bytes.0)
always_fits s (on_restore {s = before} r l) bytes = always_fits before r bytes

-- ---- over a run
the_head : (x : Result (Option ℕ) Refusal) (head : ℕ) → head_of x ≡ head ∷ [] → x ≡ Ok (Some head)
unfolding head_of
the_head (Ok (Some h)) head e = let same : h ≡ head = cc in rw same
the_head (Ok None) head e = impossible cc
the_head (Err refusal) head e = impossible cc

the_one_out : (t : Option ℕ) (head : ℕ) → out_of t ≡ head ∷ [] → t ≡ Some head
unfolding out_of
the_one_out (Some h) head e = let same : h ≡ head = cc in rw same
the_one_out None head e = impossible cc

reads : (w : World) (q : Queue) (c : QueueCall) → LendsBytes c → Fits q.taken → (head len : ℕ) → Reports q c (queue_step w q c) head len
    → ReadsAs (queue_step w q c).bytes (q.used.0 - (lent_to c).base) q.next_used head len
unfolding newly_reported lent_to used_by
reads w q (TakeNext g) bytes f head len r =
    let stands : head_of (next_head g.mem g.base q) ≡ head ∷ [] = rw r.ended at r.reported in
    next_reported w q g head (head_fits g.mem bytes g.base q head (the_head _ head stands)) stands len r.ended
reads w q (Host g ok host) bytes f head len r =
    let out : out_of q.taken ≡ head ∷ [] = rw r.ended at r.reported in
    let is = the_one_out q.taken head out in
    answer_reported w q g head (f.fits head is) is ok host len r.ended
reads w q (PastIt b) bytes f head len r = let e = r.reported in impossible cc

pub nth_report : NthReport
nth_report s reached all c bytes head len r =
    let n = length s.reports in
    let f = reads s.world s.queue c bytes (always_fits s reached all) head len r in
    let u = (in_order s reached c).index_used in
    record {
      counted = f.counted ∙ rw u (index_counts n);
      named = rw (← entry_of n, ← u) f.named;
      measured = rw (← entry_of n, ← u) f.measured;
    }
