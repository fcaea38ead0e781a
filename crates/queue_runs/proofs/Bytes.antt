-- SPDX-License-Identifier: Apache-2.0 AND BSD-3-Clause
-- What a call of the device leaves of the guest's bytes: all but the response at its status address, by M8 of `standard`.
use Prim.Native.Nat.{ℕ, ◌-◌, ◌≤◌}
use mathlib.Core.Path.{◌≡◌, refl}
use mathlib.Core.Bool.{Bool}
use mathlib.Core.List.{List}
use mathlib.Core.Option.{some, none}
use native.Mathlib.Omega.{arith}
use lib.Dec.{eqb}
use lib.ListN.{length}
use borrow.Author.Tests.{eqb-true}
use Rattle.units.proofs.Tests.{by_test}
use Rattle.little_endian.specs.Bytes.{part}
use Rattle.rings.specs.Standard.{Apart, Before, Behind}
use Rattle.step.specs.declared.Answer.{Answer}
use Rattle.step.specs.declared.Answer.TheVariants.{Refused, Wants, Sized, Unserved, Served, Done}
use Rattle.step.specs.declared.Reply.{Reply}
use Rattle.step.specs.Answers.{response}
use Rattle.step.specs.World.{World, Guest, Call, Request, HostAnswer}
use Rattle.step.specs.Step.{step}
use Rattle.queue.specs.declared.Ending.TheVariants.{Stays, Used}
use Rattle.queue.specs.Queue.{ending_of}
use Rattle.standard.specs.Requests.{response_of, among, lent_by, status_for, ResponseWritten, Delivered}
use Rattle.standard.proofs.Responses.{response_is_delivered, silence_writes_nothing}
use Rattle.history.proofs.Shaped.{clash}
use Rattle.queue_runs.proofs.Cases.{impossible}

-- as many bytes as before; none written but the response's, at its status address; and a used length of at most 10
pub record Keeps (w : World) (call : Call) (g : Guest) (a : Answer) (bytes : List ℕ) : Type 0 where
  pub same_length : length bytes ≡ length g.mem
  pub others : (i : ℕ) → ((status : ℕ) → status_for w call ≡ some status → Apart i (status - g.base) 10) → part bytes i 1 ≡ part g.mem i 1
  -- none at all where there is no response, or nowhere to put one
  pub silent : response_of a ≡ none → bytes ≡ g.mem
  pub nowhere : status_for w call ≡ none → bytes ≡ g.mem
  pub short : (len : ℕ) → ending_of a ≡ Used len → len ≤ 10

module _ (w : World) (call : Call) (g : Guest) where
  -- no byte is written
  unwritten : (a : Answer) (bytes : List ℕ) → ((len : ℕ) → ending_of a ≡ Used len → len ≡ 0) → bytes ≡ g.mem → Keeps w call g a bytes
  unwritten a bytes z e =
      record { same_length = rw e; others = λ i _. rw e; silent = λ _. e; nowhere = λ _. e; short = λ len k. let y = z len k in omega arith }

  stays : (len : ℕ) → Stays ≡ Used len → len ≡ 0
  stays len e = impossible cc

  -- a response that was delivered, whole or not at all
  said : (reply : Reply) (status : ℕ) (bytes : List ℕ) → status_for w call ≡ some status → Delivered g status reply bytes → Keeps w call g (Served reply) bytes
  unfolding response among
  said reply status bytes there d =
      by_test (eqb 10 reply.used)
      (λ t.
      let ten : 10 ≡ reply.used = eqb-true 10 reply.used t in
      let written = d.whole (omega arith) in
      record {
        same_length = written.same_length;
        others = λ i outside. apart i written (outside status there);
        silent = λ n. impossible cc;
        nowhere = λ n. impossible cc;
        short = λ len k. let same : reply.used ≡ len = cc in omega arith;
      })
      (λ t.
      by_test (eqb 0 reply.used)
      (λ s. let zero : 0 ≡ reply.used = eqb-true 0 reply.used s in unwritten (Served reply) bytes (λ len k. let same : reply.used ≡ len = cc in omega arith) (d.nothing (omega arith)))
      (λ s. clash d.no_other (rw (t, s))))
    where
      apart : (i : ℕ) → ResponseWritten g status reply.response bytes → Apart i (status - g.base) 10 → part bytes i 1 ≡ part g.mem i 1
      apart i written (Before h) = written.same_before i 1 (omega arith)
      apart i written (Behind h) = written.same_behind i 1 h

  keeps : (a : Answer) (bytes : List ℕ) → (response_of a ≡ none → bytes ≡ g.mem)
      → ((reply : Reply) → a ≡ Served reply → (status : ℕ) × (status_for w call ≡ some status) × Delivered g status reply bytes) → Keeps w call g a bytes
  unfolding response
  keeps (Refused number) bytes quiet says = unwritten (Refused number) bytes stays (quiet refl)
  keeps (Wants question) bytes quiet says = unwritten (Wants question) bytes (λ len e. impossible cc) (quiet refl)
  keeps Sized bytes quiet says = unwritten Sized bytes stays (quiet refl)
  keeps (Unserved reason) bytes quiet says = unwritten (Unserved reason) bytes (λ len e. let z : 0 ≡ len = cc in omega arith) (quiet refl)
  keeps (Served reply) bytes quiet says = let s = says reply refl in said reply s.0 bytes s.1 s.2
  keeps Done bytes quiet says = unwritten Done bytes stays (quiet refl)

module _ (w : World) (g : Guest) where
  pub request_keeps : (descriptors head : ℕ) → let o = step w (Request g descriptors head) in Keeps w (Request g descriptors head) g o.answer o.bytes
  unfolding lent_by
  request_keeps descriptors head =
      let o = step w (Request g descriptors head) in
      keeps w (Request g descriptors head) g o.answer o.bytes ((silence_writes_nothing w g).0 descriptors head)
      (λ reply e. let r = response_is_delivered w (Request g descriptors head) reply e in (r.status, r.goes_to, r.delivered))

  pub answer_keeps : (ok : Bool) (host : ℕ) → let o = step w (HostAnswer g ok host) in Keeps w (HostAnswer g ok host) g o.answer o.bytes
  unfolding lent_by
  answer_keeps ok host =
      let o = step w (HostAnswer g ok host) in
      keeps w (HostAnswer g ok host) g o.answer o.bytes ((silence_writes_nothing w g).1 ok host)
      (λ reply e. let r = response_is_delivered w (HostAnswer g ok host) reply e in (r.status, r.goes_to, r.delivered))
