-- SPDX-License-Identifier: Apache-2.0 AND BSD-3-Clause
-- What Virtio 1.2 asks of a device's queue, beside the layout of its rings (crates/rings/specs/Standard.antt): Q4, Q6 and Q7. The names of clauses are those of docs/STANDARD.md.
use Rattle.std.specs.Prelude.{ℕ, ◌+◌, ◌-◌, ◌*◌, ◌%◌, ◌≡◌, Bool, true, false, [], ◌∷◌}
use Rattle.std.proofs.Math.Option.{some, none}
use Rattle.little_endian.specs.Bytes.{part}
use Rattle.rings.specs.declared.Queue.{Queue}
use Rattle.rings.specs.Standard.{Apart}
use Rattle.rings.specs.Rings.{queue_size, reported}
use Rattle.step.specs.declared.Answer.TheVariants.{Served}
use Rattle.step.specs.declared.Reply.{Reply}
use Rattle.step.specs.World.{World, Call}
use Rattle.step.specs.Step.{step}
use Rattle.queue.specs.Queue.{QueueOutcome}
use Rattle.standard.specs.Requests.{response_of, status_for, ResponseTo}
use Rattle.queue_runs.specs.Runs.{QueueCall, TakeNext, Host, PastIt, queue_step, lent_to, device_calls, newly_reported, QueueStory}
use Rattle.queue_runs.specs.Heads.{Reports}

-- the calls that guest memory is lent to
unfoldable pub on_guest : QueueCall → Bool
on_guest (TakeNext g) = true
on_guest (Host g ok host) = true
on_guest (PastIt b) = false

-- ---- Q4, R13.13: the device writes the used ring and buffers that are given to it for writing, nothing else
-- byte i lies outside of the response that a call may give: the ten bytes at the status address of the chain that it takes, or of the request that waits for the host (by `StatusIsWritable` and `StatusIsKept` of `standard`, a buffer that the driver gave for writing)
abbrev pub OutsideResponse : World → Queue → QueueCall → (i : ℕ) → Type 0
OutsideResponse w q c i = (call : Call) (status : ℕ) → device_calls w q c ≡ call ∷ [] → status_for w call ≡ some status → Apart i (status - (lent_to c).base) 10

-- and outside of a report: the used ring's index, and its next element. Q8: its flags, and avail_event, are left alone
abbrev pub OutsideReport : Queue → QueueCall → (i : ℕ) → Type 0
OutsideReport q c i = let at = q.used.0 - (lent_to c).base in Apart i (at + 2) 2 × Apart i (at + 4 + 8 * (q.next_used % queue_size)) 8

-- then it is as it was
abbrev pub WritesOnly : World → Queue → QueueCall → QueueOutcome → Type 0
WritesOnly w q c o = on_guest c ≡ true → (i : ℕ) → OutsideResponse w q c i → OutsideReport q c i → part o.bytes i 1 ≡ part (lent_to c).mem i 1

-- in a run a call that reports no head writes no byte at all: so a host's answer with no head out does not
abbrev pub UnreportedWritesNothing : QueueStory → QueueCall → Type 0
UnreportedWritesNothing s c = let o = queue_step s.world s.queue c in
    on_guest c ≡ true → newly_reported s.queue c o.answer ≡ [] → o.bytes ≡ (lent_to c).mem

-- ---- a head that is reported
pub record Written (w : World) (q : Queue) (c : QueueCall) (o : QueueOutcome) (head len : ℕ) : Type 0 where
  pub call : Call
  pub made : device_calls w q c ≡ call ∷ []
  -- Q6: the length counts the bytes of the response: ten or, where there is none or it could not be delivered, 0
  pub counts : (reply : Reply) → (step w call).answer ≡ Served reply → (len ≡ reply.used) × ResponseTo w call reply (step w call).bytes
  pub none_counted : response_of (step w call).answer ≡ none → (len ≡ 0) × ((step w call).bytes ≡ (lent_to c).mem)
  -- Q7, R13.13: the response is written, then the element, and the index last
  pub in_turn : o.bytes ≡ reported (step w call).bytes (lent_to c).base q.used.0 q.next_used head len

abbrev pub ReportIsWritten : World → Queue → QueueCall → QueueOutcome → Type 0
ReportIsWritten w q c o = (head len : ℕ) → Reports q c o head len → Written w q c o head len
