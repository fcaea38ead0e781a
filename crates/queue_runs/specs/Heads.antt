-- SPDX-License-Identifier: Apache-2.0 AND BSD-3-Clause
-- What becomes of the heads: each that is taken is reported used once, and a refused call takes none (R13.9, R13.12).
use Rattle.std.specs.Prelude.{ℕ, ◌+◌, ◌-◌, ◌%◌, ◌≡◌, Bool, true, false, List, [], ◌∷◌, ◌++◌, length, Option, Some, None}
use Rattle.record.specs.Shape.{is_idle}
use Rattle.rings.specs.declared.Queue.{Queue}
use Rattle.rings.specs.Standard.{used_index, used_id, used_length}
use Rattle.step.specs.declared.Answer.TheVariants.{Refused}
use Rattle.step.specs.World.{World, Guest}
use Rattle.queue.specs.declared.Ending.TheVariants.{Used}
use Rattle.queue.specs.Queue.{QueueOutcome, discarding}
use Rattle.queue_runs.specs.Runs.{Beside, Placing, Sizing, Reading, Writing, QueueCall, TakeNext, Host, PastIt, queue_step, lent_to, ending_told, newly_taken, newly_reported, out_of, QueueStory, QueueReached, LendsBytes, AllLendBytes}

-- ---- R13.12: once, in the order taken, when its request has ended
pub record InOrder (s : QueueStory) (c : QueueCall) : Type 0 where
  -- the heads taken are those reported, in that order, and then the one that is out, if any
  pub in_order : s.reports ++ out_of s.queue.taken ≡ s.taken
  -- Q3: both indices count them, and wrap
  pub index_available : s.queue.next_available ≡ length s.taken % 65536
  pub index_used : s.queue.next_used ≡ length s.reports % 65536

-- a head is out exactly while its request has not ended: the host is asked for a discard
unfoldable pub is_out : Option ℕ → Bool
is_out None = false
is_out (Some head) = true

abbrev pub OutWhileOpen : QueueStory → QueueCall → Type 0
OutWhileOpen s c = is_out s.queue.taken ≡ discarding s.world.device.pending

-- ---- R13.3, R13.8: what stands in the used ring
-- what the guest reads of the n-th report, counted from 0, in the used ring that begins at byte `at`
pub record Stands (mem : List ℕ) (at n head len : ℕ) : Type 0 where
  pub counted : used_index mem at ≡ (n + 1) % 65536
  pub named : used_id mem at (n % 128) ≡ head
  pub measured : used_length mem at (n % 128) ≡ len

-- a call reports this head with this length
pub record Reports (q : Queue) (c : QueueCall) (o : QueueOutcome) (head len : ℕ) : Type 0 where
  pub reported : newly_reported q c o.answer ≡ head ∷ []
  pub ended : ending_told o.answer ≡ Used len

-- then it stands there, whatever else of the guest's lies in the same bytes
abbrev pub NthReport : Type 0
NthReport = (s : QueueStory) (r : QueueReached s) → AllLendBytes r → (c : QueueCall) → LendsBytes c → let o = queue_step s.world s.queue c in
    (head len : ℕ) → Reports s.queue c o head len → Stands o.bytes (s.queue.used.0 - (lent_to c).base) (length s.reports) head len

-- ---- R13.9: a refused call takes none, and neither does one that finds the ring empty (R13.6)
pub record TakesNone (w : World) (q : Queue) (c : QueueCall) (o : QueueOutcome) : Type 0 where
  pub none_taken : newly_taken q c o.answer ≡ []
  pub none_reported : newly_reported q c o.answer ≡ []
  pub same_queue : o.queue ≡ q

-- the bytes that a call is lent: guest memory, or the buffer of a config read or write
unfoldable pub beside_bytes : Beside → List ℕ
beside_bytes (Placing at size slots blocks rows) = []
beside_bytes (Sizing mib) = []
beside_bytes (Reading offset buffer) = buffer
beside_bytes (Writing offset buffer) = buffer

unfoldable pub bytes_to : QueueCall → List ℕ
bytes_to (TakeNext g) = g.mem
bytes_to (Host g ok host) = g.mem
bytes_to (PastIt b) = beside_bytes b

abbrev pub RefusedTakesNone : World → Queue → QueueCall → QueueOutcome → Type 0
RefusedTakesNone w q c o = (n : ℕ) → o.answer ≡ Some (Refused n) → TakesNone w q c o × (o.bytes ≡ bytes_to c)

-- nor does it change anything; 10 is a creation that failed, and leaves of the world what `TenIsCreationFailed` says
abbrev pub RefusedMovesNothing : World → Queue → QueueCall → QueueOutcome → Type 0
RefusedMovesNothing w q c o = (n : ℕ) → o.answer ≡ Some (Refused n) → (n ≡ 10 → ⊥) → o.world ≡ w

abbrev pub EmptyMovesNothing : World → Queue → QueueCall → QueueOutcome → Type 0
EmptyMovesNothing w q c o = o.answer ≡ None → TakesNone w q c o × (o.world ≡ w) × (o.bytes ≡ bytes_to c)

-- ---- R13.9: none is taken while a host call is pending
abbrev pub NoneWhilePending : QueueStory → QueueCall → Type 0
NoneWhilePending s c = (g : Guest) → is_idle s.world.device.pending ≡ false → (queue_step s.world s.queue (TakeNext g)).answer ≡ Some (Refused 7)

-- R13.11, R18.11: 12 never appears
abbrev pub Never12 : QueueStory → QueueCall → Type 0
Never12 s c = (queue_step s.world s.queue c).answer ≡ Some (Refused 12) → ⊥
