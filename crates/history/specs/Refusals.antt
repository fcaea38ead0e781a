-- SPDX-License-Identifier: Apache-2.0 AND BSD-3-Clause
-- What a refusal leaves: nothing has changed but by 10 (R2.8 to R2.10). Of every call c from every world w, and of its outcome o; nothing is asked of the record, the tables or what led to them.
use Rattle.std.specs.Prelude.{ℕ, ◌*◌, ◌≡◌, Bool, true, false, List, []}
use Rattle.units.specs.Numbers.{MiB}
use Rattle.rows.specs.declared.MapRow.{MapRow}
use Rattle.record.specs.declared.Pending.TheVariants.{Nothing, Create}
use Rattle.record.specs.declared.HostCall.{HostCall}
use Rattle.record.specs.Changes.{pending_to, requested_to}
use Rattle.step.specs.declared.Answer.TheVariants.{Refused, Wants}
use Rattle.step.specs.World.{World, Guest, Call, Place, SetRequestedSize, Request, HostAnswer, ReadConfig, WriteConfig, Outcome}
use Rattle.step.specs.Step.{step, device_of, placed}
use Rattle.history.specs.Rules.{is_place}

-- the bytes that a call lends: guest memory, or the buffer of a config read or write
unfoldable pub lent_bytes : Call → List ℕ
lent_bytes (Place at size slots blocks rows) = []
lent_bytes (SetRequestedSize mib) = []
lent_bytes (Request guest descriptors head) = guest.mem
lent_bytes (HostAnswer guest ok host) = guest.mem
lent_bytes (ReadConfig offset buffer) = buffer
lent_bytes (WriteConfig offset buffer) = buffer

-- R2.8: neither the record, nor the tables, nor a byte
abbrev pub RefusedChangesNothing : World → Call → Outcome → Type 0
RefusedChangesNothing w c o = (n : ℕ) → o.answer ≡ Refused n → (n ≡ 10 → ⊥) → (o.world ≡ w) × (o.bytes ≡ lent_bytes c)

-- R1.10, R2.9: 10 is given for the host's no to a pending creation and for nothing else; then nothing is pending, and no more has changed
pub record CreationFailed (w : World) (c : Call) (o : Outcome) : Type 0 where
  pub first : ℕ
  pub last : ℕ
  pub was_pending : w.device.pending ≡ Create first last
  pub guest : Guest
  pub host : ℕ
  pub host_said_no : c ≡ HostAnswer guest false host
  pub nothing_pending : o.world ≡ device_of (pending_to Nothing w.device) w
  pub same_bytes : o.bytes ≡ lent_bytes c

abbrev pub TenIsCreationFailed : World → Call → Outcome → Type 0
TenIsCreationFailed w c o = o.answer ≡ Refused 10 → CreationFailed w c o

-- ---- a call that asks the host, and the host's no
abbrev pub then_no : World → Call → Guest → (host : ℕ) → Outcome
then_no w c g host = step (step w c).world (HostAnswer g false host)

-- R2.9
pub record SizeChangeFailed (w : World) (mib : ℕ) (o : Outcome) : Type 0 where
  pub gives_10 : o.answer ≡ Refused 10
  pub requested_stands : o.world ≡ device_of (requested_to (mib * MiB) w.device) w

abbrev pub TenInSizeChange : Type 0
TenInSizeChange = (w : World) (mib : ℕ) (call : HostCall) → (step w (SetRequestedSize mib)).answer ≡ Wants call
    → (g : Guest) (host : ℕ) → SizeChangeFailed w mib (then_no w (SetRequestedSize mib) g host)

-- R2.10
pub record PlacingFailed (w : World) (at : ℕ) (slots : List ℕ) (bs : List Bool) (rows : List MapRow) (o : Outcome) : Type 0 where
  pub gives_10 : o.answer ≡ Refused 10
  pub unplaced : o.world.device.placed ≡ false
  pub as_written : o.world ≡ placed w at slots bs rows
  pub tried_again : (c : Call) → is_place c ≡ true → (step o.world c).answer ≡ (step w c).answer

abbrev pub TenInPlacing : Type 0
TenInPlacing = (w : World) (at size : ℕ) (slots : List ℕ) (bs : List Bool) (rows : List MapRow) (call : HostCall) → (step w (Place at size slots bs rows)).answer ≡ Wants call
    → (g : Guest) (host : ℕ) → PlacingFailed w at slots bs rows (then_no w (Place at size slots bs rows) g host)
