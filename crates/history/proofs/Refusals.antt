-- SPDX-License-Identifier: Apache-2.0 AND BSD-3-Clause
-- A refused call changes nothing; 10 is given for a creation that failed, and leaves what R2.9 and R2.10 say.
use Rattle.std.specs.Prelude.{Ok, Err, Result, ⊤}
use Prim.Native.Nat.{ℕ, ◌≤◌}
use mathlib.Core.Path.{◌≡◌, refl, ap}
use mathlib.Core.Bool.{Bool, true, false}
use mathlib.Core.List.{List, []}
use native.Mathlib.Omega.{arith}
use lib.ListN.{length}
use borrow.Author.Tests.{le-leb}
use Rattle.bitmap.proofs.Laws.{fill_length}
use Rattle.refusal.specs.declared.Refusal.{Refusal}
use Rattle.refusal.specs.Refusal.{number}
use Rattle.rows.specs.declared.MapRow.{MapRow}
use Rattle.rows.proofs.Laws.{laid_length}
use Rattle.record.specs.declared.Pending.TheVariants.{Nothing}
use Rattle.record.specs.Changes.{pending_to}
use Rattle.record.specs.Shape.{shaped_of, is_idle, start_ok}
use Rattle.record.proofs.Laws.{Parts, whole as shaped-when, start_keeps}
use Rattle.step.specs.declared.Answer.TheVariants.{Refused, Wants, Sized}
use Rattle.step.specs.Answers.{question, refusal}
use Rattle.step.specs.World.{World, Guest, Call, Place, SetRequestedSize, Request, HostAnswer, ReadConfig, WriteConfig, Outcome}
use Rattle.step.specs.Step.{region, several, region_blocks, region_rows, device_of, asks_create, create_fails, placed, tables_fit, unplaced_refusal, range_refusal, unless, place, host_answer, step}
use Rattle.step.proofs.Entry.{waits_when}
use Rattle.history.specs.History.{Event}
use Rattle.history.specs.History.{present}
use Rattle.history.specs.Rules.{FromEveryWorld, is_place}
use Rattle.history.specs.Refusals.{lent_bytes, RefusedChangesNothing, TenIsCreationFailed, SizeChangeFailed, TenInSizeChange, PlacingFailed, TenInPlacing}
use Rattle.history.proofs.Shaped.{clash, idle_nothing}
use Rattle.history.proofs.Cases.{on_ready, on_unplaced, size_cases, resized_cases, place_cases, placing_cases}
use Rattle.history.proofs.Calls.{Resizing, resized_by, Placing, placed_by, Endings, each_call}
use Rattle.history.proofs.KeepsShape.{stays_shaped}
use Rattle.history.proofs.Questions.{silent}

-- ---- one call
record Left (w : World) (c : Call) (o : Outcome) : Type 0 where
  pub same : RefusedChangesNothing w c o
  pub ten : TenIsCreationFailed w c o

abbrev IsLeft : World → Call → Outcome → List Event → Type 0
IsLeft w c o new = Left w c o

-- an ending that is no refusal
done : (w : World) (c : Call) (o : Outcome) → present (refusal o.answer) ≡ false → Left w c o
unfolding refusal
done w c o h = record { same = λ r e _. clash (ap (λ a. present (refusal a)) e) h; ten = λ e. clash (ap (λ a. present (refusal a)) e) h }

left : (w : World) → Endings w (IsLeft w)
unfolding refusal lent_bytes
left w =
    record {
      refuses = λ c r not-ten _. record { same = λ s e _. (refl, refl); ten = λ e. let ten : number r ≡ 10 = cc in absurd (not-ten ten) };
      reads = λ offset buffer bytes. done w _ _ refl;
      writes = λ offset buffer. done w _ _ refl;
      unserves = λ a reason. done w _ _ refl;
      responds = λ a resp. done w _ _ refl;
      plugs_range = λ a addr count first offset _ _. done w _ _ refl;
      asks_range = λ a addr count first offset host _ _ _. done w _ _ refl;
      spoils = λ a addr count first offset _ _. record { same = λ s e _. (refl, refl); ten = λ e. let z : ◌≡◌ {A = ℕ} 0 1 = cc in absurd (omega arith) };
      ends_at_once = λ a r. done w _ _ refl;
      asks_first = λ a block offset host r _. done w _ _ refl;
      stops_at_once = λ a. done w _ _ refl;
      maps = λ i last a. done w _ _ refl;
      create_fails_lem = λ i last a.
          record {
            same = λ n e not-ten. let ten : n ≡ 10 = cc in absurd (not-ten ten);
            ten = λ _.
                record {
                  first = i;
                  last = last;
                  was_pending = a.waits;
                  guest = a.guest;
                  host = a.host;
                  host_said_no = refl;
                  nothing_pending = refl;
                  same_bytes = refl;
                };
          };
      unplugs_range = λ first count status a. done w _ _ refl;
      discard_fails = λ first count status a. done w _ _ refl;
      ends_all_lem = λ j status a r. done w _ _ refl;
      asks_next = λ j status a block offset host r _. done w _ _ refl;
      stops_after = λ j status a. done w _ _ refl;
      one_fails = λ j status a. done w _ _ refl;
      resizes = λ a. done w _ _ refl;
      resize_asks = λ a i last size _. done w _ _ refl;
      places = λ a. done w _ _ refl;
      place_asks = λ a i last size _. done w _ _ refl;
      place_asks_whole = λ a _. done w _ _ refl;
    }

pub refused_changes_nothing : FromEveryWorld RefusedChangesNothing
refused_changes_nothing w c = (each_call w (IsLeft w) (left w) c).same

pub ten_is_creation_failed : FromEveryWorld TenIsCreationFailed
ten_is_creation_failed w c = (each_call w (IsLeft w) (left w) c).ten

-- ---- a creation that was asked for, and the host's no
module _ (w : World) (i last size : ℕ) (g : Guest) (host : ℕ) where
  answers_10 : Parts (asks_create w i last size).world.device → region_blocks w ≤ length w.blocks → region_rows w ≤ length w.rows
      → step (asks_create w i last size).world (HostAnswer g false host) ≡ create_fails w g.mem
  unfolding step unless host_answer tables_fit
  answers_10 s long rows =
      rw (waits_when (asks_create w i last size).world.device (length w.blocks) (length w.rows) (record { shaped = shaped-when _ s; not_idle = refl; fits = rw (le-leb _ _ long) (le-leb _ _ rows) }))

-- nothing was pending before the question either
idle_again : (w : World) → is_idle w.device.pending ≡ true → device_of (pending_to Nothing w.device) w ≡ w
idle_again w e = ap (λ p. device_of (pending_to p w.device) w) (idle_nothing w.device.pending e)

pub ten_in_size_change : TenInSizeChange
unfolding step question
ten_in_size_change w mib call asked g host =
    let P : Outcome → Type 0 = λ o. o.answer ≡ Wants call → SizeChangeFailed w mib (step o.world (HostAnswer g false host)) in
    on_ready P w [] _ (λ r _ _ e. silent (Refused (number r)) call refl e) (length w.blocks) (length w.rows)
    (λ p entry. size_cases P w mib (λ e. silent (Refused 1) call refl e)
    (λ q r.
    let a : Resizing w = record { mib = mib; is_placed = p; entry = entry; in_region = q; whole = r } in
    resized_cases P (resized_by a) (λ e. silent Sized call refl e)
    (λ i last size grows _.
    rw (answers_10 (resized_by a) i last size g host ((stays_shaped w entry.is_shaped).resize_asks a i last size grows) entry.is_long entry.has_rows)
    (record { gives_10 = refl; requested_stands = idle_again (resized_by a) entry.pending_is_idle }))))
    asked

-- ---- placing, tried again
answer_of_lem : (x : Result ⊤ Refusal) (w w' : World) (bytes : List ℕ) (o o' : Outcome) → o.answer ≡ o'.answer → (unless x w bytes o).answer ≡ (unless x w' bytes o').answer
unfolding unless
answer_of_lem (Ok admitted) w w' bytes o o' e = e
answer_of_lem (Err refusal) w w' bytes o o' e = refl

module _ (w : World) (at : ℕ) (slots : List ℕ) (bs : List Bool) (rows : List MapRow) (s : shaped_of w.device ≡ true) (fits : start_ok at (region w) (several w) w.device.alignment ≡ true) where
  abbrev tried : World
  tried = placed w at slots bs rows

  same_refusal : (n m : ℕ) → unplaced_refusal tried.device n m ≡ unplaced_refusal w.device n m
  unfolding unplaced_refusal tables_fit
  same_refusal n m = rw (s, start_keeps w.device s at fits)

  placing_again : (c : Call) → is_place c ≡ true → (step tried c).answer ≡ (step w c).answer
  unfolding step place range_refusal is_place
  placing_again (Place at' size' slots' bs' rows') e = rw (same_refusal (length bs') (length rows')) (answer_of_lem _ tried w [] _ _ (answer_of_lem _ tried w [] _ _ refl))
  placing_again (SetRequestedSize mib) e = clash e refl
  placing_again (Request guest descriptors head) e = clash e refl
  placing_again (HostAnswer guest ok host) e = clash e refl
  placing_again (ReadConfig offset buffer) e = clash e refl
  placing_again (WriteConfig offset buffer) e = clash e refl

-- the host's no to what placing has asked for
failed : (w : World) (a : Placing w) (i last size : ℕ) (g : Guest) (host : ℕ) → Parts (asks_create (placed_by a) i last size).world.device
    → PlacingFailed w a.at a.slots a.bits a.table (step (asks_create (placed_by a) i last size).world (HostAnswer g false host))
failed w a i last size g host s =
    let e = a.entry in
    let long = fill_length a.bits 0 (region_blocks w) false in
    let rows = laid_length a.table a.slots in
    let written = idle_again (placed_by a) e.pending_is_idle in
    rw (answers_10 (placed_by a) i last size g host s (rw long e.is_long) (rw rows e.has_rows))
    (record {
      gives_10 = refl;
      unplaced = a.not_placed_lem;
      as_written = written;
      tried_again = rw written (placing_again w a.at a.slots a.bits a.table (shaped-when _ e.is_shaped) a.start_fits);
    })

pub ten_in_placing : TenInPlacing
unfolding step question
ten_in_placing w at size slots bs rows call asked g host =
    let P : Outcome → Type 0 = λ o. o.answer ≡ Wants call → PlacingFailed w at slots bs rows (step o.world (HostAnswer g false host)) in
    on_unplaced P w [] _ (λ r _ _ e. silent (Refused (number r)) call refl e) (length bs) (length rows)
    (λ p entry. place_cases P w at size slots bs rows (λ e. silent (Refused 3) call refl e) (λ e. silent (Refused 4) call refl e)
    (λ n f.
    let a : Placing w = record { at = at; size = size; slots = slots; bits = bs; table = rows; not_placed_lem = p; entry = entry; slots_fit = n; start_fits = f } in
    let shaped = stays_shaped w entry.is_shaped in
    placing_cases P (placed_by a) (λ e. silent Sized call refl e)
    (λ i last m grows _. failed w a i last m g host (shaped.place_asks a i last m grows))
    (λ single _. failed w a 0 0 (region w) g host (shaped.place_asks_whole a single))))
    asked
