-- SPDX-License-Identifier: Apache-2.0 AND BSD-3-Clause
-- No host call is asked twice or left unanswered: questions and the answers taken balance, and what is asked for is due.
use Prim.Native.Nat.{ℕ, ◌+◌}
use mathlib.Core.Path.{◌≡◌, refl}
use mathlib.Core.Bool.{true}
use mathlib.Core.List.{List, [], ◌∷◌}
use native.Mathlib.Omega.{arith}
use borrow.Author.Tests.{ne_eqb}
use Rattle.record.specs.declared.Pending.{Pending}
use Rattle.record.specs.declared.Pending.TheVariants.{Nothing, Create, Discard, DiscardOne}
use Rattle.record.specs.Shape.{is_idle}
use Rattle.refusal.specs.Refusal.{number}
use Rattle.step.specs.declared.Answer.TheVariants.{Refused}
use Rattle.step.specs.Answers.{question, refusal}
use Rattle.step.specs.World.{World, Call, Place, SetRequestedSize, Request, HostAnswer, ReadConfig, WriteConfig, Outcome}
use Rattle.history.specs.History.{Event, next, after}
use Rattle.history.specs.Rules.{FromEveryGood, FromEveryWorld, asks, takes_answer, waits, asked_in, taken_in, EachAskedAnswered, PendingStays, AsksWhatIsDue}
use Rattle.history.proofs.Shaped.{clash, idle_nothing}
use Rattle.history.proofs.Calls.{Endings, each_call}

-- ---- each question is answered once
idle_waits : (p : Pending) → is_idle p ≡ true → waits p ≡ 0
unfolding waits
idle_waits Nothing e = refl
idle_waits (Create first last) e = clash e refl
idle_waits (Discard first count status) e = clash e refl
idle_waits (DiscardOne block status) e = clash e refl

refused_takes : (c : Call) (n : ℕ) → (n ≡ 10 → ⊥) → takes_answer c (Refused n) ≡ 0
unfolding takes_answer refusal
refused_takes (Place at size slots blocks rows) n h = refl
refused_takes (SetRequestedSize mib) n h = refl
refused_takes (Request guest descriptors head) n h = refl
refused_takes (HostAnswer guest ok host) n h = rw (ne_eqb n 10 h)
refused_takes (ReadConfig offset buffer) n h = refl
refused_takes (WriteConfig offset buffer) n h = refl

abbrev Balanced : World → Call → Outcome → List Event → Type 0
Balanced w c o new = asks o.answer + waits w.device.pending ≡ takes_answer c o.answer + waits o.world.device.pending

balanced : (w : World) → Endings w (Balanced w)
unfolding question takes_answer refusal waits
balanced w =
    let p = w.device.pending in
    record {
      refuses = λ c r h _. rw (refused_takes c (number r) h);
      reads = λ offset buffer bytes. refl;
      writes = λ offset buffer. refl;
      unserves = λ a reason. refl;
      responds = λ a resp. refl;
      plugs_range = λ a addr count first offset _ _. refl;
      asks_range = λ a addr count first offset host _ _ _. rw (idle_waits p a.entry.pending_is_idle);
      spoils = λ a addr count first offset _ _. refl;
      ends_at_once = λ a r. rw (idle_waits p a.entry.pending_is_idle);
      asks_first = λ a block offset host r _. rw (idle_waits p a.entry.pending_is_idle);
      stops_at_once = λ a. rw (idle_waits p a.entry.pending_is_idle);
      maps = λ i last a. rw a.waits;
      create_fails_lem = λ i last a. rw a.waits;
      unplugs_range = λ first count status a. rw a.waits;
      discard_fails = λ first count status a. rw a.waits;
      ends_all_lem = λ j status a r. rw a.waits;
      asks_next = λ j status a block offset host r _. rw a.waits;
      stops_after = λ j status a. rw a.waits;
      one_fails = λ j status a. rw a.waits;
      resizes = λ a. refl;
      resize_asks = λ a i last size _. rw (idle_waits p a.entry.pending_is_idle);
      places = λ a. refl;
      place_asks = λ a i last size _. rw (idle_waits p a.entry.pending_is_idle);
      place_asks_whole = λ a _. rw (idle_waits p a.entry.pending_is_idle);
    }

pub each_asked_answered : EachAskedAnswered
unfolding asked_in taken_in after next
each_asked_answered s [] = omega arith
each_asked_answered s (c ∷ cs) = omega (arith, each_asked_answered (next s c) cs, each_call s.world (Balanced s.world) (balanced s.world) c)

-- ---- a pending call stays but by a question or an answer
abbrev Stays : World → Call → Outcome → List Event → Type 0
Stays w c o new = PendingStays w c o

stays : (w : World) → Endings w (Stays w)
unfolding question takes_answer refusal
stays w =
    let p = w.device.pending in
    record {
      refuses = λ c r _ _ _ _. refl;
      reads = λ offset buffer bytes _ _. refl;
      writes = λ offset buffer _ _. refl;
      unserves = λ a reason _ _. refl;
      responds = λ a resp _ _. refl;
      plugs_range = λ a addr count first offset _ _ _ _. refl;
      asks_range = λ a addr count first offset host _ _ _ asked _. absurd (omega arith);
      spoils = λ a addr count first offset _ _ _ _. refl;
      ends_at_once = λ a r _ _. idle_nothing p a.entry.pending_is_idle;
      asks_first = λ a block offset host r _ asked _. absurd (omega arith);
      stops_at_once = λ a _ _. idle_nothing p a.entry.pending_is_idle;
      maps = λ i last a _ given. absurd (omega arith);
      create_fails_lem = λ i last a _ given. absurd (omega arith);
      unplugs_range = λ first count status a _ given. absurd (omega arith);
      discard_fails = λ first count status a _ given. absurd (omega arith);
      ends_all_lem = λ j status a r _ given. absurd (omega arith);
      asks_next = λ j status a block offset host r _ asked _. absurd (omega arith);
      stops_after = λ j status a _ given. absurd (omega arith);
      one_fails = λ j status a _ given. absurd (omega arith);
      resizes = λ a _ _. refl;
      resize_asks = λ a i last size _ asked _. absurd (omega arith);
      places = λ a _ _. refl;
      place_asks = λ a i last size _ asked _. absurd (omega arith);
      place_asks_whole = λ a _ asked _. absurd (omega arith);
    }

pub pending_stays : FromEveryWorld PendingStays
pending_stays w c = each_call w (Stays w) (stays w) c

-- ---- what is asked for is due
pub asks_what_is_due : FromEveryGood AsksWhatIsDue
asks_what_is_due s g c = g.is_due
