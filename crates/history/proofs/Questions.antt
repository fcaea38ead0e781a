-- SPDX-License-Identifier: Apache-2.0 AND BSD-3-Clause
-- The host is asked for exactly what is then pending, and for a discard only by an unplug or an unplug-all; so a size change discards nothing.
use Rattle.std.specs.Prelude.{None, Ok}
use Prim.Native.Nat.{ℕ, ◌+◌, ◌*◌}
use mathlib.Core.Path.{◌≡◌, refl, ap, sym}
use mathlib.Core.Bool.{Bool, true, false, cond}
use mathlib.Core.List.{List}
use native.Mathlib.Omega.{arith}
use Rattle.units.specs.Numbers.{bytes_of, map_region}
use Rattle.units.specs.declared.GuestAddr.{GuestAddr}
use Rattle.rows.specs.Rows.{row_at}
use Rattle.rows.specs.declared.MapRow.{MapRow}
use Rattle.record.specs.declared.HostCall.{HostCall}
use Rattle.record.specs.declared.HostCall.TheVariants.{Create as CreateCall, Discard as DiscardCall}
use Rattle.resize.specs.Resize.{growth_of, creation}
use Rattle.resize.proofs.Laws.{asking}
use Rattle.change.specs.Change.{host_of}
use Rattle.step.specs.declared.Answer.{Answer}
use Rattle.step.specs.declared.Answer.TheVariants.{Wants}
use Rattle.step.specs.Answers.{question}
use Rattle.step.specs.World.{World, Call, Outcome}
use Rattle.step.specs.Step.{block_size, region, start, several}
use Rattle.history.specs.History.{Event, open_of}
use Rattle.history.specs.Rules.{FromEveryGood, FromEveryWorld, DiscardsNothing, SizeChangeDiscardsNothing, asks}
use Rattle.history.specs.Questions.{IsDiscard, creation_due, IsCreation, WaitsFor, AsksForPending, is_unplug, is_unplug_all, may_discard, OnlyUnplugsDiscard, OnlyOpenUnplugsDiscard, OthersDiscardNothing}
use Rattle.history.proofs.Shaped.{clash}
use Rattle.history.proofs.Calls.{Endings, each_call}

-- ---- the questions
-- an answer that is no question
pub silent : {A : Type 0} (a : Answer) (call : HostCall) → asks a ≡ 0 → a ≡ Wants call → A
unfolding question
silent a call h e = let one : asks a ≡ 1 = ap asks e in absurd (omega arith)

discard_asked : (w : World) (first count offset host : ℕ) (call : HostCall) → offset ≡ bytes_of (block_size w) first
    → host_of (several w) w.rows offset (bytes_of (block_size w) count) ≡ Ok (record { 0 = host })
    → Wants (DiscardCall (record { 0 = offset }) (bytes_of (block_size w) count) (record { 0 = host })) ≡ Wants call → IsDiscard w first count call
discard_asked w first count offset host call at maps e =
    let q : DiscardCall (record { 0 = offset }) (bytes_of (block_size w) count) (record { 0 = host }) ≡ call = cc in
    record { host = record { 0 = host }; host_is = rw at at maps; call_is = sym (rw at at q) }

creation_asked : (w : World) (i last size : ℕ) (call : HostCall) → creation_due w ≡ creation i last size
    → Wants (CreateCall (record { 0 = start w + i * map_region }) size (row_at w.rows i).slot) ≡ Wants call → IsCreation w i last call
creation_asked w i last size call due e = record { size = size; is_due = due; call_is = cc }

-- the growth of the usable size asks only where there are several regions
several_due : (several placed : Bool) (region usable new : ℕ) (rows : List MapRow) (i last size : ℕ) → growth_of region several usable new rows ≡ creation i last size
    → cond several (growth_of region several usable new rows) (cond placed None (creation 0 0 region)) ≡ creation i last size
several_due true placed region usable new rows i last size g = g
several_due false placed region usable new rows i last size g = clash (asking region false usable new rows i last size g).regions refl

-- ---- each ending
record Question (w : World) (c : Call) (o : Outcome) : Type 0 where
  pub is_pending : AsksForPending w c o
  pub by_unplug : OnlyUnplugsDiscard w c o

abbrev IsQuestion : World → Call → Outcome → List Event → Type 0
IsQuestion w c o new = Question w c o

asks_none : (w : World) (c : Call) (o : Outcome) → asks o.answer ≡ 0 → Question w c o
asks_none w c o none = record { is_pending = λ call e. silent o.answer call none e; by_unplug = λ offset size host e. silent o.answer _ none e }

asks_creation : (w : World) (c : Call) (o : Outcome) (guest : GuestAddr) (size slot : ℕ) → o.answer ≡ Wants (CreateCall guest size slot) → AsksForPending w c o → Question w c o
asks_creation w c o guest size slot is p = record { is_pending = p; by_unplug = λ offset n host e. let z : ◌≡◌ {A = ℕ} 0 1 = cc in absurd (omega arith) }

questions : (w : World) → Endings w (IsQuestion w)
unfolding question WaitsFor is_unplug is_unplug_all may_discard open_of
questions w =
    record {
      refuses = λ c n _ _. asks_none w c _ refl;
      reads = λ offset buffer bytes. asks_none w _ _ refl;
      writes = λ offset buffer. asks_none w _ _ refl;
      unserves = λ a reason. asks_none w _ _ refl;
      responds = λ a resp. asks_none w _ _ refl;
      plugs_range = λ a addr count first offset _ _. asks_none w _ _ refl;
      asks_range = λ a addr count first offset host _ _ at.
          record {
            is_pending = λ call e. discard_asked _ first count offset host call at.offset_is at.host_is e;
            by_unplug = λ _ _ _ _. ap is_unplug a.of_type;
          };
      spoils = λ a addr count first offset _ _. asks_none w _ _ refl;
      ends_at_once = λ a r. asks_none w _ _ refl;
      asks_first = λ a block offset host r at.
          record {
            is_pending = λ call e. discard_asked _ block 1 offset host call at.offset_is at.host_is e;
            by_unplug = λ _ _ _ _. ap is_unplug a.of_type;
          };
      stops_at_once = λ a. asks_none w _ _ refl;
      maps = λ i last a. asks_none w _ _ refl;
      create_fails_lem = λ i last a. asks_none w _ _ refl;
      unplugs_range = λ first count status a. asks_none w _ _ refl;
      discard_fails = λ first count status a. asks_none w _ _ refl;
      ends_all_lem = λ j status a r. asks_none w _ _ refl;
      asks_next = λ j status a block offset host r at.
          record {
            is_pending = λ call e. discard_asked _ block 1 offset host call at.offset_is at.host_is e;
            by_unplug = λ _ _ _ _. ap (λ p. is_unplug_all (open_of p)) a.waits;
          };
      stops_after = λ j status a. asks_none w _ _ refl;
      one_fails = λ j status a. asks_none w _ _ refl;
      resizes = λ a. asks_none w _ _ refl;
      resize_asks = λ a i last size g. asks_creation w _ _ _ _ _ refl (λ call e. creation_asked _ i last size call (several_due (several w) w.device.placed _ _ _ _ i last size g) e);
      places = λ a. asks_none w _ _ refl;
      place_asks = λ a i last size g. asks_creation w _ _ _ _ _ refl (λ call e. creation_asked _ i last size call (several_due (several w) w.device.placed _ _ _ _ i last size g) e);
      place_asks_whole = λ a single. asks_creation w _ _ _ _ _ refl (λ call e. creation_asked _ 0 0 (region w) call (rw (single, a.not_placed_lem)) e);
    }

pub asks_for_pending : FromEveryWorld AsksForPending
asks_for_pending w c = (each_call w (IsQuestion w) (questions w) c).is_pending

pub only_unplugs_discard : FromEveryWorld OnlyUnplugsDiscard
only_unplugs_discard w c = (each_call w (IsQuestion w) (questions w) c).by_unplug

pub only_open_unplugs_discard : FromEveryGood OnlyOpenUnplugsDiscard
only_open_unplugs_discard s g c = rw g.opened at (only_unplugs_discard s.world c)

-- ---- the calls that discard nothing
never : (w : World) (c : Call) → may_discard (open_of w.device.pending) c ≡ false → DiscardsNothing w c
never w c no-discard offset size host e = clash (only_unplugs_discard w c offset size host e) no-discard

pub size_change_discards_nothing : SizeChangeDiscardsNothing
unfolding may_discard
size_change_discards_nothing w mib = never w _ refl

pub others_discard_nothing : (w : World) → OthersDiscardNothing w
unfolding may_discard
others_discard_nothing w =
    record {
      placing = λ at size slots bs rows. never w _ refl;
      reading = λ offset buffer. never w _ refl;
      writing = λ offset buffer. never w _ refl;
    }
