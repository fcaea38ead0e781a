-- SPDX-License-Identifier: Apache-2.0 AND BSD-3-Clause
-- What a call does to the tables, and where they do not matter: every call but placing keeps how many rows and blocks there are; before placing each call but placing is refused whatever tables are lent; placing ends alike whatever tables were there before.
use Rattle.std.specs.Prelude.{Ok, Err, Result, ⊤}
use Prim.Native.Nat.{ℕ}
use mathlib.Core.Path.{◌≡◌, refl}
use mathlib.Core.Bool.{Bool, true, false, cond, not}
use mathlib.Core.List.{List, []}
use native.Mathlib.Omega.{arith}
use lib.Dec.{eqb}
use lib.ListN.{length}
use borrow.Author.Tests.{ne_eqb}
use Rattle.units.proofs.Tests.{by_test}
use Rattle.refusal.specs.declared.Refusal.{Refusal}
use Rattle.refusal.specs.declared.Refusal.TheVariants.{NotPlaced, NothingPending, NoShape}
use Rattle.refusal.specs.Refusal.{number}
use Rattle.refusal.proofs.Numbered.{numbered}
use Rattle.bitmap.proofs.Laws.{fill_length as fill-blocks}
use Rattle.rows.specs.declared.MapRow.{MapRow}
use Rattle.rows.proofs.Laws.{fill_length, laid_length}
use Rattle.record.specs.declared.Device.{Device}
use Rattle.record.specs.Shape.{shaped_of, is_idle}
use Rattle.step.specs.World.{World, Guest, Call, Place, SetRequestedSize, Request, HostAnswer, ReadConfig, WriteConfig, Outcome}
use Rattle.step.specs.Step.{step, refused, placed, unless, ready_refusal, pending_refusal, unplaced_refusal, place, placing, read_config, write_config, range_refusal}
use Rattle.step.specs.Answers.{number_of}
use Rattle.history.specs.History.{Event}
use Rattle.history.specs.Rules.{is_place}
use Rattle.history.proofs.Shaped.{clash}
use Rattle.history.proofs.Cases.{placing_cases}
use Rattle.history.proofs.Calls.{Endings, each_call}

-- ---- how many rows and blocks there are
pub record SameLengths (w w' : World) : Type 0 where
  pub same_rows : length w'.rows ≡ length w.rows
  pub same_blocks : length w'.blocks ≡ length w.blocks

abbrev Keeps : World → Call → Outcome → List Event → Type 0
Keeps w c o new = is_place c ≡ false → SameLengths w o.world

keeps : (w : World) → Endings w (Keeps w)
unfolding is_place
keeps w =
    let same : SameLengths w w = record { same_rows = refl; same_blocks = refl } in
    record {
      refuses = λ c r _ _ _. same;
      reads = λ offset buffer bytes _. same;
      writes = λ offset buffer _. same;
      unserves = λ a reason _. same;
      responds = λ a resp _. same;
      plugs_range = λ a addr count first offset _ _ _. record { same_rows = refl; same_blocks = fill-blocks w.blocks first count true };
      asks_range = λ a addr count first offset host _ _ _ _. record { same_rows = refl; same_blocks = refl };
      spoils = λ a addr count first offset _ _ _. same;
      ends_at_once = λ a r _. record { same_rows = refl; same_blocks = refl };
      asks_first = λ a block offset host r _ _. record { same_rows = refl; same_blocks = refl };
      stops_at_once = λ a _. record { same_rows = refl; same_blocks = refl };
      maps = λ i last a _. record { same_rows = fill_length w.rows i _ a.host; same_blocks = refl };
      create_fails_lem = λ i last a _. record { same_rows = refl; same_blocks = refl };
      unplugs_range = λ first count status a _. record { same_rows = refl; same_blocks = fill-blocks w.blocks first count false };
      discard_fails = λ first count status a _. record { same_rows = refl; same_blocks = refl };
      ends_all_lem = λ j status a r _. record { same_rows = refl; same_blocks = fill-blocks w.blocks j 1 false };
      asks_next = λ j status a block offset host r _ _. record { same_rows = refl; same_blocks = fill-blocks w.blocks j 1 false };
      stops_after = λ j status a _. record { same_rows = refl; same_blocks = fill-blocks w.blocks j 1 false };
      one_fails = λ j status a _. record { same_rows = refl; same_blocks = refl };
      resizes = λ a _. record { same_rows = refl; same_blocks = refl };
      resize_asks = λ a i last size _ _. record { same_rows = refl; same_blocks = refl };
      places = λ a p. clash refl p;
      place_asks = λ a i last size _ p. clash refl p;
      place_asks_whole = λ a _ p. clash refl p;
    }

pub lengths_kept : (w : World) (c : Call) → is_place c ≡ false → SameLengths w (step w c).world
lengths_kept w c = each_call w (Keeps w) (keeps w) c

-- ---- two worlds with one record and any tables
abbrev pub with : Device → List Bool → List MapRow → World
with d bs rows = record { device = d; blocks = bs; rows = rows }

-- both outcomes tell the same, and leave their worlds as they were
pub record Stay (w w' : World) (o o' : Outcome) : Type 0 where
  pub same_answer : o'.answer ≡ o.answer
  pub same_bytes : o'.bytes ≡ o.bytes
  pub stays : o.world ≡ w
  pub stays' : o'.world ≡ w'

module _ (d : Device) (bs bs' : List Bool) (rows rows' : List MapRow) where
  refuse_both : (r : Refusal) (bytes : List ℕ) → Stay (with d bs rows) (with d bs' rows') (refused r (with d bs rows) bytes) (refused r (with d bs' rows') bytes)
  refuse_both r bytes = record { same_answer = refl; same_bytes = refl; stays = refl; stays' = refl }

  -- the config's calls look at the record alone
  pub read_stays : (offset : ℕ) (buffer : List ℕ) → Stay (with d bs rows) (with d bs' rows') (step (with d bs rows) (ReadConfig offset buffer)) (step (with d bs' rows') (ReadConfig offset buffer))
  unfolding step read_config
  read_stays offset buffer =
      by_test (shaped_of d) (λ t. rw t (record { same_answer = refl; same_bytes = refl; stays = refl; stays' = refl })) (λ t. rw t (refuse_both NoShape buffer))

  pub write_stays : (offset : ℕ) (buffer : List ℕ) → Stay (with d bs rows) (with d bs' rows') (step (with d bs rows) (WriteConfig offset buffer)) (step (with d bs' rows') (WriteConfig offset buffer))
  unfolding step write_config
  write_stays offset buffer =
      by_test (shaped_of d) (λ t. rw t (record { same_answer = refl; same_bytes = refl; stays = refl; stays' = refl })) (λ t. rw t (refuse_both NoShape buffer))

  -- a device that is not placed and waits for nothing: 12 or 5, and 12 or 8 for a host answer
  refuse_early : (x x' : Result ⊤ Refusal) (r : Refusal) (bytes : List ℕ) (o o' : Outcome) → x ≡ Err r → x' ≡ Err r
      → Stay (with d bs rows) (with d bs' rows') (unless x (with d bs rows) bytes o) (unless x' (with d bs' rows') bytes o')
  unfolding unless
  refuse_early x x' r bytes o o' p q = rw (p, q) (refuse_both r bytes)

  module _ (unplaced : d.placed ≡ false) (idle : is_idle d.pending ≡ true) where
    pub not_ready : (b r : ℕ) → ready_refusal d b r ≡ Err (cond (not (shaped_of d)) NoShape NotPlaced)
    unfolding ready_refusal
    not_ready b r = by_test (shaped_of d) (λ t. rw (t, idle, unplaced)) (λ t. rw t)

    not_pending : (b r : ℕ) → pending_refusal d b r ≡ Err (cond (not (shaped_of d)) NoShape NothingPending)
    unfolding pending_refusal
    not_pending b r = by_test (shaped_of d) (λ t. rw (t, idle)) (λ t. rw t)

    pub size_early : (mib : ℕ) → Stay (with d bs rows) (with d bs' rows') (step (with d bs rows) (SetRequestedSize mib)) (step (with d bs' rows') (SetRequestedSize mib))
    unfolding step
    size_early mib = refuse_early _ _ _ [] _ _ (not_ready _ _) (not_ready _ _)

    pub request_early : (g : Guest) (descriptors head : ℕ) → Stay (with d bs rows) (with d bs' rows') (step (with d bs rows) (Request g descriptors head)) (step (with d bs' rows') (Request g descriptors head))
    unfolding step
    request_early g descriptors head = refuse_early _ _ _ g.mem _ _ (not_ready _ _) (not_ready _ _)

    pub answer_early : (g : Guest) (ok : Bool) (host : ℕ) → Stay (with d bs rows) (with d bs' rows') (step (with d bs rows) (HostAnswer g ok host)) (step (with d bs' rows') (HostAnswer g ok host))
    unfolding step
    answer_early g ok host = refuse_early _ _ _ g.mem _ _ (not_pending _ _) (not_pending _ _)

-- ---- placing brings its own
-- both placings tell the same. One that is refused leaves its world; one that is not leaves one world, with as many rows as it was lent
pub record Alike (w w' : World) (lent : List MapRow) (o o' : Outcome) : Type 0 where
  pub same_answer : o'.answer ≡ o.answer
  pub same_bytes : o'.bytes ≡ o.bytes
  pub same_device : o'.world.device ≡ o.world.device
  pub refuses : eqb (number_of o.answer) 0 ≡ false → (o.world ≡ w) × (o'.world ≡ w')
  pub takes : eqb (number_of o.answer) 0 ≡ true → (o'.world ≡ o.world) × (length o.world.rows ≡ length lent)

-- no refusal is told as 0
some_number : (r : Refusal) → eqb (number r) 0 ≡ false
some_number r = ne_eqb (number r) 0 (λ e. let n = numbered r in omega arith)

-- a placing that is taken
pub record Taken (lent : List MapRow) (o : Outcome) : Type 0 where
  pub number_0 : number_of o.answer ≡ 0
  pub same_rows : length o.world.rows ≡ length lent

module _ (d : Device) (bs bs' : List Bool) (rows rows' : List MapRow) (at size : ℕ) (slots : List ℕ) (bits : List Bool) (lent : List MapRow) where
  abbrev Both : Outcome → Outcome → Type 0
  Both o o' = Alike (with d bs rows) (with d bs' rows') lent o o'

  refused_alike : (r : Refusal) → Both (refused r (with d bs rows) []) (refused r (with d bs' rows') [])
  refused_alike r = record { same_answer = refl; same_bytes = refl; same_device = refl; refuses = λ _. (refl, refl); takes = λ f. clash f (some_number r) }

  taken_alike : (o : Outcome) → Taken lent o → Both o o
  taken_alike o t =
      record {
        same_answer = refl;
        same_bytes = refl;
        same_device = refl;
        refuses = λ e. clash {t = eqb (number_of o.answer) 0} (rw t.number_0) e;
        takes = λ _. (refl, t.same_rows);
      }

  placing_taken : (w : World) → length w.rows ≡ length lent → Taken lent (placing w)
  placing_taken w l =
      placing_cases (Taken lent) w (record { number_0 = refl; same_rows = l }) (λ i last n _. record { number_0 = refl; same_rows = l }) (λ _. record { number_0 = refl; same_rows = l })

  -- where both are tested alike
  unless_alike : (x : Result ⊤ Refusal) (o o' : Outcome) → Both o o' → Both (unless x (with d bs rows) [] o) (unless x (with d bs' rows') [] o')
  unfolding unless
  unless_alike (Ok admitted) o o' both = both
  unless_alike (Err refusal) o o' both = refused_alike refusal

  place_alike : Both (place (with d bs rows) at size slots bits lent) (place (with d bs' rows') at size slots bits lent)
  unfolding place
  place_alike =
      let w = placed (with d bs rows) at slots bits lent in
      unless_alike (range_refusal d at size (length slots)) _ _ (taken_alike (placing w) (placing_taken w (laid_length lent slots)))

  pub places_alike : Both (step (with d bs rows) (Place at size slots bits lent)) (step (with d bs' rows') (Place at size slots bits lent))
  unfolding step
  places_alike = unless_alike (unplaced_refusal d (length bits) (length lent)) _ _ place_alike
