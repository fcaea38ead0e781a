-- SPDX-License-Identifier: Apache-2.0 AND BSD-3-Clause
-- The sizes: 12 never appears in a run, an unplug-all takes off what was counted, the usable size never shrinks, only a size change moves the requested size, and a plug never takes the plugged size past it.
use Prim.Native.Nat.{ℕ, ◌+◌, ◌*◌, ◌≤◌}
use mathlib.Core.Path.{◌≡◌, refl, ap}
use mathlib.Core.Bool.{Bool, true, false}
use mathlib.Core.List.{List}
use mathlib.Core.Option.{Option, some, none}
use native.Mathlib.Omega.{arith}
use lib.Dec.{eqb}
use borrow.Author.Tests.{ne_eqb}
use Rattle.refusal.specs.Refusal.{number}
use Rattle.step.specs.Answers.{refusal}
use Rattle.step.specs.World.{World, Call, Outcome}
use Rattle.step.specs.Step.{block_size, region, usable, plugged, requested, region_blocks}
use Rattle.history.specs.History.{Event}
use Rattle.history.specs.Promises.{Moves, MovesSizes}
use Rattle.history.specs.Rules.{FromEveryGood, FromEveryWorld, Never12, DiscardIsCounted, UsableNeverShrinks, is_size_change, OnlySizeChangeMovesRequested, PlugWithinRequested}
use Rattle.record.proofs.Laws.{Parts, whole as shaped-when}
use Rattle.history.proofs.Shaped.{clash}
use Rattle.history.proofs.Invariant.{Asked, Inv, used_unplugged, used_one}
use Rattle.history.proofs.Calls.{Endings, each_call}
use Rattle.history.proofs.Good.{invariant}
use Rattle.history.proofs.KeepsShape.{is_shaped}

-- ---- 12 never appears
abbrev is12 : Option ℕ → Bool
is12 none = false
is12 (some number) = eqb number 12

abbrev Not12 : Call → Outcome → List Event → Type 0
Not12 c o new = is12 (refusal o.answer) ≡ false

-- blocks that are plugged are counted in the plugged size
are_counted : (b s c a n : ℕ) → n + c ≡ a → s ≡ a * b → c * b ≤ s
are_counted b s c a n p q = rw (q, ← p) (omega arith)

module _ (w : World) (s : Parts w.device) (es : List Event) (h : Inv w es) where
  not_12 : Endings w Not12
  unfolding refusal
  not_12 =
      record {
        refuses = λ c r _ spoilt. ne_eqb (number r) 12 (λ e. clash (shaped-when w.device s) (spoilt e));
        reads = λ offset buffer bytes. refl;
        writes = λ offset buffer. refl;
        unserves = λ a reason. refl;
        responds = λ a resp. refl;
        plugs_range = λ a addr count first offset _ _. refl;
        asks_range = λ a addr count first offset host _ _ _. refl;
        spoils = λ a addr count first offset less l.
            let fewer = used_unplugged (region_blocks w) w.blocks a.entry.is_long first count l.ends l.state in
            let enough = are_counted (block_size w) (plugged w) count _ _ fewer h.told.count in
            absurd (omega arith);
        ends_at_once = λ a r. refl;
        asks_first = λ a block offset host r _. refl;
        stops_at_once = λ a. refl;
        maps = λ i last a. refl;
        create_fails_lem = λ i last a. refl;
        unplugs_range = λ first count status a. refl;
        discard_fails = λ first count status a. refl;
        ends_all_lem = λ j status a r. refl;
        asks_next = λ j status a block offset host r _. refl;
        stops_after = λ j status a. refl;
        one_fails = λ j status a. refl;
        resizes = λ a. refl;
        resize_asks = λ a i last size _. refl;
        places = λ a. refl;
        place_asks = λ a i last size _. refl;
        place_asks_whole = λ a _. refl;
      }

pub never_12 : FromEveryGood Never12
unfolding refusal
never_12 s r c e = clash (ap (λ a. is12 (refusal a)) e) (each_call s.world Not12 (not_12 s.world (is_shaped s r) s.events (invariant s r)) c)

-- ---- the block that an unplug-all waits for is counted
pub discard_is_counted : FromEveryGood DiscardIsCounted
unfolding Asked
discard_is_counted s r c block status waits =
    let w = s.world in
    let h = invariant s r in
    let enough = are_counted (block_size w) (plugged w) 1 _ _ (used_one (region_blocks w) w.blocks block (rw waits at h.asked)) h.told.count in
    omega arith

-- ---- the sizes, of any call from any world
abbrev IsMoved : World → Call → Outcome → List Event → Type 0
IsMoved w c o new = Moves w c o.world

-- an ending that plugs nothing and leaves the requested size as it is
calm : (w : World) (c : Call) (w' : World) → usable w ≤ usable w' → plugged w' ≤ plugged w → requested w' ≡ requested w
    → block_size w' ≡ block_size w → region w' ≡ region w → (w.device.placed ≡ true → w'.device.placed ≡ true) → Moves w c w'
calm w c w' u p r b n there = record { plugs_within = omega arith; requested_stays = λ _. r; usable_grows = u; same_block_size = b; same_region = n; stays_placed = there }

moved : (w : World) → Endings w (IsMoved w)
unfolding is_size_change
moved w =
    record {
      refuses = λ c r _ _. calm w c _ (omega arith) (omega arith) refl refl refl (λ p. p);
      reads = λ offset buffer bytes. calm w _ _ (omega arith) (omega arith) refl refl refl (λ p. p);
      writes = λ offset buffer. calm w _ _ (omega arith) (omega arith) refl refl refl (λ p. p);
      unserves = λ a reason. calm w _ _ (omega arith) (omega arith) refl refl refl (λ p. p);
      responds = λ a resp. calm w _ _ (omega arith) (omega arith) refl refl refl (λ p. p);
      plugs_range = λ a addr count first offset fits _. record { plugs_within = omega arith; requested_stays = λ _. refl; usable_grows = omega arith; same_block_size = refl; same_region = refl; stays_placed = λ p. p };
      asks_range = λ a addr count first offset host _ _ _. calm w _ _ (omega arith) (omega arith) refl refl refl (λ p. p);
      spoils = λ a addr count first offset _ _. calm w _ _ (omega arith) (omega arith) refl refl refl (λ p. p);
      ends_at_once = λ a r. calm w _ _ (omega arith) (omega arith) refl refl refl (λ p. p);
      asks_first = λ a block offset host r _. calm w _ _ (omega arith) (omega arith) refl refl refl (λ p. p);
      stops_at_once = λ a. calm w _ _ (omega arith) (omega arith) refl refl refl (λ p. p);
      maps = λ i last a. calm w _ _ (omega arith) (omega arith) refl refl refl (λ _. refl);
      create_fails_lem = λ i last a. calm w _ _ (omega arith) (omega arith) refl refl refl (λ p. p);
      unplugs_range = λ first count status a. calm w _ _ (omega arith) (omega arith) refl refl refl (λ p. p);
      discard_fails = λ first count status a. calm w _ _ (omega arith) (omega arith) refl refl refl (λ p. p);
      ends_all_lem = λ j status a r. calm w _ _ (omega arith) (omega arith) refl refl refl (λ p. p);
      asks_next = λ j status a block offset host r _. calm w _ _ (omega arith) (omega arith) refl refl refl (λ p. p);
      stops_after = λ j status a. calm w _ _ (omega arith) (omega arith) refl refl refl (λ p. p);
      one_fails = λ j status a. calm w _ _ (omega arith) (omega arith) refl refl refl (λ p. p);
      resizes = λ a. record { plugs_within = omega arith; requested_stays = λ e. clash refl e; usable_grows = omega arith; same_block_size = refl; same_region = refl; stays_placed = λ _. refl };
      resize_asks = λ a i last size _. record { plugs_within = omega arith; requested_stays = λ e. clash refl e; usable_grows = omega arith; same_block_size = refl; same_region = refl; stays_placed = λ p. p };
      places = λ a. calm w _ _ (omega arith) (omega arith) refl refl refl (λ _. refl);
      place_asks = λ a i last size _. calm w _ _ (omega arith) (omega arith) refl refl refl (λ p. p);
      place_asks_whole = λ a _. calm w _ _ (omega arith) (omega arith) refl refl refl (λ p. p);
    }

pub moves : FromEveryWorld MovesSizes
moves w c = each_call w (IsMoved w) (moved w) c

pub usable_never_shrinks : FromEveryWorld UsableNeverShrinks
usable_never_shrinks w c = (moves w c).usable_grows

pub only_size_change_moves_requested : FromEveryWorld OnlySizeChangeMovesRequested
only_size_change_moves_requested w c = (moves w c).requested_stays

pub plug_within_requested : FromEveryWorld PlugWithinRequested
plug_within_requested w c more = omega (arith, (moves w c).plugs_within)
