-- SPDX-License-Identifier: Apache-2.0 AND BSD-3-Clause
-- Every plug and unplug happens whole or not at all: the blocks and the plugged size change by the events of the call alone, and each event finds its whole range in the other state.
use Rattle.std.specs.Prelude.{None}
use Prim.Native.Nat.{ℕ, ◌+◌, ◌-◌, ◌≤◌}
use mathlib.Core.Path.{◌≡◌, refl, ◌∙◌, sym}
use mathlib.Core.Bool.{Bool, true, false}
use mathlib.Core.List.{List, []}
use native.Mathlib.Omega.{arith}
use borrow.Author.Tests.{le-leb}
use Rattle.bitmap.specs.Blocks.{all_are, fill, next_set}
use Rattle.bitmap.proofs.Laws.{next_nothing}
use Rattle.step.specs.World.{World, Call, Outcome}
use Rattle.step.specs.Step.{plugged, region_blocks}
use Rattle.history.specs.History.{Event, PlugAck, UnplugAllAck, next}
use Rattle.history.specs.Reached.{marks, counts, could, marked, counted, all_could}
use Rattle.history.specs.Rules.{FromEveryGood, Whole, is_place, WholeOrNotAtAll}
use Rattle.history.proofs.Shaped.{clash}
use Rattle.history.proofs.Invariant.{Inv, Asked, goes_on}
use Rattle.history.proofs.Calls.{Endings, each_call}
use Rattle.history.proofs.Keeps.{discard_ends}
use Rattle.history.proofs.Due.{could_discard, could_unplug}
use Rattle.history.proofs.Good.{invariant}

-- ---- what each event finds
could_plug : (n : ℕ) (bs : List Bool) (f c : ℕ) → f + c ≤ n → all_are bs f c false ≡ true → could (PlugAck f c) bs n ≡ true
unfolding could
could_plug n bs f c p q = rw (le-leb (f + c) n p) q

could_end : (n : ℕ) (bs : List Bool) → next_set bs 0 n ≡ None → could UnplugAllAck bs n ≡ true
unfolding could
could_end n bs e = let z : n - 0 ≡ n = omega arith in rw z at (next_nothing true bs 0 n e)

-- ---- each ending
-- no event, and nothing changed
quiet : (w w' : World) → w'.blocks ≡ w.blocks → plugged w' ≡ plugged w → Whole w [] w'
unfolding marked counted all_could
quiet w w' p q = record { blocks_by = p; size_by = q; could_all = refl }

abbrev IsWhole : World → Call → Outcome → List Event → Type 0
IsWhole w c o new = is_place c ≡ false → Whole w new o.world

module _ (w : World) (es : List Event) (h : Inv w es) where
  whole : Endings w (IsWhole w)
  unfolding is_place marked counted all_could marks counts Asked
  whole =
      let n = region_blocks w in
      let bs = w.blocks in
      record {
        refuses = λ c m _ _ _. quiet w _ refl refl;
        reads = λ offset buffer bytes _. quiet w _ refl refl;
        writes = λ offset buffer _. quiet w _ refl refl;
        unserves = λ a reason _. quiet w _ refl refl;
        responds = λ a resp _. quiet w _ refl refl;
        plugs_range = λ a addr count first offset _ l _. record { blocks_by = refl; size_by = refl; could_all = could_plug n bs first count l.ends l.state };
        asks_range = λ a addr count first offset host _ _ _ _. quiet w _ refl refl;
        spoils = λ a addr count first offset _ _ _. quiet w _ refl refl;
        ends_at_once = λ a r _. record { blocks_by = refl; size_by = refl; could_all = could_end n bs r };
        asks_first = λ a block offset host r _ _. quiet w _ refl refl;
        stops_at_once = λ a _. quiet w _ refl refl;
        maps = λ i last a _. quiet w _ refl refl;
        create_fails_lem = λ i last a _. quiet w _ refl refl;
        unplugs_range = λ first count status a _.
            record {
              blocks_by = refl;
              size_by = refl;
              could_all = could_unplug n bs first count (discard_ends w first count status (rw a.waits at a.entry.is_shaped.pending)) (rw a.waits at h.asked);
            };
        discard_fails = λ first count status a _. quiet w _ refl refl;
        ends_all_lem = λ j status a r _.
            let lowest = rw a.waits at h.asked in
            record {
              blocks_by = refl;
              size_by = refl;
              could_all = rw (could_discard n bs j lowest) (could_end n (fill bs j 1 false) (sym (goes_on n bs j lowest) ∙ r));
            };
        asks_next = λ j status a block offset host r _ _. record { blocks_by = refl; size_by = refl; could_all = could_discard n bs j (rw a.waits at h.asked) };
        stops_after = λ j status a _. record { blocks_by = refl; size_by = refl; could_all = could_discard n bs j (rw a.waits at h.asked) };
        one_fails = λ j status a _. quiet w _ refl refl;
        resizes = λ a _. quiet w _ refl refl;
        resize_asks = λ a i last size _ _. quiet w _ refl refl;
        places = λ a p. clash refl p;
        place_asks = λ a i last size _ p. clash refl p;
        place_asks_whole = λ a _ p. clash refl p;
      }

pub whole_or_not_at_all : FromEveryGood WholeOrNotAtAll
unfolding next
whole_or_not_at_all s g c = rw g.opened at (each_call s.world (IsWhole s.world) (whole s.world s.events (invariant s g)) c)
