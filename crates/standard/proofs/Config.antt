-- SPDX-License-Identifier: Apache-2.0 AND BSD-3-Clause
-- The device and the clauses M2 to M5 and M7: the features and the config fields.
use Rattle.std.specs.Prelude.{Option, Some, None, Ok, Err}
use Prim.Native.Nat.{ℕ, ◌*◌, ◌%◌, max, ◌≤◌}
use mathlib.Core.Path.{◌≡◌, refl, ◌∙◌}
use mathlib.Core.Bool.{Bool, true, false, not, ◌||◌}
use mathlib.Core.List.{List, [], ◌∷◌}
use native.Mathlib.Omega.{arith}
use lib.Dec.{ltb, eqb}
use borrow.Author.Tests.{eqb-true}
use Rattle.units.specs.Numbers.{alignment_of, capacity_of}
use Rattle.units.proofs.Tests.{by_test}
use Rattle.wire.proofs.Standard.{config as laid_out}
use Rattle.record.specs.declared.Device.{Device}
use Rattle.record.specs.Shape.{size_ok}
use Rattle.record.proofs.Laws.{Shaped as Facts, shaped_is as facts-of, whole as shaped-when}
use Rattle.resize.specs.Resize.{new_size}
use Rattle.refusal.specs.declared.Refusal.{Refusal}
use Rattle.refusal.specs.declared.Refusal.TheVariants.{WrongSize, CapacityTooLarge}
use Rattle.making.specs.Made.{new_device, made}
use Rattle.step.specs.World.{World, Call, Outcome}
use Rattle.step.specs.Step.{step, read_config, block_size, region, usable, requested}
use Rattle.history.specs.History.{Event, Story, next, after}
use Rattle.history.specs.Reached.{from_making, by_call, by_restore, made_as}
use Rattle.history.specs.Good.{Good}
use Rattle.history.specs.Rules.{FromEveryGood, FromEveryWorld}
use Rattle.history.proofs.Shaped.{clash}
use Rattle.history.proofs.Cases.{write_cases}
use Rattle.history.proofs.Calls.{Endings, each_call}
use Rattle.standard.specs.Config.{config_in, Features, FeaturesFromMaking, ReadsLayout, Constant, ConstantFields, ConstantInRestore, FieldsLaidOut, settled_by_call, settled_by, settled_after, RequestedIsUsable, PluggedSizeIsOfBlocks, WritesNothing}

-- ---- what each call does to the config, in every world
record Kept (w : World) (c : Call) (o : Outcome) : Type 0 where
  pub constant : Constant w o.world
  -- M5, where it held before if the size was settled then
  pub settles : (before : Bool) → (before ≡ true → requested w ≤ usable w) → settled_by before o.answer ≡ true → requested o.world ≤ usable o.world

abbrev IsKept : World → Call → Outcome → List Event → Type 0
IsKept w c o new = Kept w c o

-- what the requested size is worth is at least the requested size
worth : (b region requested alignment : ℕ) → b ≡ 4194304 → requested % 4194304 ≡ 0 → requested ≤ region → requested ≤ new_size b region requested alignment
unfolding new_size
worth b region requested alignment e p q =
    by_test (eqb requested 0) (λ t. let z = eqb-true requested 0 t in rw t (omega arith)) (λ t. rw (t, e) (omega arith))

module _ (w : World) where
  constants : (w' : World) → (config_in w').block_size ≡ block_size w → (config_in w').node_id ≡ (config_in w).node_id → region w' ≡ region w
      → (w.device.placed ≡ true → (config_in w').addr ≡ (config_in w).addr) → w'.device.avail_features ≡ w.device.avail_features → Constant w w'
  constants w' b n r a f = record { same_block_size = b; same_node = n; same_region = r; same_addr = a; same_features = f }

  -- neither size moves, and the size is settled after it only if it was before
  quiet : (c : Call) (o : Outcome) → Constant w o.world → usable o.world ≡ usable w → requested o.world ≡ requested w
      → ((before : Bool) → settled_by before o.answer ≡ true → before ≡ true) → Kept w c o
  quiet c o k u r b = record { constant = k; settles = λ before h e. rw (u, r) (h (b before e)) }

  -- the usable size is worked out for the requested size n
  sized : (c : Call) (o : Outcome) (n : ℕ) → Facts w.device → Constant w o.world
      → requested o.world ≡ n → n % 4194304 ≡ 0 → n ≤ region w → usable o.world ≡ max (usable w) (new_size (block_size w) (region w) n w.device.alignment) → Kept w c o
  sized c o n s k q whole within v =
      let enough = worth (block_size w) (region w) n w.device.alignment s.block_size whole within in
      record { constant = k; settles = λ _ _ _. rw (q, v) (omega arith) }

  kept : Endings w (IsKept w)
  unfolding settled_by settled_by_call
  kept =
      let as_before : (before : Bool) → before ≡ true → before ≡ true = λ before e. e in
      let unsettled : (before : Bool) → false ≡ true → before ≡ true = λ before e. clash e refl in
      record {
        refuses = λ c r _ _. quiet _ _ (constants _ refl refl refl (λ _. refl) refl) refl refl as_before;
        reads = λ offset buffer bytes. quiet _ _ (constants _ refl refl refl (λ _. refl) refl) refl refl as_before;
        writes = λ offset buffer. quiet _ _ (constants _ refl refl refl (λ _. refl) refl) refl refl as_before;
        unserves = λ a reason. quiet _ _ (constants _ refl refl refl (λ _. refl) refl) refl refl as_before;
        responds = λ a resp. quiet _ _ (constants _ refl refl refl (λ _. refl) refl) refl refl as_before;
        plugs_range = λ a addr count first offset _ _. quiet _ _ (constants _ refl refl refl (λ _. refl) refl) refl refl as_before;
        asks_range = λ a addr count first offset host _ _ _. quiet _ _ (constants _ refl refl refl (λ _. refl) refl) refl refl as_before;
        spoils = λ a addr count first offset _ _. quiet _ _ (constants _ refl refl refl (λ _. refl) refl) refl refl as_before;
        ends_at_once = λ a r. quiet _ _ (constants _ refl refl refl (λ _. refl) refl) refl refl as_before;
        asks_first = λ a block offset host r _. quiet _ _ (constants _ refl refl refl (λ _. refl) refl) refl refl as_before;
        stops_at_once = λ a. quiet _ _ (constants _ refl refl refl (λ _. refl) refl) refl refl as_before;
        maps = λ i last a.
            let s = facts-of w.device (shaped-when w.device a.entry.is_shaped) in
            sized _ _ (requested w) s (constants _ refl refl refl (λ _. refl) refl) refl s.requested_blocks s.requested_in refl;
        create_fails_lem = λ i last a. quiet _ _ (constants _ refl refl refl (λ _. refl) refl) refl refl as_before;
        unplugs_range = λ first count status a. quiet _ _ (constants _ refl refl refl (λ _. refl) refl) refl refl as_before;
        discard_fails = λ first count status a. quiet _ _ (constants _ refl refl refl (λ _. refl) refl) refl refl as_before;
        ends_all_lem = λ j status a r. quiet _ _ (constants _ refl refl refl (λ _. refl) refl) refl refl as_before;
        asks_next = λ j status a block offset host r _. quiet _ _ (constants _ refl refl refl (λ _. refl) refl) refl refl as_before;
        stops_after = λ j status a. quiet _ _ (constants _ refl refl refl (λ _. refl) refl) refl refl as_before;
        one_fails = λ j status a. quiet _ _ (constants _ refl refl refl (λ _. refl) refl) refl refl as_before;
        resizes = λ a.
            let s = facts-of w.device (shaped-when w.device a.entry.is_shaped) in
            sized _ _ (a.mib * 1048576) s (constants _ refl refl refl (λ _. refl) refl) refl (rw s.block_size at a.whole) a.in_region refl;
        resize_asks = λ a i last size _.
            record {
              constant = constants _ refl refl refl (λ _. refl) refl;
              settles = λ before _ e. clash e refl;
            };
        places = λ a.
            let s = facts-of w.device (shaped-when w.device a.entry.is_shaped) in
            sized _ _ (requested w) s (constants _ refl refl refl (λ p. clash p a.not_placed_lem) refl) refl s.requested_blocks s.requested_in refl;
        place_asks = λ a i last size _. quiet _ _ (constants _ refl refl refl (λ p. clash p a.not_placed_lem) refl) refl refl unsettled;
        place_asks_whole = λ a _. quiet _ _ (constants _ refl refl refl (λ p. clash p a.not_placed_lem) refl) refl refl unsettled;
      }

  kept_by : (c : Call) → Kept w c (step w c)
  kept_by c = each_call w (IsKept w) kept c

pub constant_fields : FromEveryWorld ConstantFields
constant_fields w c = (kept_by w c).constant

pub constant_in_restore : ConstantInRestore
constant_in_restore w size plugs = constants w _ refl refl refl (λ _. refl) refl

-- ---- M5, over any calls
requested_is_usable_from : (before : Bool) (s : Story) (cs : List Call) → (before ≡ true → requested s.world ≤ usable s.world) → settled_after before s.world cs ≡ true
    → requested (after s cs).world ≤ usable (after s cs).world
unfolding settled_after after next
requested_is_usable_from before s [] h e = h e
requested_is_usable_from before s (c ∷ cs) h e = requested_is_usable_from (settled_by before (step s.world c).answer) (next s c) cs ((kept_by s.world c).settles before h) e

pub requested_is_usable : RequestedIsUsable
requested_is_usable s cs e = requested_is_usable_from false s cs (λ z. clash z refl) e

-- ---- M2, from making on
features_of_lem : (region requested alignment : ℕ) (several : Bool) (node : Option ℕ) → Features node (new_device region requested alignment several node)
features_of_lem region requested alignment several None = record { with_node = refl; node_is = refl; accessible = refl }
features_of_lem region requested alignment several (Some n) = record { with_node = refl; node_is = refl; accessible = refl }

made_features : (capacity requested : ℕ) (several : Bool) (node : Option ℕ) (boot : ℕ) (d : Device) → made capacity requested several node boot ≡ Ok d → Features node d
unfolding made
made_features capacity requested several node boot d e =
    let alignment = alignment_of boot in
    let region = capacity_of capacity alignment in
    by_test (ltb 1048576 capacity) (λ t. never CapacityTooLarge (rw t at e))
    (λ t. by_test (eqb capacity 0 || not (size_ok 4194304 (requested * 1048576) region)) (λ u. never WrongSize (rw (t, u) at e))
    (λ u.
    let f : Ok (new_device region (requested * 1048576) alignment several node) ≡ Ok d = rw (t, u) at e in
    let same : new_device region (requested * 1048576) alignment several node ≡ d = cc in
    rw same at (features_of_lem region (requested * 1048576) alignment several node)))
  where
    never : (r : Refusal) → Err r ≡ Ok d → Features node d
    never r q = let z : ◌≡◌ {A = ℕ} 0 1 = cc in absurd (omega arith)

features_stay : (node : Option ℕ) (w w' : World) → Constant w w' → Features node w.device → Features node w'.device
features_stay n w w' k f = record { with_node = rw k.same_features f.with_node; node_is = k.same_node ∙ f.node_is; accessible = rw k.same_features f.accessible }

pub features_from_making : FeaturesFromMaking
unfolding next made_as
features_from_making capacity requested several node boot s (from_making {d} fresh) e = made_features capacity requested several node boot d e
features_from_making capacity requested several node boot s (by_call {s = before} r c) e =
    features_stay node before.world _ (constant_fields before.world c) (features_from_making capacity requested several node boot before r e)
features_from_making capacity requested several node boot s (by_restore {s = before} {requested = size} {plugs} r l) e =
    features_stay node before.world _ (constant_in_restore before.world size plugs) (features_from_making capacity requested several node boot before r e)

-- ---- M3, M4, M6, M7
pub reads_layout : ReadsLayout
unfolding step read_config
reads_layout w offset buffer s = rw (s, laid_out (config_in w))

pub writes_nothing : WritesNothing
unfolding step
writes_nothing w offset buffer = write_cases (λ o. o.world ≡ w) w buffer (λ _. refl) refl

pub facts_at : (s : Story) → Good s → Facts s.world.device
facts_at s g = facts-of _ g.shaped

pub fields_laid_out : FromEveryGood FieldsLaidOut
fields_laid_out s g c =
    let f = facts_at s g in
    let b = f.block_size in
    record {
      power_of_two = b;
      addr_whole = rw b f.start_blocks;
      region_whole = rw b f.region_blocks_lem;
      usable_whole = rw b f.usable_blocks_lem;
      plugged_whole = rw b f.plugged_blocks_lem;
      requested_whole = rw b f.requested_blocks;
      usable_within = f.usable_in;
      plugged_within = f.plugged_in_lem;
      requested_within = f.requested_in;
    }

pub plugged_size_is_of_blocks : FromEveryGood PluggedSizeIsOfBlocks
plugged_size_is_of_blocks s g c = g.told.count
