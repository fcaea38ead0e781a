-- SPDX-License-Identifier: Apache-2.0 AND BSD-3-Clause
-- A run of the exported functions is a run of the definition: from making on, whatever is lent besides what is held. So what holds of every run of the definition holds of what a program that links the library has in hand; demand 3 first.
use Rattle.std.specs.Prelude.{Option, Some, Ok, Result}
use Prim.Native.Nat.{ℕ, ◌*◌, ◌≤◌}
use mathlib.Core.Path.{◌≡◌, refl, ap, sym, ◌∙◌}
use mathlib.Core.Bool.{Bool, true, false, not, ◌||◌}
use mathlib.Core.List.{List, [], ◌∷◌}
use native.Mathlib.Omega.{arith}
use lib.Dec.{leb, ltb, eqb}
use lib.ListN.{length}
use borrow.Author.Tests.{leb-true}
use Rattle.units.specs.Numbers.{alignment_of, capacity_of}
use Rattle.units.proofs.Tests.{by_test}
use Rattle.bitmap.specs.Blocks.{blocks}
use Rattle.rows.specs.Rows.{rows_of}
use Rattle.little_endian.specs.Bytes.{put}
use Rattle.refusal.specs.declared.Refusal.{Refusal}
use Rattle.record.specs.declared.Device.{Device}
use Rattle.record.specs.Shape.{size_ok}
use Rattle.step.specs.World.{World}
use Rattle.step.specs.Step.{step}
use Rattle.making.specs.Made.{node_number, made, made_number}
use Rattle.words.specs.Record.{words_of, decoded_of}
use Rattle.words.proofs.Laws.{encoded_decodes}
use Rattle.jambcopper.specs.Exports.{node_of, made_words}
use Rattle.history.specs.History.{Story, next, after, Fresh, begun}
use Rattle.history.specs.Reached.{Reached, from_making}
use Rattle.history.proofs.Cases.{by_cond}
use Rattle.history.proofs.Demand3.{demand_3, reached_after}
use Rattle.history.proofs.Newly.{made_fresh}
use Rattle.linked.specs.Runs.{Use, call_of, Held, leaves, One, Run, held_after, calls_of, Making, made_by, Makes, first, Means, in_hand, UseSteps, Follows, Linked}
use Rattle.linked.proofs.Steps.{Tells, in_hand_lem, one_goes}

-- ---- a call on what is held is a step of the world in hand
pub steps_on : (h : Held) (w : World) → Means h w → (u : Use) → One h u → UseSteps h u
steps_on h w m u one =
    let g = one_goes h w m u one in
    let t : Tells (in_hand h) u = rw (in_hand_lem h w m) g.0 in
    record {
      numbered = t.numbered;
      told = t.told;
      left = t.left;
      goes_on = in_hand_lem (leaves h u) (step w (call_of u)).world g.1 ∙ ap (λ (v : World). (step v (call_of u)).world) (sym (in_hand_lem h w m));
    }

-- ---- over any run
run_means : (h : Held) (s : Story) → Means h s.world → (us : List Use) → Run h us → Means (held_after h us) (after s (calls_of us)).world
unfolding Run held_after calls_of after next
run_means h s m [] run = m
run_means h s m (u ∷ us) run = run_means (leaves h u) (next s (call_of u)) (one_goes h s.world m u run.0).1 us run.1

-- from anywhere that a run of the definition reaches
pub follows_from : (h : Held) (s : Story) → Means h s.world → Reached s → Follows h s
follows_from h s m reached =
    record {
      means = run_means h s m;
      steps = λ us run. steps_on (held_after h us) (after s (calls_of us)).world (run_means h s m us run);
      demand_3 = λ us run.
          rw (in_hand_lem (held_after h us) (after s (calls_of us)).world (run_means h s m us run)) (demand_3 (after s (calls_of us)) (reached_after s reached (calls_of us)));
    }

-- ---- making
-- a made device, with its node
pub record IsMade (m : Result Device Refusal) (node : ℕ) : Type 0 where
  pub device : Device
  pub is_made : m ≡ Ok device
  pub node_is : device.config.node_id ≡ node

-- a device is refused with 1 or 2
pub made_at_0 : (capacity requested : ℕ) (several : Bool) (node : Option ℕ) (boot : ℕ) → made_number (made capacity requested several node boot) ≡ 0 → IsMade (made capacity requested several node boot) (node_number node)
unfolding made made_number
made_at_0 capacity requested several node boot =
    let region = capacity_of capacity (alignment_of boot) in
    by_cond (λ (m : Result Device Refusal). made_number m ≡ 0 → IsMade m (node_number node)) (ltb 1048576 capacity) _ _ (λ _ e. absurd (omega arith))
    (λ _. by_cond (λ (m : Result Device Refusal). made_number m ≡ 0 → IsMade m (node_number node)) (eqb capacity 0 || not (size_ok 4194304 (requested * 1048576) region)) _ _ (λ _ e. absurd (omega arith))
    (λ _ _. record { device = _; is_made = refl; node_is = refl }))

node_within : (given : Bool) (node : ℕ) → node ≤ 65535 → node_number (node_of given node) ≤ 65535
node_within true node h = h
node_within false node h = omega arith

-- ---- a device whose record the words are
pub at_first : (words : List ℕ) (d : Device) → decoded_of words ≡ Some d → Means (first words) (begun d).world
unfolding blocks rows_of
at_first words d is = record { decodes = is; marked = refl; mapped = refl }

-- ---- from making on
module _ (m : Making) (words' : List ℕ) (makes : Makes m words') where
  -- there was room for a record
  room : leb 15 (length m.words) ≡ true
  room =
      by_test (leb 15 (length m.words)) (λ t. t)
      (λ t. let z : 0 ≡ 12 = rw t at makes.promised.numbered in absurd (omega arith))

  is_made_at_0 : IsMade (made_by m) (node_number (node_of m.given m.node))
  is_made_at_0 = made_at_0 m.capacity m.requested m.several (node_of m.given m.node) m.boot (sym (rw room at makes.promised.numbered))

  module _ (d : Device) (e : made_by m ≡ Ok d) where
    pub is_fresh : Fresh d
    is_fresh = made_fresh m.capacity m.requested m.several (node_of m.given m.node) m.boot d e

    -- the words that making left are its record
    made_words_lem : words' ≡ put m.words 0 (words_of d)
    unfolding made_words
    made_words_lem = rw (room, e) at makes.promised.recorded

    node_small : d.config.node_id ≤ 65535
    node_small =
        let i = is_made_at_0 in
        let q : Ok i.device ≡ Ok d = sym i.is_made ∙ e in
        let same : i.device ≡ d = cc in
        rw (← same, i.node_is) (node_within m.given m.node makes.node_fits)

    pub made_decodes : decoded_of words' ≡ Some d
    made_decodes = ap decoded_of made_words_lem ∙ encoded_decodes d m.words node_small (leb-true 15 (length m.words) room)

    pub follows_making : Follows (first words') (begun d)
    follows_making = follows_from (first words') (begun d) (at_first words' d made_decodes) (from_making is_fresh)

  pub linked : Linked m words'
  linked =
      let d = is_made_at_0.device in
      let e = is_made_at_0.is_made in
      record { device = d; is_made = e; follows = follows_making d e }
