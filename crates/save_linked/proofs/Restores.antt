-- SPDX-License-Identifier: Apache-2.0 AND BSD-3-Clause
-- A restore by the library is a restore of the definition's run: the words that it leaves mean the restored record, and the bitmap the blocks of the text's runs.
use Rattle.std.specs.Prelude.{Option, Some, None, Ok, Err, Result}
use Prim.Native.Nat.{ℕ}
use mathlib.Core.Path.{◌≡◌, refl, ap, sym, ◌∙◌}
use mathlib.Core.List.{List}
use Rattle.refusal.specs.declared.Refusal.{Refusal}
use Rattle.record.specs.declared.Device.{Device}
use Rattle.step.specs.World.{World, Call, Outcome, world_of}
use Rattle.words.specs.Record.{decoded_of}
use Rattle.words.proofs.Laws.{reads_back}
use Rattle.history.specs.History.{Story, after}
use Rattle.history.specs.Reached.{after_restore, CanRestore, Reached, by_restore}
use Rattle.history.specs.Rules.{FromEveryGood, FromEveryWorld}
use Rattle.history.proofs.Demand3.{reached_after}
use Rattle.runs.specs.Runs.{runs_of}
use Rattle.saving.specs.Restoring.{Restoring, RestoresText as Kept}
use Rattle.saving.proofs.Turns.{never_0}
use Rattle.save_runs.specs.Starts.{plugs_of}
use Rattle.save_runs.proofs.Starts.{restore_starts}
use Rattle.save_words.specs.Told.{restored_number, restored_words, RestoresRecord, RestoresFrom}
use Rattle.linked.specs.Runs.{call_of, Held, held_after, calls_of, Means}
use Rattle.linked.proofs.Linked.{follows_from}
use Rattle.linked.proofs.Heard.{events_heard_lem}
use Rattle.linked.proofs.Rules.{rule_of_call, rule_in_hand}
use Rattle.save_linked.specs.Restores.{RestoreCalled, held_then, starts_at, SaveLinked, RestoreIsLinked, OfEveryCallThen, AfterEveryRunThen, RestoreUntouched, RefusedRestoreChangesNothing}

-- ---- a restore that returned 0
module _ (h : Held) (s : Story) (m : Means h s.world) (reached : Reached s) (text words' bitmap' : List ℕ) where
  abbrev here : Device
  here = s.world.device

  -- the world of what is lent is the world of the run
  same_world : world_of here h.bitmap h.table ≡ s.world
  same_world = rw (m.marked, m.mapped)

  laid : (d' : Device) → Restoring here text h.bitmap bitmap' d' → words' ≡ restored_words (Ok d') h.words → SaveLinked (held_then h words' bitmap') s text
  laid d' r recorded =
      let f = r.fields in
      let plugs = plugs_of (runs_of r.bs) in
      let h' = held_then h words' bitmap' in
      let starts = restore_starts here d' text h.bitmap bitmap' h.table r in
      let decodes : decoded_of words' ≡ Some d' = ap decoded_of recorded ∙ reads_back h.words here m.decodes d' (ap (λ (d : Device). d.config.node_id) r.device) in
      let left : Means h' (world_of d' bitmap' h.table) = record { decodes = decodes; marked = refl; mapped = refl } in
      let leads : world_of d' bitmap' h.table ≡ after_restore s.world f.requested plugs = starts.leads ∙ ap (λ (w : World). after_restore w f.requested plugs) same_world in
      let means : Means h' (after_restore s.world f.requested plugs) = rw leads at left in
      let restores : CanRestore s.world f.requested plugs = rw same_world at starts.restores in
      let goes_on : Reached (starts_at s.world f r.bs) = by_restore reached restores in
      let follows = follows_from h' (starts_at s.world f r.bs) means goes_on in
      record {
        fields = f;
        bs = r.bs;
        says = r.taken.says;
        restores = restores;
        reached = goes_on;
        means = means;
        follows = follows;
        heard = λ us run all. rw (events_heard_lem h' (starts_at s.world f r.bs) us means run all) (follows.demand_3 us run);
      }

  -- a refusal does not return 0
  answered : (a : Result Device Refusal) → Kept here text h.bitmap bitmap' a → 0 ≡ restored_number a → words' ≡ restored_words a h.words → SaveLinked (held_then h words' bitmap') s text
  answered (Ok d') r e recorded = laid d' r recorded
  answered (Err why) r e recorded = absurd (never_0 here text h.bitmap bitmap' why r (sym e))

  on_record_lem : RestoreCalled h text words' bitmap' 0 → RestoresRecord here text h.words words' h.bitmap bitmap' 0
  unfolding RestoresFrom
  on_record_lem t = rw m.decodes at t

  taken : RestoreCalled h text words' bitmap' 0 → SaveLinked (held_then h words' bitmap') s text
  taken t = let l = on_record_lem t in answered l.answer l.restores l.numbered l.recorded

pub restore_is_linked : RestoreIsLinked
restore_is_linked = taken

-- ---- the rules
pub of_every_call_then : (P : World → Call → Outcome → Type 0) → FromEveryWorld P → OfEveryCallThen P
of_every_call_then P rule h' s text l us run u one = rule_of_call P rule (held_after h' us) u (l.follows.steps us run u one)

pub after_every_run_then : (P : Story → Call → Type 0) → FromEveryGood P → AfterEveryRunThen P
after_every_run_then P rule h' s text l us run u =
    let start = starts_at s.world l.fields l.bs in
    rule_in_hand P rule (held_after h' us) (after start (calls_of us)) (l.follows.means us run) (reached_after start l.reached (calls_of us)) (call_of u)

-- ---- a refusal
pub refused_restore_changes_nothing : RefusedRestoreChangesNothing
unfolding RestoresFrom
refused_restore_changes_nothing text words words' bitmap bitmap' number t refused = go (decoded_of words) t
  where
    of : (d : Device) (a : Result Device Refusal) → Kept d text bitmap bitmap' a → number ≡ restored_number a → words' ≡ restored_words a words → RestoreUntouched words words' bitmap bitmap'
    of d (Ok d') r e w = absurd (refused e)
    of d (Err why) r e w = record { same_words = w; same_bitmap = r.same }

    go : (r : Option Device) → RestoresFrom r text words words' bitmap bitmap' number → RestoreUntouched words words' bitmap bitmap'
    go (Some d) l = of d l.answer l.restores l.numbered l.recorded
    go None l = record { same_words = l.recorded; same_bitmap = l.marked }
