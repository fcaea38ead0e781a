-- SPDX-License-Identifier: Apache-2.0 AND BSD-3-Clause
-- A restore that was not refused is a restore in a run, and demand 3 goes on from it.
use Prim.Native.Nat.{ℕ, suc, ◌+◌, ◌-◌, ◌*◌, ◌≤◌}
use mathlib.Core.Path.{◌≡◌, ap, ◌∙◌, sym}
use mathlib.Core.Bool.{Bool, true, false}
use mathlib.Core.List.{List, [], ◌∷◌}
use native.Mathlib.Omega.{arith}
use lib.ListN.{length, drop}
use Rattle.units.specs.Numbers.{blocks_in}
use Rattle.bitmap.specs.Blocks.{blocks, all_are}
use Rattle.record.specs.declared.Device.{Device}
use Rattle.record.specs.Shape.{config_shaped_of, size_ok, of_config}
use Rattle.record.specs.Changes.{config_with, config_to}
use Rattle.record.proofs.Laws.{Parts, parts, shaped_is}
use Rattle.step.specs.World.{World, Call, world_of}
use Rattle.history.specs.History.{Event, Story, next, after, Demand3}
use Rattle.history.specs.Good.{Good}
use Rattle.history.specs.Reached.{marked, counted, CanRestore, after_restore, restored, Reached, by_restore}
use Rattle.history.proofs.Shaped.{idle_nothing}
use Rattle.history.proofs.Invariant.{Inv}
use Rattle.history.proofs.Restored.{inv_restored}
use Rattle.history.proofs.Observer.{open_of, sees}
use Rattle.history.proofs.Calls.{each_call}
use Rattle.history.proofs.Keeps.{Kept, kept}
use Rattle.history.proofs.Good.{good_restored}
use Rattle.runs.specs.Runs.{Run, runs_of, RunsApart, total, laid_on}
use Rattle.runs.proofs.Spread.{runs_inside, runs_laid, runs_ones}
use Rattle.save.specs.declared.Fields.{Fields}
use Rattle.save.specs.Text.{state_config, shape_ok, used_of}
use Rattle.save.proofs.Text.{shape_is, in_blocks, valid_shape, valid_past, valid_plugged, state_block}
use Rattle.saving.specs.Restoring.{Restoring}
use Rattle.saving.proofs.Turns.{entry_shaped, is_placed, same_region, usable_enough, none_plugged_lem, none_set, as_many, has_room, starts_clear}
use Rattle.save_runs.specs.Starts.{plugs_of, starts, StartsWith, RestoreStarts}
use Rattle.save_runs.proofs.Plugs.{plugs_only, plugs_mark, plugs_count, plugs_could, part_clear}

-- runs that end by a block end by any after it
ends_by : (from end more : ℕ) (rs : List Run) → end ≤ more → RunsApart from end rs → RunsApart from more rs
ends_by from end more [] h a = tt
ends_by from end more (r ∷ rs) h a = (a.0, a.1, omega (arith, a.2), ends_by (suc (r.first + r.count)) end more rs h a.3)

-- calls keep the invariant, from wherever it holds
told_after : (s : Story) → open_of s.world.device.pending ≡ s.«open» → Inv s.world s.events → (cs : List Call) → Demand3 (after s cs).world (after s cs).events
unfolding after next
told_after s o h [] = h.told
told_after s o h (c ∷ cs) =
    told_after (next s c) (rw o at (sees s.world c))
    (rw o at (each_call s.world (Kept s.events) (kept s.world s.events h) c)) cs

-- a run that led to a world goes on from a restore of it
continues : (s : Story) → Reached s → (w : World) (requested : ℕ) (plugs : List Event) → s.world ≡ w → CanRestore w requested plugs → Reached (restored w requested plugs)
continues s reached w requested plugs e l = let here : CanRestore s.world requested plugs = rw e l in rw e at (by_restore reached here)

stays : (s : Story) → Good s → (w : World) (requested : ℕ) (plugs : List Event) → s.world ≡ w → CanRestore w requested plugs → Good (restored w requested plugs)
stays s good w requested plugs e l = let here : CanRestore s.world requested plugs = rw e l in rw e at (good_restored s requested plugs good here)

size_of : (f : Fields) → shape_ok f ≡ true → size_ok f.block f.requested f.region ≡ true
unfolding config_shaped_of
size_of f e = (parts (of_config (state_config f)) e).requested

module _ (d d' : Device) (text bitmap bitmap' table : List ℕ) (r : Restoring d text bitmap bitmap' d') where
  is_shaped : Parts d
  is_shaped = parts d (entry_shaped d r.admitted).0

  same_block : r.fields.block ≡ d.config.block_size
  same_block = state_block r.taken.says.state ∙ sym (shaped_is d (entry_shaped d r.admitted).0).block_size

  -- the state's runs lie in the usable size of the device
  runs_end : RunsApart 0 (blocks_in d.config.block_size d.config.usable_region_size) (runs_of r.bs)
  runs_end =
      let f = r.fields in
      let st = r.taken.says.state in
      let s = valid_shape st in
      let all = st.all in
      let top = (shape_is f s).usable_in in
      let ra = in_blocks f s f.region in
      let ua = in_blocks f s f.usable in
      let past : all_are r.bs (used_of f) (length r.bs - used_of f) false ≡ true = rw all (valid_past st) in
      let enough = usable_enough d (blocks bitmap) f r.taken.fits in
      let b = state_block st in
      let here = runs_inside r.bs (used_of f) (omega arith) past in
      let most : used_of f ≤ blocks_in d.config.block_size d.config.usable_region_size = rw (← same_block, b) (omega arith) in
      ends_by 0 (used_of f) _ (runs_of r.bs) most here

  clear_usable : all_are (blocks bitmap) 0 (blocks_in d.config.block_size d.config.usable_region_size) false ≡ true
  clear_usable =
      let s = shaped_is d (entry_shaped d r.admitted).0 in
      let b = s.block_size in
      let top = s.usable_in in
      let few : 0 + blocks_in d.config.block_size d.config.usable_region_size ≤ blocks_in d.config.block_size d.config.region_size = rw b (omega arith) in
      part_clear (blocks bitmap) _ 0 _ few (none_set d (blocks bitmap) r.fields r.taken.fits)

  is_restore : CanRestore (world_of d bitmap table) r.fields.requested (plugs_of (runs_of r.bs))
  is_restore =
      let fits = r.taken.fits in
      let room = has_room d text bitmap r.fields r.bs r.admitted r.taken in
      let many = as_many d text bitmap r.fields r.bs r.admitted r.taken in
      let size = size_of r.fields (valid_shape r.taken.says.state) in
      let same = same_region d (blocks bitmap) r.fields fits in
      record {
        is_placed = is_placed d (blocks bitmap) r.fields fits;
        waits_for_nothing = sym (idle_nothing d.pending (entry_shaped d r.admitted).1);
        is_long = omega arith;
        none_set = none_set d (blocks bitmap) r.fields fits;
        nothing_plugged = none_plugged_lem d (blocks bitmap) r.fields fits;
        requested_fits = rw (← same_block, ← same) size;
        only_plugs = plugs_only (runs_of r.bs);
        could_all = plugs_could 0 _ (runs_of r.bs) (blocks bitmap) runs_end clear_usable;
      }

  -- the plugged size and the blocks that it leaves are those of the plugs
  same_plugged : r.fields.plugged ≡ counted d.config.block_size (plugs_of (runs_of r.bs)) 0
  same_plugged =
      valid_plugged r.taken.says.state
      ∙ ap (λ (n : ℕ). n * r.fields.block) (sym (runs_ones r.bs))
      ∙ ap (λ (b : ℕ). total (runs_of r.bs) * b) same_block
      ∙ sym (plugs_count d.config.block_size (runs_of r.bs))

  same_marks : blocks bitmap' ≡ marked (plugs_of (runs_of r.bs)) (blocks bitmap)
  same_marks =
      let rest = drop (length r.bs) (blocks bitmap) in
      r.bitmap.as_blocks
      ∙ sym (runs_laid r.bs rest)
      ∙ ap (laid_on (runs_of r.bs)) (sym (starts_clear d text bitmap r.fields r.bs r.admitted r.taken))
      ∙ sym (plugs_mark (runs_of r.bs) (blocks bitmap))

  is_after : world_of d' bitmap' table ≡ after_restore (world_of d bitmap table) r.fields.requested (plugs_of (runs_of r.bs))
  is_after =
      let c = d.config in
      let laid : ℕ → Device = λ n. config_to (config_with c c.addr.0 c.usable_region_size n r.fields.requested) d in
      ap (λ (x : Device). world_of x bitmap' table) (r.device ∙ ap laid same_plugged)
      ∙ ap (λ (bs : List Bool). record { device = laid (counted c.block_size (plugs_of (runs_of r.bs)) 0); blocks = bs; rows = (world_of d bitmap table).rows }) same_marks

  starts_with : StartsWith (world_of d bitmap table) r.fields.requested (plugs_of (runs_of r.bs)) (world_of d' bitmap' table)
  unfolding open_of
  starts_with =
      let plugs = plugs_of (runs_of r.bs) in
      let w = world_of d bitmap table in
      let requested = r.fields.requested in
      let same = is_after in
      let waits = is_restore.waits_for_nothing in
      record {
        restores = is_restore;
        leads = is_after;
        goes_on = λ s reached e. rw same (continues s reached w requested plugs e is_restore);
        stays_good = λ s good e. rw same (stays s good w requested plugs e is_restore);
        told = λ cs. rw same (told_after (starts (after_restore w requested plugs) plugs) (rw waits) (inv_restored w requested is_shaped plugs is_restore) cs);
      }

pub restore_starts : RestoreStarts
restore_starts = starts_with
