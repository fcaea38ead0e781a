-- SPDX-License-Identifier: Apache-2.0 AND BSD-3-Clause
-- Where planning and plugging ends, and in how many plugs: each fills a run of free blocks, or spends the requested size.
use Rattle.std.specs.Prelude.{Option, Some, None, Ok, Err}
use Prim.Native.Nat.{ℕ, zero, suc, ◌+◌, ◌-◌, ◌*◌, ◌/◌, ◌%◌, ◌≤◌, ◌<◌, min}
use mathlib.Core.Path.{◌≡◌, refl, ap, ◌∙◌}
use mathlib.Core.Bool.{Bool, true, false, cond}
use mathlib.Core.List.{List, [], ◌∷◌}
use mathlib.Core.Logic.{◌⊎◌, inl, inr, ⊎_elim}
use native.Mathlib.Nat.{add-mul, mul-div_cancel, div-add-mod', mul-le-mul_right, mul-mod_left, zero-mod, le-div_iff_mul-le}
use native.Mathlib.Omega.{arith}
use lib.Dec.{ltb, leb, eqb}
use lib.ListN.{length, take, length-take}
use borrow.Author.Tests.{le-ltb, ltb-true, ltb-false, leb-true, leb-false, ne_eqb}
use Rattle.units.specs.Numbers.{top, bytes_of, blocks_in, map_region}
use Rattle.units.specs.declared.GuestAddr.{GuestAddr}
use Rattle.units.proofs.Tests.{by_test}
use Rattle.bitmap.specs.Blocks.{range, block_at, all_are, ones, fill, next_clear}
use Rattle.bitmap.proofs.Laws.{range_step, Lowest, next_at, next_nothing, all_at, all_clear_at, at_inside, at_before, at_after, ones_split, ones-length, ones_all, ones_plugged, take-fill, range-take, fill_length}
use Rattle.record.specs.Shape.{shaped_of}
use Rattle.record.specs.declared.Device.{Device}
use Rattle.record.specs.Shape.{pending_ok, is_idle}
use Rattle.record.specs.declared.Pending.{Pending}
use Rattle.record.specs.declared.Pending.TheVariants.{Nothing as Idle, Create, Discard, DiscardOne}
use Rattle.record.proofs.Laws.{shaped_is, config-shaped_of, plugged_keeps}
use Rattle.chain.specs.Chain.{asked, parsed}
use Rattle.change.proofs.Laws.{legal_is}
use Rattle.step.specs.World.{World, Guest, Request, Outcome}
use Rattle.step.specs.Step.{block_size, region, usable, plugged, requested, start, several, region_blocks, step}
use Rattle.refusal.specs.declared.Refusal.{Refusal}
use Rattle.refusal.specs.declared.Refusal.TheVariants.{NothingToPlug}
use Rattle.driver.specs.Plan.{Proposal, plugging, no_plug, border_after, stop_of, room_of, plan_at, plan_of}
use Rattle.driving.specs.Sound.{Stops, Ready, planned, plugged_world, drive_at, drives, usable_blocks, plugged_blocks, Counted, There, begins_run, runs_below, free_runs}
use Rattle.driving.proofs.Legal.{run, proposed, some_count}
use Rattle.driving.proofs.Acks.{plan_is, acknowledged}
use Rattle.driving.proofs.Exact.{spent_is, plan_stops}

-- ---- at 17 no more is asked for, or no more is usable
-- the blocks of the usable part are blocks of the bitmap
in_blocks : (w : World) → Ready w → usable_blocks w ≤ length w.blocks
in_blocks w r =
    let s = shaped_is w.device r.shaped in
    let u = s.usable_in in
    let fewer : usable_blocks w ≤ region_blocks w = rw s.block_size (omega arith) in
    omega (arith, fewer, r.blocks_fit)

pub settled : (w : World) → Ready w → Counted w → planned w ≡ no_plug → min (requested w) (usable w) ≤ plugged w
settled w r k e =
    let s = shaped_is w.device r.shaped in
    let bsz = s.block_size in
    let end : ℕ = usable_blocks w in
    let c : plugged w ≡ plugged_blocks w * 4194304 = k ∙ ap (λ (m : ℕ). plugged_blocks w * m) bsz in
    let n = length-take end w.blocks in
    let long = in_blocks w r in
    let whole : end ≡ usable w / 4194304 = rw bsz in
    let ub = s.usable_blocks_lem in
    let rb = s.requested_blocks in
    let pb = s.plugged_blocks_lem in
    ⊎_elim
    (λ (q : next_clear w.blocks 0 end ≡ None).
    let z : end - 0 ≡ end = omega arith in
    let o : plugged_blocks w ≡ length (take end w.blocks) = rw z at (ones_all (range w.blocks 0 (end - 0)) (next_nothing false w.blocks 0 end q)) in
    omega arith)
    (λ (q : room_of (block_size w) (plugged w) (requested w) ≡ 0).
    let m : (requested w - plugged w) / 4194304 ≡ 0 = rw bsz at q in
    omega arith)
    (spent_is w.device.config w.blocks e).why

-- ---- what a proposal brings
pub record Gains (w : World) (first n : ℕ) : Type 0 where
  pub some : 0 < n
  pub within : plugged w + bytes_of (block_size w) n ≤ requested w
  pub lowest : Lowest false w.blocks 0 (usable_blocks w) first
  pub in_end : first + n ≤ usable_blocks w
  pub in_border : first + n ≤ border_after (block_size w) first
  pub free : all_are w.blocks first n false ≡ true
  pub stops : Stops w.device.config w.blocks first n

pub gains : (w : World) → Ready w → (addr : GuestAddr) (n : ℕ) (e : planned w ≡ plugging addr n) → Gains w (plan_is w.device.config w.blocks addr n e).first n
gains w r addr n e =
    let p = plan_is w.device.config w.blocks addr n e in
    let s = shaped_is w.device r.shaped in
    let bsz = s.block_size in
    let pos : 0 < block_size w = omega arith in
    let whole : blocks_in (block_size w) map_region * block_size w ≡ map_region = rw bsz in
    let per : 0 < blocks_in (block_size w) map_region = rw bsz (omega arith) in
    let al : start w % block_size w ≡ 0 = rw bsz s.start_blocks in
    let ends : start w + usable w ≤ top = omega (arith, s.start_region, s.usable_in) in
    let c = some_count (block_size w) (start w) (usable w) (plugged w) (requested w) (several w) w.blocks w.rows pos whole al ends r.sound p.first p.lowest p.room in
    let some : 0 < n = omega (arith, c, p.count_is) in
    let l = proposed (block_size w) (start w) (usable w) (plugged w) (requested w) (several w) w.blocks w.rows pos whole al ends r.sound p.first p.lowest p.room n some (omega (arith, p.count_is)) in
    let k = legal_is (block_size w) (start w) (usable w) (several w) (start w + bytes_of (block_size w) p.first) n true w.blocks w.rows p.first (record { 0 = bytes_of (block_size w) p.first }) l.host l.legal in
    let f = next_at false w.blocks 0 (usable_blocks w) p.first p.lowest in
    let t = run (block_size w) (usable w) w.blocks p.first per f in
    let few : n ≤ stop_of (block_size w) (usable w) w.blocks p.first - p.first = omega (arith, p.count_is) in
    record {
      some = some;
      within = l.within;
      lowest = f;
      in_end = omega (arith, few, t.some, t.in_usable);
      in_border = omega (arith, few, t.some, t.in_border);
      free = k.not-wanted;
      stops = plan_stops w.device.config w.blocks addr n e;
    }

idle_ok : (p : Pending) (b region plugged : ℕ) (several : Bool) → is_idle p ≡ true → pending_ok p b region several plugged ≡ true
unfolding pending_ok
idle_ok Idle b region plugged several e = refl
idle_ok (Create first last) b region plugged several e = let z : ◌≡◌ {A = ℕ} 0 1 = cc in absurd (omega arith)
idle_ok (Discard first count status) b region plugged several e = let z : ◌≡◌ {A = ℕ} 0 1 = cc in absurd (omega arith)
idle_ok (DiscardOne block status) b region plugged several e = let z : ◌≡◌ {A = ℕ} 0 1 = cc in absurd (omega arith)

-- ---- after it the device is ready again, its size counted, and not above the requested or the usable size
pub record Kept (w : World) (first n : ℕ) : Type 0 where
  pub ready : Ready (plugged_world w first n)
  pub counts : Counted (plugged_world w first n)
  pub most : plugged (plugged_world w first n) ≤ min (requested w) (usable w)

pub kept : (w : World) → Ready w → Counted w → (first n : ℕ) → Gains w first n → Kept w first n
kept w r k first n g =
    let s = shaped_is w.device r.shaped in
    let bsz = s.block_size in
    let end : ℕ = usable_blocks w in
    let rq = s.requested_in in
    let lt = length-take end w.blocks in
    let inside : first + n ≤ length (take end w.blocks) = omega (arith, g.in_end, in_blocks w r) in
    let fr : all_are (take end w.blocks) first n false ≡ true = rw (range-take end w.blocks first n g.in_end) g.free in
    let more : ones (take end (fill w.blocks first n true)) ≡ plugged_blocks w + n = ap ones (take-fill end w.blocks first n true) ∙ ones_plugged (take end w.blocks) first n inside fr in
    let counts : Counted (plugged_world w first n) = rw (more, add-mul (plugged_blocks w) n (block_size w), k) in
    let within : plugged w + n * 4194304 ≤ requested w = rw bsz at g.within in
    let pb = s.plugged_blocks_lem in
    let m : (plugged w + n * 4194304) % 4194304 ≡ 0 = omega arith in
    let m' : (plugged w + bytes_of (block_size w) n) % 4194304 ≡ 0 = rw bsz m in
    let l : plugged w + bytes_of (block_size w) n ≤ region w = omega (arith, g.within, rq) in
    let o = ones-length (take end (fill w.blocks first n true)) in
    let few : ones (take end (fill w.blocks first n true)) ≤ end = omega (arith, o, length-take end (fill w.blocks first n true)) in
    let pos : 0 < block_size w = omega arith in
    let u = (le-div_iff_mul-le pos).0 few in
    record {
      ready = record {
        shaped = plugged_keeps w.device r.shaped (plugged w + bytes_of (block_size w) n) m' l (idle_ok w.device.pending (block_size w) (region w) (plugged w + bytes_of (block_size w) n) (several w) r.idle);
        idle = r.idle;
        placed = r.placed;
        blocks_fit = rw (fill_length w.blocks first n true) r.blocks_fit;
        rows_fit = r.rows_fit;
        sound = r.sound;
      };
      counts = counts;
      most = omega (arith, counts, u, g.within);
    }

-- ---- a run is filled: one fewer begins
module _ (per : ℕ) (bs bs' : List Bool) (j : ℕ) (was : begins_run per bs j ≡ true) (is : begins_run per bs' j ≡ false) where
  -- no other block has changed in that
  abbrev SameBelow : ℕ → Type 0
  SameBelow n = (i : ℕ) → i < n → (i ≡ j → ⊥) → begins_run per bs' i ≡ begins_run per bs i

  as_many : (n : ℕ) → n ≤ j → SameBelow n → runs_below per bs' n ≡ runs_below per bs n
  unfolding runs_below
  as_many zero l h = refl
  as_many (suc n) l h = rw (h n (omega arith) (λ e. omega arith), as_many n (omega arith) (λ i p. h i (omega arith)))

  pub one_fewer : (n : ℕ) → j < n → SameBelow n → runs_below per bs n ≡ suc (runs_below per bs' n)
  unfolding runs_below
  one_fewer zero l h = absurd (omega arith)
  one_fewer (suc n) l h =
      by_test (ltb j n)
      (λ t.
      let q = one_fewer n (ltb-true j n t) (λ i p. h i (omega arith)) in
      rw (h n (omega arith) (λ e. omega (arith, ltb-true j n t)), q) (omega arith))
      (λ t.
      let e : n ≡ j = omega (arith, ltb-false j n t) in
      rw (e, was, is, as_many j (omega arith) (λ i p. h i (omega arith))) (omega arith))

-- where one begins there is one
some_runs : (per : ℕ) (bs : List Bool) (j n : ℕ) → begins_run per bs j ≡ true → j < n → 0 < runs_below per bs n
unfolding runs_below
some_runs per bs j zero b l = absurd (omega arith)
some_runs per bs j (suc n) b l =
    by_test (ltb j n)
    (λ t. omega (arith, some_runs per bs j n b (ltb-true j n t)))
    (λ t. let e : n ≡ j = omega (arith, ltb-false j n t) in rw (e, b) (omega arith))

-- the lowest free block is the first of a run
begins_lowest : (per : ℕ) (bs : List Bool) (end first : ℕ) → Lowest false bs 0 end first → begins_run per bs first ≡ true
unfolding begins_run
begins_lowest per bs end zero f = rw (f.found, zero-mod per)
begins_lowest per bs end (suc i) f =
    let z : suc i - 0 ≡ suc i = omega arith in
    let y : suc i - 1 ≡ i = omega arith in
    let before : block_at bs i ≡ true = all_at bs 0 (suc i) true i (rw z at f.none_below) (omega arith) (omega arith) (omega (arith, f.exists)) in
    by_test (eqb (suc i % per) 0) (λ t. rw (f.found, t)) (λ t. rw (f.found, t, y, before))

-- no block between two borders lies at one
not_border : (per first i : ℕ) → first < i → i < suc (first / per) * per → i % per ≡ 0 → ⊥
not_border per first i p q z =
    let e = div-add-mod' i per in
    let f = div-add-mod' first per in
    by_test (leb (i / per) (first / per))
    (λ t. let h = mul-le-mul_right per (leb-true (i / per) (first / per) t) in omega arith)
    (λ t. let l : suc (first / per) ≤ i / per = omega (arith, leb-false (i / per) (first / per) t) in let h = mul-le-mul_right per l in omega arith)

-- n free blocks from the lowest on are plugged, up to a plugged block, a border or the end
module _ (per : ℕ) (bs : List Bool) (end first n : ℕ) (long : end ≤ length bs) (some : 0 < n) (low : Lowest false bs 0 end first) (in_end : first + n ≤ end) (in_border : first + n ≤ suc (first / per) * per)
    (free : all_are bs first n false ≡ true) (ends : first + n < end → (block_at bs (first + n) ≡ true) ⊎ ((first + n) % per ≡ 0)) where
  others : (i : ℕ) → i < end → (i ≡ first → ⊥) → begins_run per (fill bs first n true) i ≡ begins_run per bs i
  unfolding begins_run
  others i l other =
      by_test (ltb i first)
      (λ t. let h = ltb-true i first t in rw (at_before bs first n true i h, at_before bs first n true (i - 1) (omega arith)))
      (λ t. let p = ltb-false i first t in
      by_test (ltb i (first + n))
      (λ u.
      let h = ltb-true i (first + n) u in
      let not_first : first < i = omega arith in
      rw (at_inside bs first n true i p h (omega arith), all_clear_at bs first n i free p h, all_clear_at bs first n (i - 1) free (omega arith) (omega arith), ne_eqb (i % per) 0 (not_border per first i not_first (omega arith))))
      (λ u. let q = ltb-false i (first + n) u in
      by_test (ltb (first + n) i)
      (λ v. let h = ltb-true (first + n) i v in rw (at_after bs first n true i q, at_after bs first n true (i - 1) (omega arith)))
      (λ v.
      let e : i ≡ first + n = omega (arith, ltb-false (first + n) i v) in
      rw (at_after bs first n true i q)
      (⊎_elim (λ (h : block_at bs (first + n) ≡ true). rw (e, h)) (λ (h : (first + n) % per ≡ 0). rw (e, h)) (ends (omega arith))))))

  filled_run : runs_below per bs end ≡ suc (runs_below per (fill bs first n true) end)
  unfolding begins_run
  filled_run =
      one_fewer per bs (fill bs first n true) first (begins_lowest per bs end first low) (rw (at_inside bs first n true first (omega arith) (omega arith) low.exists)) end low.before_end others

-- a plug spends the requested size, or one run fewer is left
closer : (w : World) → Ready w → (first n : ℕ) → Gains w first n
    → (requested w < plugged w + bytes_of (block_size w) (suc n)) ⊎ (free_runs w ≡ suc (free_runs (plugged_world w first n)))
closer w r first n g =
    let per : ℕ = blocks_in (block_size w) map_region in
    let fewer = filled_run per w.blocks (usable_blocks w) first n (in_blocks w r) g.some g.lowest g.in_end g.in_border g.free in
    ⊎_elim (λ (h : block_at w.blocks (first + n) ≡ true). inr (fewer (λ _. inl h)))
    (⊎_elim (λ (h : first + n ≡ border_after (block_size w) first). inr (fewer (λ _. inr (ap (λ (i : ℕ). i % per) h ∙ mul-mod_left (suc (first / per)) per))))
    (⊎_elim (λ (h : first + n ≡ usable_blocks w). inr (fewer (λ l. absurd (omega arith))))
    (λ (h : requested w < plugged w + bytes_of (block_size w) (suc n)). inl h)))
    g.stops

-- ---- a ready device is refused with 17 only
pub found_17 : (x : Option ℕ) (b start usable plugged requested : ℕ) (bs : List Bool) (why : Refusal) → plan_at x b start usable plugged requested bs ≡ Err why → why ≡ NothingToPlug
unfolding plan_at
found_17 None b start usable plugged requested bs why q = cc
found_17 (Some i) b start usable plugged requested bs why q =
    by_test (eqb (room_of b plugged requested) 0) (λ t. let q' = simp t at q in cc)
    (λ t. let q' = simp t at q in absurd (cc))

pub refused_is_17 : (d : Device) → shaped_of d ≡ true → (bs : List Bool) → blocks_in d.config.block_size d.config.region_size ≤ length bs
    → (why : Refusal) → plan_of d.config bs ≡ Err why → why ≡ NothingToPlug
unfolding plan_of
refused_is_17 d e bs long why q = found_17 _ _ _ _ _ _ bs why (simp (config-shaped_of d e, le-ltb _ _ long) at q)

pub only_17 : (w : World) → Ready w → (why : Refusal) → planned w ≡ Err why → why ≡ NothingToPlug
only_17 w r why e = refused_is_17 w.device r.shaped w.blocks r.blocks_fit why e

-- ---- it gets there
-- the block at an address
block_at_lem : (w : World) → Ready w → (addr first : ℕ) → addr ≡ start w + bytes_of (block_size w) first → blocks_in (block_size w) (addr - start w) ≡ first
block_at_lem w r addr first e =
    let pos : 0 < block_size w = omega (arith, (shaped_is w.device r.shaped).block_size) in
    let a : addr - start w ≡ bytes_of (block_size w) first = omega arith in
    rw a (mul-div_cancel first pos)

there : (w : World) → Ready w → Counted w → (why : Refusal) → planned w ≡ Err why → There w w
there w r k why e =
    let q : planned w ≡ no_plug = rw (only_17 w r why e) at e in
    record { spent = q; size = omega (arith, settled w r k q); same_requested = refl; same_usable = refl }

pub stays : (k : ℕ) (w : World) → planned w ≡ no_plug → drives k w ≡ w
unfolding drives drive_at
stays zero w e = refl
stays (suc k) w e = rw e (stays k w e)

onward : (w : World) (first n : ℕ) → Kept w first n → (to : World) → There (plugged_world w first n) to → There w to
onward w first n q to t = record { spent = t.spent; size = omega (arith, t.size, q.most); same_requested = t.same_requested; same_usable = t.same_usable }

-- no run is left
last : (w : World) → Ready w → Counted w → free_runs w ≤ 0 → (x : Proposal) → planned w ≡ x → There w w
last w r c h (Err why) e = there w r c why e
last w r c h (Ok plug) e =
    let addr = plug.addr in
    let n : ℕ = plug.nb_blocks in
    let per : ℕ = blocks_in (block_size w) map_region in
    let first : ℕ = (plan_is w.device.config w.blocks addr n e).first in
    let low = (gains w r addr n e).lowest in
    let some = some_runs per w.blocks first (usable_blocks w) (begins_lowest per w.blocks (usable_blocks w) first low) low.before_end in
    absurd (omega arith)

-- the requested size is spent
spent_there : (k : ℕ) (w : World) → Ready w → Counted w → room_of (block_size w) (plugged w) (requested w) ≡ 0 → (x : Proposal) → planned w ≡ x → There w (drives k w)
spent_there k w r c z (Err why) e = let t = there w r c why e in rw (stays k w t.spent) t
spent_there k w r c z (Ok plug) e = absurd ((plan_is w.device.config w.blocks plug.addr plug.nb_blocks e).room z)

no_room : (w : World) → Ready w → (n : ℕ) → requested w < plugged w + bytes_of (block_size w) (suc n) → room_of (block_size w) (plugged w + bytes_of (block_size w) n) (requested w) ≡ 0
no_room w r n h =
    let bsz = (shaped_is w.device r.shaped).block_size in
    let h' : requested w < plugged w + suc n * 4194304 = rw bsz at h in
    rw bsz (omega arith)

once : (k : ℕ) (w : World) → Ready w → Counted w → free_runs w ≤ suc k
    → ((w' : World) → Ready w' → Counted w' → free_runs w' ≤ k → There w' (drives k w'))
    → (x : Proposal) → planned w ≡ x → There w (drives (suc k) w)
unfolding drives drive_at
once k w r c h more (Err why) e =
    let t = there w r c why e in
    rw (t.spent, stays k w t.spent) t
once k w r c h more (Ok plug) e =
    let addr = plug.addr in
    let n : ℕ = plug.nb_blocks in
    let p = plan_is w.device.config w.blocks addr n e in
    let g = gains w r addr n e in
    let q = kept w r c p.first n g in
    let w' = plugged_world w p.first n in
    rw (e, block_at_lem w r addr.0 p.first p.addr_is)
    (onward w p.first n q (drives k w')
    (⊎_elim
    (λ (s : requested w < plugged w + bytes_of (block_size w) (suc n)). spent_there k w' q.ready q.counts (no_room w r n s) (planned w') refl)
    (λ (s : free_runs w ≡ suc (free_runs w')). more w' q.ready q.counts (omega arith))
    (closer w r p.first n g)))

-- in at most as many plugs as the usable part has runs of free blocks
pub gets_there : (k : ℕ) (w : World) → Ready w → Counted w → free_runs w ≤ k → There w (drives k w)
unfolding drives
gets_there zero w r c h = last w r c h (planned w) refl
gets_there (suc k) w r c h = once k w r c h (gets_there k) (planned w) refl

-- ---- these are at most as many as it has free blocks
not_plugged_lem : (per : ℕ) (bs : List Bool) (i : ℕ) → block_at bs i ≡ true → begins_run per bs i ≡ false
unfolding begins_run
not_plugged_lem per bs i e = rw e

at_most_one : (t : Bool) → cond t 1 0 ≤ 1
at_most_one true = omega arith
at_most_one false = omega arith

few_runs : (per : ℕ) (bs : List Bool) (n : ℕ) → n ≤ length bs → runs_below per bs n + ones (take n bs) ≤ n
unfolding runs_below ones
few_runs per bs zero l = omega arith
few_runs per bs (suc n) l =
    let e : suc n ≡ n + 1 = omega arith in
    let z : 0 + n ≡ n = omega arith in
    let o : ones (take (suc n) bs) ≡ ones (take n bs) + ones (block_at bs n ∷ []) = rw (e, ones_split bs 0 n 1, z, range_step bs n 0 (omega arith)) in
    let h = few_runs per bs n (omega arith) in
    by_test (block_at bs n)
    (λ t. let m = rw t at o in rw (m, not_plugged_lem per bs n t) (omega arith))
    (λ t. let m = rw t at o in rw m (omega (arith, at_most_one (begins_run per bs n))))

pub runs_few : (w : World) → Ready w → free_runs w + plugged_blocks w ≤ usable_blocks w
runs_few w r = few_runs (blocks_in (block_size w) map_region) w.blocks (usable_blocks w) (in_blocks w r)

-- ---- the world that a proposal leads to is ready for the next, and `step` leads there
pub drive_keeps : (w : World) → Ready w → Counted w → (addr : GuestAddr) (n : ℕ) → planned w ≡ plugging addr n → Ready (drive_at (planned w) w) × Counted (drive_at (planned w) w)
unfolding drive_at
drive_keeps w r c addr n e =
    let p = plan_is w.device.config w.blocks addr n e in
    let q = kept w r c p.first n (gains w r addr n e) in
    rw (e, block_at_lem w r addr.0 p.first p.addr_is) (q.ready, q.counts)

pub step_drives : (w : World) → Ready w → (addr : GuestAddr) (n : ℕ) → planned w ≡ plugging addr n
    → (g : Guest) (descriptors head : ℕ) (status : GuestAddr) → parsed g.mem g.base descriptors head ≡ asked (record { req_type = 0; addr = addr; nb_blocks = n }) status
    → (step w (Request g descriptors head)).world ≡ drive_at (planned w) w
unfolding drive_at
step_drives w r addr n e g descriptors head status q =
    let a = acknowledged w r addr n e g descriptors head status q in
    ap (λ (o : Outcome). o.world) a.outcome ∙ rw (e, block_at_lem w r addr.0 a.first a.addr_is)
