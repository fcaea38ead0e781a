-- SPDX-License-Identifier: Apache-2.0 AND BSD-3-Clause
-- Every call keeps that the host has memory for the whole usable size.
use Rattle.std.specs.Prelude.{None, Ok, Err, Result}
use Prim.Native.Nat.{ℕ, ◌+◌, ◌-◌, ◌*◌, ◌≤◌, ◌<◌}
use mathlib.Core.Path.{◌≡◌, refl, ap}
use mathlib.Core.Bool.{Bool, true, false}
use mathlib.Core.List.{List, []}
use native.Mathlib.Omega.{arith}
use lib.Dec.{leb, ltb}
use lib.ListN.{length}
use borrow.Author.Tests.{leb-true, leb-false, ltb-false}
use Rattle.units.specs.Numbers.{top, map_region, map_regions}
use Rattle.units.proofs.Tests.{by_test}
use Rattle.wire.specs.declared.VirtioMemReq.{VirtioMemReq}
use Rattle.chain.specs.declared.Asked.{Asked}
use Rattle.chain.specs.declared.NoRequest.{NoRequest}
use Rattle.chain.specs.Chain.{parsed}
use Rattle.rows.specs.declared.MapRow.{MapRow}
use Rattle.rows.specs.Rows.{row_at, mapped_at, rows_filled, rows_laid}
use Rattle.rows.proofs.Laws.{fill_inside, fill_before, fill_after, laid_length, laid_inside}
use Rattle.record.specs.declared.Pending.{Pending}
use Rattle.record.specs.declared.Pending.TheVariants.{Nothing, Create, Discard, DiscardOne}
use Rattle.record.specs.Shape.{is_idle}
use Rattle.record.specs.Changes.{requested_to}
use Rattle.record.proofs.Laws.{Parts, RowsInside, whole as shaped-when, create_is}
use Rattle.resize.specs.Resize.{growth_of, creation}
use Rattle.step.specs.World.{World, Guest, Call, Place, SetRequestedSize, Request, HostAnswer, ReadConfig, WriteConfig, Outcome}
use Rattle.step.specs.Step.{region, several, usable, new_usable, region_rows, device_of, sizes, asks_create, creates, covered_by, cleared, placed, serve, request, placing, host_answer, step}
use Rattle.step.proofs.Mapped.{MappedBelow, settled_maps, creation_maps}
use Rattle.history.specs.Good.{row_size, Memory, InMemory}
use Rattle.history.proofs.Shaped.{clash, cleared_shaped}
use Rattle.history.proofs.Cases.{by_cond, Entered, on_ready, on_unplaced, on_pending, plug_cases, unplug_cases, unplug_all_cases, serve_cases, resized_ways, place_cases, size_cases, read_cases, write_cases}

-- another pending call, which is no other creation
other_call : {region : ℕ} {several : Bool} {usable new : ℕ} {placed : Bool} {p : Pending} {rows : List MapRow} (p' : Pending) → ((i last : ℕ) → p' ≡ Create i last → p ≡ Create i last)
    → Memory region several usable new placed p rows → Memory region several usable new placed p' rows
other_call p' h m = record { early = m.early; fits = m.fits; below = m.below; single = m.single; asked = λ i last e s. m.asked i last (h i last e) s }

idle_no_creation : (p : Pending) → is_idle p ≡ true → (i last : ℕ) → p ≡ Create i last → ⊥
idle_no_creation p q i last e = clash q (ap is_idle e)

-- ---- the usable size is worked out, and nothing had to be created
sized_memory : (w : World) → InMemory w → is_idle w.device.pending ≡ true → region_rows w ≤ length w.rows → (several w ≡ false → w.device.placed ≡ true)
    → growth_of (region w) (several w) (usable w) (new_usable w) w.rows ≡ None → InMemory (sizes w).world
unfolding map_regions
sized_memory w m quiet enough there settled = by_several (several w) refl
  where
    by_several : (v : Bool) → several w ≡ v → InMemory (sizes w).world
    by_several v e =
        record {
          early = λ p. clash refl p;
          fits = m.fits;
          below = go v e;
          single = λ s _. m.single s (there s);
          asked = λ i last f. absurd (idle_no_creation w.device.pending quiet i last f);
        }
      where
        go : (v : Bool) → several w ≡ v → MappedBelow (sizes w).world
        go true e = settled_maps w e enough m.below settled
        go false e = λ r _ n z. let one : r < 1 = rw e at n in let first : r ≡ 0 = omega arith in m.single e (there e) (rw first at z)

-- ---- a creation is asked for: the one that is needed, or that of the whole of a single region
asks_memory : (w : World) (i last size : ℕ) → InMemory w → (several w ≡ true → growth_of (region w) (several w) (usable w) (new_usable w) w.rows ≡ creation i last size) → InMemory (asks_create w i last size).world
asks_memory w i last size m grows =
    record {
      early = m.early;
      fits = m.fits;
      below = m.below;
      single = m.single;
      asked = λ j end e s. let first : i ≡ j = cc in let to : last ≡ end = cc in (size, rw (← first, ← to) (grows s));
    }

-- ---- where no call is pending: another requested size, or a placing that has laid the rows
idle_memory : {region : ℕ} {several : Bool} {usable new : ℕ} (new' : ℕ) {placed : Bool} {p : Pending} {rows : List MapRow} → is_idle p ≡ true
    → Memory region several usable new placed p rows → Memory region several usable new' placed p rows
idle_memory new' {p} quiet m = record { early = m.early; fits = m.fits; below = m.below; single = m.single; asked = λ i last e. absurd (idle_no_creation p quiet i last e) }

laid_memory : {region : ℕ} {several : Bool} {usable new : ℕ} {placed : Bool} {p : Pending} {rows : List MapRow} (rows' : List MapRow) (slots : List ℕ) → placed ≡ false → is_idle p ≡ true
    → length slots ≡ map_regions region several → map_regions region several ≤ length rows' → Memory region several usable new placed p rows → Memory region several usable new placed p (rows_laid rows' slots)
laid_memory {region} {several} {usable} {p = p} rows' slots unplaced quiet n enough m =
    let none : usable ≡ 0 = m.early unplaced in
    record {
      early = m.early;
      fits = λ r l mapped. absurd (mapped (ap (λ (x : MapRow). x.mapped) (laid_inside rows' slots r (omega arith) (omega arith))));
      below = λ r l _ _. omega arith;
      single = λ _ e _. clash e unplaced;
      asked = λ i last e. absurd (idle_no_creation p quiet i last e);
    }

-- ---- the host has made the creation that was asked for
created_memory : (w : World) (i last host : ℕ) (bytes : List ℕ) → InMemory w → RowsInside w.device i last → w.device.pending ≡ Create i last → region_rows w ≤ length w.rows
    → host + covered_by w i last ≤ top → InMemory (creates w i last host bytes).world
unfolding map_regions
created_memory w i last host bytes m inside waits enough sum =
    record {
      early = λ p. clash refl p;
      fits = fitting (several w) refl;
      below = mapped_below (several w) refl;
      single = λ e _. row_0 e;
      asked = λ j end e. let z : ◌≡◌ {A = ℕ} 0 1 = cc in absurd (omega arith);
    }
  where
    filled_row : (r : ℕ) → i ≤ r → r ≤ last → row_at (rows_filled w.rows i last host) r ≡ mapped_at (host + (r - i) * map_region) (row_at w.rows r)
    filled_row r p q = fill_inside w.rows i (last + 1 - i) host r p (omega arith) (omega (arith, inside.inside))

    -- a single region has row 0 alone
    row_0 : several w ≡ false → (row_at (rows_filled w.rows i last host) 0).mapped ≡ 0 → ⊥
    row_0 e z =
        let one : last < 1 = rw e at inside.inside in
        let ordered = inside.ordered in
        let set : ◌≡◌ {A = ℕ} 1 0 = rw (filled_row 0 (omega arith) (omega arith)) at z in
        omega arith

    mapped_below : (v : Bool) → several w ≡ v → MappedBelow (creates w i last host bytes).world
    mapped_below true e = let needed = m.asked i last waits e in creation_maps w e enough m.below i last needed.0 host bytes needed.1
    mapped_below false e = λ r _ n z. let one : r < 1 = rw e at n in let first : r ≡ 0 = omega arith in row_0 e (rw first at z)

    in_row : (v : Bool) (r : ℕ) → i ≤ r → r ≤ last → several w ≡ v → host + (r - i) * map_region + row_size (region w) (several w) ≤ top
    in_row true r p q e = let s = rw e at sum in rw e (omega arith)
    in_row false r p q e =
        let one : last < 1 = rw e at inside.inside in
        let s = rw e at sum in
        rw e (omega arith)

    fitting : (v : Bool) → several w ≡ v → (r : ℕ) → r < region_rows w → ((row_at (rows_filled w.rows i last host) r).mapped ≡ 0 → ⊥) → (row_at (rows_filled w.rows i last host) r).host.0 + row_size (region w) (several w) ≤ top
    fitting v e r l mapped =
        by_test (leb i r)
        (λ t. by_test (leb r last)
        (λ u.
        let p = leb-true i r t in
        let q = leb-true r last u in
        rw (filled_row r p q) (omega (arith, in_row v r p q e)))
        (λ u. let same = fill_after w.rows i (last + 1 - i) host r (omega (arith, leb-false r last u)) in rw same (m.fits r l (rw same at mapped))))
        (λ t. let same = fill_before w.rows i (last + 1 - i) host r (leb-false i r t) in rw same (m.fits r l (rw same at mapped)))

-- ---- each call
unfoldable is_creation : Pending → Bool
is_creation Nothing = false
is_creation (Create first last) = true
is_creation (Discard first count status) = false
is_creation (DiscardOne block status) = false

module _ (w : World) (m : InMemory w) where
  abbrev Stays : Outcome → Type 0
  Stays o = InMemory o.world

  -- another pending call, which is no creation
  elsewhere : (p : Pending) → is_creation p ≡ false → Memory (region w) (several w) (usable w) (new_usable w) w.device.placed p w.rows
  unfolding is_creation
  elsewhere p n = other_call p (λ i last e. clash (ap is_creation e) n) m

  serve_stays : Parts w.device → (req : VirtioMemReq) (status : ℕ) (g : Guest) → Stays (serve w req status g)
  unfolding is_creation
  serve_stays s req status g =
      serve_cases Stays w req status g
      (λ _. plug_cases Stays w s status g req.addr.0 req.nb_blocks (λ _ _ _ _. m) (λ _. m) m)
      (λ _ _. unplug_cases Stays w s status g req.addr.0 req.nb_blocks (λ _ _ _ _ _ _. elsewhere _ refl) (λ _ _ _ _. m) (λ _. m))
      (λ _ _ _. unplug_all_cases Stays w s status g 0 (λ _. elsewhere _ refl) (λ _ _ _ _ _. elsewhere _ refl) (λ _. elsewhere _ refl))
      (λ _ _ _. m)
      m

  request_stays : Parts w.device → (chain : Result Asked NoRequest) (g : Guest) → Stays (request chain w g)
  unfolding request
  request_stays s (Err reason) g = m
  request_stays s (Ok asked) g = serve_stays s asked.request asked.status.0 g

  answer_stays : (p : Pending) (g : Guest) (ok : Bool) (host : ℕ) → w.device.pending ≡ p → Entered w.device (length w.blocks) (length w.rows) false → Stays (host_answer p w g ok host)
  unfolding host_answer is_creation
  answer_stays Nothing g ok host q e = m
  answer_stays (Create i last) g true host q e =
      by_cond Stays (ltb top (host + covered_by w i last)) _ _ (λ _. m)
      (λ t. created_memory w i last host g.mem m (create_is w.device (shaped-when w.device e.is_shaped) i last q) q e.has_rows (ltb-false top (host + covered_by w i last) t))
  answer_stays (Create i last) g false host q e = elsewhere Nothing refl
  answer_stays (Discard first count status) g true host q e = elsewhere Nothing refl
  answer_stays (Discard first count status) g false host q e = elsewhere Nothing refl
  answer_stays (DiscardOne j status) g true host q e =
      unplug_all_cases Stays (cleared w j) (cleared_shaped w j e.is_shaped) status.0 g (j + 1) (λ _. elsewhere _ refl) (λ _ _ _ _ _. elsewhere _ refl) (λ _. elsewhere _ refl)
  answer_stays (DiscardOne j status) g false host q e = elsewhere Nothing refl

  pub memory_kept : (c : Call) → Stays (step w c)
  unfolding step placing
  memory_kept (Place at size slots bs rows) =
      on_unplaced Stays w [] _ (λ r _ _. m) (length bs) (length rows)
      (λ p e. place_cases Stays w at size slots bs rows m m
      (λ n _.
      let w₁ = placed w at slots bs rows in
      let laid_out : InMemory w₁ = laid_memory rows slots p e.pending_is_idle n e.has_rows m in
      let rows_fit : region_rows w ≤ length (rows_laid rows slots) = rw (laid_length rows slots) e.has_rows in
      by_cond Stays (several w) _ _
      (λ s. resized_ways Stays w₁ (λ x. sized_memory w₁ laid_out e.pending_is_idle rows_fit (λ f. clash s f) x) (λ i last size x. asks_memory w₁ i last size laid_out (λ _. x)))
      (λ s. asks_memory w₁ 0 0 (region w) laid_out (λ f. clash f s))))
  memory_kept (SetRequestedSize mib) =
      on_ready Stays w [] _ (λ r _ _. m) (length w.blocks) (length w.rows)
      (λ p e. size_cases Stays w mib m
      (λ _ _.
      let w₁ = device_of (requested_to (mib * 1048576) w.device) w in
      let asked : InMemory w₁ = idle_memory (new_usable w₁) e.pending_is_idle m in
      resized_ways Stays w₁ (λ x. sized_memory w₁ asked e.pending_is_idle e.has_rows (λ _. p) x) (λ i last size x. asks_memory w₁ i last size asked (λ _. x))))
  memory_kept (Request g descriptors head) =
      on_ready Stays w g.mem _ (λ r _ _. m) (length w.blocks) (length w.rows) (λ _ e. request_stays e.is_shaped (parsed g.mem g.base descriptors head) g)
  memory_kept (HostAnswer g ok host) =
      on_pending Stays w g.mem _ (λ r _ _. m) (length w.blocks) (length w.rows) (λ e. answer_stays w.device.pending g ok host refl e)
  memory_kept (ReadConfig offset buffer) = read_cases Stays w offset buffer (λ _. m) m
  memory_kept (WriteConfig offset buffer) = write_cases Stays w buffer (λ _. m) m
