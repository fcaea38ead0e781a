-- SPDX-License-Identifier: Apache-2.0 AND BSD-3-Clause
-- For each tree of `Step`: what holds of every leaf that it can end in holds of its outcome, and each leaf gets what its tests tell.
use Rattle.change.specs.Why.{why}
use Rattle.std.specs.Prelude.{Option, Some, None, Ok, Err, Result, ⊤}
use Prim.Native.Nat.{ℕ, ◌+◌, ◌-◌, ◌*◌, ◌%◌, ◌≤◌, ◌<◌}
use mathlib.Core.Path.{◌≡◌, refl, ap, ◌∙◌}
use mathlib.Core.Bool.{Bool, true, false, cond, not, ◌&&◌}
use mathlib.Core.List.{List, []}
use native.Mathlib.Omega.{arith}
use native.Mathlib.Nat.{le-div_iff_mul-le, div-mul-le_self, add-mul}
use lib.Dec.{leb, ltb, eqb}
use lib.ListN.{length, drop}
use borrow.Author.Tests.{leb-true, ltb-true, ltb-false, eqb-true}
use Rattle.units.specs.Numbers.{bytes_of, blocks_in, map_regions}
use Rattle.units.proofs.Tests.{and_left, and_right}
use Rattle.refusal.specs.declared.Refusal.{Refusal}
use Rattle.refusal.specs.declared.Refusal.TheVariants.{WrongSize, WrongRange, WrongStart, NotPlaced, AlreadyPlaced, CallPending, NothingPending, TooShort, NoShape}
use Rattle.refusal.specs.Refusal.{number}
use Rattle.bitmap.specs.Blocks.{all_are, next_set}
use Rattle.little_endian.specs.Bytes.{put}
use Rattle.wire.specs.Layout.{config_bytes}
use Rattle.wire.specs.declared.VirtioMemReq.{VirtioMemReq}
use Rattle.chain.specs.declared.NoRequest.TheVariants.{UnknownType}
use Rattle.rows.specs.declared.MapRow.{MapRow}
use Rattle.record.specs.declared.Device.{Device}
use Rattle.record.specs.Shape.{shaped_of, is_idle, size_ok, start_ok}
use Rattle.record.specs.Changes.{requested_to}
use Rattle.resize.specs.declared.Creation.{Creation}
use Rattle.resize.specs.Resize.{growth_of, creation}
use Rattle.change.specs.declared.Change.{Change}
use Rattle.change.specs.declared.Reason.{Reason}
use Rattle.change.specs.Change.{host_of}
use Rattle.change.proofs.Laws.{legal_is, legal_whole}
use Rattle.step.specs.declared.Answer.TheVariants.{Done}
use Rattle.step.specs.World.{World, Guest, Outcome}
use Rattle.step.specs.Step.{block_size, region, usable, plugged, requested, start, several, region_blocks, region_rows, device_of}
use Rattle.step.specs.Step.{refused, unserved, nack, error, served, plugs, asks_discard, stops, asks_one, ends_all, new_usable, sizes, asks_create, placed}
use Rattle.step.specs.Step.{tables_fit, ready_refusal, unplaced_refusal, pending_refusal, range_refusal, unless, changing, plug_as, plug, unplug_as, unplug, one_as, unplug_one, next_as, unplug_all, state_verdict, serve, resizes, resized, placing, place, set_requested_size, read_config, write_config}
use Rattle.record.proofs.Laws.{Parts, parts as shaped-is, whole as shaped-when, shaped_is as facts-of}
use Rattle.history.proofs.Shaped.{size_whole, size_within, block_is}

module _ {A : Type 0} (P : A → Type 0) where
  -- what holds of both sides of a test holds of the test
  pub by_cond : (t : Bool) (a b : A) → (t ≡ true → P a) → (t ≡ false → P b) → P (cond t a b)
  by_cond true a b f g = f refl
  by_cond false a b f g = g refl

  -- .. and of a test whose answer is turned
  pub by_not : (t : Bool) (a b : A) → (t ≡ true → P b) → (t ≡ false → P a) → P (cond (not t) a b)
  by_not true a b f g = f refl
  by_not false a b f g = g refl

-- what is known where a call is not refused; the lent tables have so many blocks and rows
pub record Entered (d : Device) (blocks rows : ℕ) (quiet : Bool) : Type 0 where
  pub is_shaped : Parts d
  pub pending_is_idle : is_idle d.pending ≡ quiet
  pub is_long : blocks_in d.config.block_size d.config.region_size ≤ blocks
  pub has_rows : map_regions d.config.region_size d.several ≤ rows

entered : (d : Device) (blocks rows : ℕ) (quiet : Bool) → shaped_of d ≡ true → is_idle d.pending ≡ quiet → tables_fit d blocks rows ≡ true → Entered d blocks rows quiet
unfolding tables_fit
entered d blocks rows quiet s i t =
    record {
      is_shaped = shaped-is d s;
      pending_is_idle = i;
      is_long = leb-true _ _ (and_left _ _ t);
      has_rows = leb-true _ _ (and_right (leb (blocks_in d.config.block_size d.config.region_size) blocks) _ t);
    }

-- ---- the refusals of every call: 12 is given for the shape alone
module _ (P : Outcome → Type 0) (w : World) (bytes : List ℕ) (o : Outcome) (refuses : (r : Refusal) → (number r ≡ 10 → ⊥) → (number r ≡ 12 → shaped_of w.device ≡ false) → P (refused r w bytes)) (blocks rows : ℕ) where
  abbrev Given : Result ⊤ Refusal → Type 0
  Given x = P (unless x w bytes o)

  pub on_ready : (w.device.placed ≡ true → Entered w.device blocks rows true → P o) → P (unless (ready_refusal w.device blocks rows) w bytes o)
  unfolding ready_refusal unless
  on_ready k =
      by_not Given (shaped_of w.device) _ _
      (λ h₁. by_not Given (is_idle w.device.pending) _ _
      (λ h₂. by_not Given w.device.placed _ _
      (λ h₃. by_not Given (tables_fit w.device blocks rows) _ _
      (λ h₄. k h₃ (entered _ _ _ _ h₁ h₂ h₄))
      (λ _. refuses TooShort (λ e. omega arith) (λ e. absurd (omega arith))))
      (λ _. refuses NotPlaced (λ e. omega arith) (λ e. absurd (omega arith))))
      (λ _. refuses CallPending (λ e. omega arith) (λ e. absurd (omega arith))))
      (λ h₁. refuses NoShape (λ e. omega arith) (λ _. h₁))

  pub on_unplaced : (w.device.placed ≡ false → Entered w.device blocks rows true → P o) → P (unless (unplaced_refusal w.device blocks rows) w bytes o)
  unfolding unplaced_refusal unless
  on_unplaced k =
      by_not Given (shaped_of w.device) _ _
      (λ h₁. by_not Given (is_idle w.device.pending) _ _
      (λ h₂. by_cond Given w.device.placed _ _
      (λ _. refuses AlreadyPlaced (λ e. omega arith) (λ e. absurd (omega arith)))
      (λ h₃. by_not Given (tables_fit w.device blocks rows) _ _
      (λ h₄. k h₃ (entered _ _ _ _ h₁ h₂ h₄))
      (λ _. refuses TooShort (λ e. omega arith) (λ e. absurd (omega arith)))))
      (λ _. refuses CallPending (λ e. omega arith) (λ e. absurd (omega arith))))
      (λ h₁. refuses NoShape (λ e. omega arith) (λ _. h₁))

  pub on_pending : (Entered w.device blocks rows false → P o) → P (unless (pending_refusal w.device blocks rows) w bytes o)
  unfolding pending_refusal unless
  on_pending k =
      by_not Given (shaped_of w.device) _ _
      (λ h₁. by_cond Given (is_idle w.device.pending) _ _
      (λ _. refuses NothingPending (λ e. omega arith) (λ e. absurd (omega arith)))
      (λ h₂. by_not Given (tables_fit w.device blocks rows) _ _
      (λ h₃. k (entered _ _ _ _ h₁ h₂ h₃))
      (λ _. refuses TooShort (λ e. omega arith) (λ e. absurd (omega arith)))))
      (λ h₁. refuses NoShape (λ e. omega arith) (λ _. h₁))

-- ---- a legal range, by blocks
pub record Lies (w : World) (addr count : ℕ) (wanted : Bool) (first offset : ℕ) : Type 0 where
  pub first_is : first ≡ blocks_in (block_size w) (addr - start w)
  pub offset_is : offset ≡ addr - start w
  pub some_blocks : 0 < count
  pub ends : first + count ≤ region_blocks w
  pub in_usable : offset + bytes_of (block_size w) count ≤ usable w
  pub state : all_are w.blocks first count (not wanted) ≡ true

pub lies : (w : World) (addr count : ℕ) (wanted : Bool) (change : Change) → Parts w.device → changing w addr count wanted ≡ Ok change
    → Lies w addr count wanted change.first change.offset.0
lies w addr count wanted change s e =
    let offset = change.offset in
    let l = legal_is (block_size w) (start w) (usable w) (several w) addr count wanted w.blocks w.rows change.first change.offset change.host e in
    let b = block_is w.device s in
    let positive : 0 < block_size w = omega arith in
    let fits = size_within (block_size w) (usable w) (region w) s.usable in
    let first-at = l.first_is in
    let offset_at = l.in_range.offset_is in
    record {
      first_is = first-at ∙ ap (λ n. blocks_in (block_size w) n) offset_at;
      offset_is = offset_at;
      some_blocks = l.in_range.some;
      ends = (le-div_iff_mul-le positive).1 (rw (first-at, add-mul (blocks_in (block_size w) offset.0) count (block_size w)) (omega (arith, div-mul-le_self offset.0 (block_size w), l.in_range.in_usable)));
      in_usable = l.in_range.in_usable;
      state = l.not-wanted;
    }

-- .. its offset, and the host address that its row gives: what a discard of it is asked for with
pub record Located (w : World) (first count offset host : ℕ) : Type 0 where
  pub offset_is : offset ≡ bytes_of (block_size w) first
  pub host_is : host_of (several w) w.rows offset (bytes_of (block_size w) count) ≡ Ok (record { 0 = host })

located : (w : World) (addr count : ℕ) (wanted : Bool) (change : Change) → Parts w.device → changing w addr count wanted ≡ Ok change
    → Located w change.first count change.offset.0 change.host.0
located w addr count wanted change s e =
    let l = legal_is (block_size w) (start w) (usable w) (several w) addr count wanted w.blocks w.rows change.first change.offset change.host e in
    let b = block_is w.device s in
    let facts = facts-of w.device (shaped-when w.device s) in
    record {
      offset_is = (legal_whole (block_size w) (start w) (usable w) (several w) addr count wanted w.blocks w.rows change.first change.offset change.host (omega arith) (rw b facts.start_blocks) l).offset_of_lem;
      host_is = l.host_at;
    }

-- ---- plug, unplug, unplug-all, and the kinds of request
module _ (P : Outcome → Type 0) (w : World) (s : Parts w.device) (status : ℕ) (g : Guest) where
  pub plug_cases : (addr count : ℕ)
      → ((first offset : ℕ) → plugged w + bytes_of (block_size w) count ≤ requested w → Lies w addr count true first offset → P (plugs w first count status g))
      → ((reason : Reason) → P (served (error (why reason)) status w g)) → P (served nack status w g) → P (plug w addr count status g)
  unfolding plug plug_as
  plug_cases addr count legal bad over =
      by_cond P (ltb (requested w) (plugged w + bytes_of (block_size w) count)) _ _ (λ _. over)
      (λ h. go (changing w addr count true) refl (ltb-false (requested w) (plugged w + bytes_of (block_size w) count) h))
    where
      go : (c : Result Change Reason) → changing w addr count true ≡ c → plugged w + bytes_of (block_size w) count ≤ requested w → P (plug_as c w count status g)
      go (Ok change) e h = legal change.first change.offset.0 h (lies w addr count true change s e)
      go (Err reason) e h = bad reason

  pub unplug_cases : (addr count : ℕ)
      → ((first offset host : ℕ) → bytes_of (block_size w) count ≤ plugged w → Lies w addr count false first offset → Located w first count offset host
      → P (asks_discard w first count offset host status g))
      → ((first offset : ℕ) → plugged w < bytes_of (block_size w) count → Lies w addr count false first offset → P (refused NoShape w g.mem))
      → ((reason : Reason) → P (served (error (why reason)) status w g)) → P (unplug w addr count status g)
  unfolding unplug_as
  unplug_cases addr count legal spoiled bad = go (changing w addr count false) refl
    where
      go : (c : Result Change Reason) → changing w addr count false ≡ c → P (unplug_as c w count status g)
      go (Ok change) e =
          let l = lies w addr count false change s e in
          by_cond P (ltb (plugged w) (bytes_of (block_size w) count)) _ _
          (λ h. spoiled change.first change.offset.0 (ltb-true (plugged w) (bytes_of (block_size w) count) h) l)
          (λ h. legal change.first change.offset.0 change.host.0 (ltb-false (plugged w) (bytes_of (block_size w) count) h) l (located w addr count false change s e))
      go (Err reason) e = bad reason

  one_cases : (block : ℕ)
      → ((offset host : ℕ) → Located w block 1 offset host → P (asks_one w block offset host status g))
      → ((reason : Reason) → P (stops (why reason) w status g)) → P (unplug_one w block status g)
  unfolding one_as
  one_cases block asks stop = go (changing w (start w + bytes_of (block_size w) block) 1 false) refl
    where
      go : (c : Result Change Reason) → changing w (start w + bytes_of (block_size w) block) 1 false ≡ c → P (one_as c w block status g)
      go (Ok change) e =
          let addr = start w + bytes_of (block_size w) block in
          let l = lies w addr 1 false change s e in
          let at = located w addr 1 false change s e in
          asks change.offset.0 change.host.0 (record { offset_is = omega (arith, l.offset_is); host_is = at.host_is })
      go (Err reason) e = stop reason

  pub unplug_all_cases : (from : ℕ)
      → (next_set w.blocks from (region_blocks w) ≡ None → P (ends_all w status g))
      → ((block offset host : ℕ) → next_set w.blocks from (region_blocks w) ≡ Some block → Located w block 1 offset host → P (asks_one w block offset host status g))
      → ((reason : Reason) → P (stops (why reason) w status g)) → P (unplug_all w from status g)
  unfolding next_as
  unplug_all_cases from ends asks stop = go (next_set w.blocks from (region_blocks w)) refl
    where
      go : (f : Option ℕ) → next_set w.blocks from (region_blocks w) ≡ f → P (next_as f w status g)
      go None e = ends e
      go (Some block) e = one_cases block (λ offset host q. asks block offset host e q) stop

module _ (P : Outcome → Type 0) (w : World) (req : VirtioMemReq) (status : ℕ) (g : Guest) where
  pub serve_cases :
      (eqb req.req_type 0 ≡ true → P (plug w req.addr.0 req.nb_blocks status g))
      → (eqb req.req_type 0 ≡ false → eqb req.req_type 1 ≡ true
      → P (unplug w req.addr.0 req.nb_blocks status g))
      → (eqb req.req_type 0 ≡ false → eqb req.req_type 1 ≡ false → eqb req.req_type 2 ≡ true → P (unplug_all w 0 status g))
      → (eqb req.req_type 0 ≡ false → eqb req.req_type 1 ≡ false → eqb req.req_type 2 ≡ false
      → P (served (state_verdict w req.addr.0 req.nb_blocks) status w g))
      → P (unserved UnknownType w g) → P (serve w req status g)
  unfolding serve
  serve_cases plugging unplugging all state other =
      by_cond P (eqb req.req_type 0) _ _ plugging
      (λ e₀. by_cond P (eqb req.req_type 1) _ _ (unplugging e₀)
      (λ e₁. by_cond P (eqb req.req_type 2) _ _ (all e₀ e₁)
      (λ e₂. by_cond P (eqb req.req_type 3) _ _ (λ _. state e₀ e₁ e₂) (λ _. other))))

-- ---- the usable size, placing, the size change, and the config
module _ (P : Outcome → Type 0) (w : World) where
  pub resized_ways :
      (growth_of (region w) (several w) (usable w) (new_usable w) w.rows ≡ None → P (sizes w))
      → ((i last size : ℕ) → growth_of (region w) (several w) (usable w) (new_usable w) w.rows ≡ creation i last size → P (asks_create w i last size))
      → P (resized w)
  unfolding resizes
  resized_ways settled asks = go (growth_of (region w) (several w) (usable w) (new_usable w) w.rows) refl
    where
      go : (x : Option Creation) → growth_of (region w) (several w) (usable w) (new_usable w) w.rows ≡ x → P (resizes x w)
      go None e = settled e
      go (Some made) e = asks made.first made.last made.size e

  pub resized_cases : P (sizes w)
      → ((i last size : ℕ) → growth_of (region w) (several w) (usable w) (new_usable w) w.rows ≡ creation i last size → P (asks_create w i last size))
      → P (resized w)
  resized_cases settled asks = resized_ways (λ _. settled) asks

  pub placing_cases : P (sizes w)
      → ((i last size : ℕ) → growth_of (region w) (several w) (usable w) (new_usable w) w.rows ≡ creation i last size → P (asks_create w i last size))
      → (several w ≡ false → P (asks_create w 0 0 (region w)))
      → P (placing w)
  unfolding placing
  placing_cases settled asks single = by_cond P (several w) _ _ (λ _. resized_cases settled asks) single

  pub place_cases : (at size : ℕ) (slots : List ℕ) (bs : List Bool) (rows : List MapRow)
      → P (refused WrongRange w []) → P (refused WrongStart w [])
      → (length slots ≡ region_rows w → start_ok at (region w) (several w) w.device.alignment ≡ true → P (placing (placed w at slots bs rows)))
      → P (place w at size slots bs rows)
  unfolding place range_refusal unless
  place_cases at size slots bs rows bad-range bad-start k =
      let Given : Result ⊤ Refusal → Type 0 = λ x. P (unless x w [] (placing (placed w at slots bs rows))) in
      by_not Given (eqb (length slots) (region_rows w) && eqb size (region w)) _ _
      (λ fit. by_not Given (start_ok at (region w) (several w) w.device.alignment) _ _
      (λ starts. k (eqb-true (length slots) (region_rows w) (and_left _ _ fit)) starts)
      (λ _. bad-start))
      (λ _. bad-range)

  pub size_cases : (mib : ℕ) → P (refused WrongSize w [])
      → (mib * 1048576 ≤ region w → mib * 1048576 % block_size w ≡ 0 → P (resized (device_of (requested_to (mib * 1048576) w.device) w)))
      → P (set_requested_size w mib)
  unfolding set_requested_size
  size_cases mib bad k =
      by_not P (size_ok (block_size w) (mib * 1048576) (region w)) _ _
      (λ fits. k (size_within _ _ _ fits) (size_whole _ _ _ fits))
      (λ _. bad)

  pub read_cases : (offset : ℕ) (buffer : List ℕ) → (shaped_of w.device ≡ false → P (refused NoShape w buffer))
      → P (record { world = w; answer = Done; bytes = put buffer 0 (drop offset (config_bytes w.device.config)) })
      → P (read_config w offset buffer)
  unfolding read_config
  read_cases offset buffer bad good =
      by_not P (shaped_of w.device) _ _ (λ _. good) bad

  pub write_cases : (buffer : List ℕ) → (shaped_of w.device ≡ false → P (refused NoShape w buffer))
      → P (record { world = w; answer = Done; bytes = buffer }) → P (write_config w buffer)
  unfolding write_config
  write_cases buffer bad good =
      by_not P (shaped_of w.device) _ _ (λ _. good) bad
