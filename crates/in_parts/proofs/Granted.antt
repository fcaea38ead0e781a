-- SPDX-License-Identifier: Apache-2.0 AND BSD-3-Clause
-- A plug that is acknowledged, opened: what is so of the world, whatever chain asks for it.
use Rattle.std.specs.Prelude.{Ok, Err, Result, ⊤}
use Prim.Native.Nat.{ℕ, ◌+◌, ◌-◌, ◌%◌, ◌≤◌, ◌<◌}
use mathlib.Core.Path.{◌≡◌, refl, ap, ◌∙◌}
use mathlib.Core.Bool.{true}
use native.Mathlib.Nat.{add-mul, add-mul-div_right}
use native.Mathlib.Omega.{arith}
use lib.Dec.{ltb}
use lib.ListN.{length}
use borrow.Author.Tests.{le-ltb, ltb-false}
use Rattle.units.specs.Numbers.{bytes_of, blocks_in, map_region}
use Rattle.units.specs.declared.RegionOffset.{RegionOffset}
use Rattle.units.specs.declared.HostAddr.{HostAddr}
use Rattle.units.proofs.Tests.{by_test}
use Rattle.bitmap.specs.Blocks.{fill}
use Rattle.bitmap.proofs.Laws.{fill_length, fill_split, fill_swap, clear_before, clear_instead}
use Rattle.record.specs.Changes.{plugged_to}
use Rattle.record.proofs.Laws.{shaped_is, parts, whole}
use Rattle.change.specs.declared.Change.{Change}
use Rattle.change.specs.declared.Reason.{Reason}
use Rattle.refusal.specs.declared.Refusal.{Refusal}
use Rattle.change.proofs.Laws.{IsLegal, legal_is, legal_when}
use Rattle.change.proofs.Split.{legal_first, legal_second, legal_joined, no_seam}
use Rattle.step.specs.Answers.{response}
use Rattle.step.specs.World.{World, Guest, Call}
use Rattle.step.specs.Step.{step, unless, request, serve, ready_refusal, tables_fit, plug, plug_as, plugs, changing, block_size, start, usable, several, plugged, requested}
use Rattle.step.proofs.Entry.{Ready, ready_is, ready_when}
use Rattle.history.specs.History.{block_of}
use Rattle.standard.specs.Requests.{Acknowledged, Rejected}
use Rattle.history.proofs.KeepsShape.{step_shaped}
use Rattle.in_parts.specs.InParts.{Asks}

-- ---- what is so of a plug that is acknowledged
-- tests (b) to (d) are passed
abbrev pub Passes : (w : World) (addr count first : ℕ) → RegionOffset → HostAddr → Type 0
Passes w addr count first offset host = IsLegal (block_size w) (start w) (usable w) (several w) addr count true w.blocks w.rows first offset host

pub record Granted (w : World) (addr count : ℕ) : Type 0 where
  pub within : plugged w + bytes_of (block_size w) count ≤ requested w
  pub host : HostAddr
  pub legal : Passes w addr count (block_of w addr) (record { 0 = addr - start w }) host

-- the world with those blocks plugged
abbrev pub taken : World → (addr count : ℕ) → World
taken w addr count =
    record {
      device = plugged_to (plugged w + bytes_of (block_size w) count) w.device;
      blocks = fill w.blocks (block_of w addr) count true;
      rows = w.rows;
    }

-- a legal change lies at the block and the offset of its address
module _ (w : World) (addr count : ℕ) (first : ℕ) (offset : RegionOffset) (host : HostAddr) where
  granted : plugged w + bytes_of (block_size w) count ≤ requested w → Passes w addr count first offset host → Granted w addr count
  granted h l =
      let o = l.in_range.offset_is in
      let f : first ≡ block_of w addr = l.first_is ∙ ap (blocks_in (block_size w)) o in
      record {
        within = h;
        host = host;
        legal = record { in_range = rw o at l.in_range; first_is = refl; not-wanted = rw f at l.not-wanted; host_at = rw o at l.host_at; hosted = rw o at l.hosted };
      }

module _ (w : World) (addr count status : ℕ) (g : Guest) where
  within_granted : (c : Result Change Reason) → changing w addr count true ≡ c → plugged w + bytes_of (block_size w) count ≤ requested w → Acknowledged (plug_as c w count status g) → Granted w addr count
  unfolding plug_as response
  within_granted (Ok change) q h a =
      granted w addr count change.first change.offset change.host h (legal_is (block_size w) (start w) (usable w) (several w) addr count true w.blocks w.rows change.first change.offset change.host q)
  within_granted (Err why) q h a = let y : ◌≡◌ {A = ℕ} 0 1 = cc in absurd (omega arith)

  plug_granted : Acknowledged (plug w addr count status g) → Granted w addr count
  unfolding plug response
  plug_granted e =
      by_test (ltb (requested w) (plugged w + bytes_of (block_size w) count))
      (λ t. let z = rw t at e in let y : ◌≡◌ {A = ℕ} 0 1 = cc in absurd (omega arith))
      (λ t. within_granted (changing w addr count true) refl (ltb-false (requested w) (plugged w + bytes_of (block_size w) count) t) (rw t at e))

  granted_plugs : 0 < block_size w → Granted w addr count → plug w addr count status g ≡ plugs w (block_of w addr) count status g
  unfolding plug plug_as
  granted_plugs positive x =
      let q = legal_when (block_size w) (start w) (usable w) (several w) addr count true w.blocks w.rows (block_of w addr) _ x.host positive x.legal in
      rw (le-ltb (requested w) (plugged w + bytes_of (block_size w) count) x.within, q)

  -- within the requested size and not granted, it is ERROR
  plug_error : plugged w + bytes_of (block_size w) count ≤ requested w → (Granted w addr count → ⊥) → Rejected (plug w addr count status g)
  unfolding plug plug_as response
  plug_error h never = rw (le-ltb (requested w) (plugged w + bytes_of (block_size w) count) h) (go (changing w addr count true) refl)
    where
      go : (c : Result Change Reason) → changing w addr count true ≡ c → Rejected (plug_as c w count status g)
      go (Ok change) q = absurd (never (within_granted (Ok change) q h refl))
      go (Err why) q = refl

-- ---- the parts of a range, and the range of two parts
module _ (w : World) (addr k m : ℕ) (positive : 0 < block_size w) where
  abbrev b : ℕ
  b = block_size w

  abbrev offset : RegionOffset
  offset = record { 0 = addr - start w }

  sum : bytes_of b (k + m) ≡ bytes_of b k + bytes_of b m
  sum = add-mul k m b

  pub granted_first : 0 < k → Granted w addr (k + m) → Granted w addr k
  granted_first k-some x =
      let s = sum in
      record {
        within = omega (arith, x.within);
        host = x.host;
        legal = legal_first b (start w) (usable w) (several w) addr k m true w.blocks w.rows positive (block_of w addr) offset x.host k-some x.legal;
      }

  pub granted_second : 0 < m → Granted w addr (k + m) → Granted (taken w addr k) (addr + bytes_of b k) m
  granted_second m-some x =
      let s = sum in
      granted (taken w addr k) (addr + bytes_of b k) m _ _ _ (omega (arith, x.within))
      (legal_second b (start w) (usable w) (several w) addr k m true w.blocks w.rows positive (block_of w addr) offset x.host m-some x.legal)

  -- both parts end where the whole does
  pub taken_both : start w ≤ addr → taken (taken w addr k) (addr + bytes_of b k) m ≡ taken w addr (k + m)
  taken_both from =
      let s = sum in
      let size : plugged w + bytes_of b k + bytes_of b m ≡ plugged w + bytes_of b (k + m) = omega arith in
      let o : addr + bytes_of b k - start w ≡ addr - start w + bytes_of b k = omega arith in
      rw (size, o, add-mul-div_right (addr - start w) k positive, fill_split w.blocks (block_of w addr) k m true)

  pub granted_joined : Granted w addr k → (several w ≡ true → (addr - start w + bytes_of b k) % map_region ≡ 0 → ⊥) → Granted (taken w addr k) (addr + bytes_of b k) m → Granted w addr (k + m)
  granted_joined x seam y =
      let s = sum in
      record {
        within = omega (arith, y.within);
        host = x.host;
        legal = legal_joined b (start w) (usable w) (several w) addr k m true w.blocks w.rows positive (block_of w addr) offset x.host _ _ y.host seam x.legal y.legal;
      }

  pub granted_no_seam : 0 < k → 0 < m → Granted w addr (k + m) → several w ≡ true → (addr - start w + bytes_of b k) % map_region ≡ 0 → ⊥
  granted_no_seam k-some m-some x t z =
      no_seam b (start w) (usable w) (several w) addr k m true w.blocks w.rows positive (block_of w addr) offset x.host k-some m-some t x.legal z

-- ---- two plugs in the other order
module _ (w : World) (addr count addr' count' : ℕ) (x : Granted w addr count) (y : Granted (taken w addr count) addr' count') where
  pub other_first : Granted w addr' count'
  other_first =
      let l = y.legal in
      record {
        within = omega (arith, y.within);
        host = y.host;
        legal = record { in_range = l.in_range; first_is = l.first_is; not-wanted = clear_before w.blocks (block_of w addr) count (block_of w addr') count' l.not-wanted; host_at = l.host_at; hosted = l.hosted };
      }

  pub then_this : Granted (taken w addr' count') addr count
  then_this =
      let l = x.legal in
      record {
        within = omega (arith, y.within);
        host = x.host;
        legal = record { in_range = l.in_range; first_is = l.first_is; not-wanted = clear_instead w.blocks (block_of w addr) count (block_of w addr') count' l.not-wanted y.legal.not-wanted; host_at = l.host_at; hosted = l.hosted };
      }

pub taken_swap : (w : World) (addr count addr' count' : ℕ) → taken (taken w addr' count') addr count ≡ taken (taken w addr count) addr' count'
taken_swap w addr count addr' count' =
    let size : plugged w + bytes_of (block_size w) count' + bytes_of (block_size w) count ≡ plugged w + bytes_of (block_size w) count + bytes_of (block_size w) count' = omega arith in
    rw (size, fill_swap w.blocks (block_of w addr') count' (block_of w addr) count true)

-- ---- a request that is acknowledged
abbrev pub Reached : World → Type 0
Reached w = Ready w.device (length w.blocks) (length w.rows)

pub positive_of : (w : World) → Reached w → 0 < block_size w
positive_of w r = let s = shaped_is w.device r.shaped in omega (arith, s.block_size)

module _ (w : World) (c : Call) (addr count : ℕ) (a : Asks c addr count) where
  reached_serves : Reached w → step w c ≡ plug w addr count a.status.0 a.guest
  unfolding step unless request serve
  reached_serves r = rw (a.is_request, ready_when w.device (length w.blocks) (length w.rows) r, a.reads)

  -- only a device that is ready acknowledges
  pub acknowledged_reached : Acknowledged (step w c) → Reached w
  unfolding step unless response
  acknowledged_reached e = go (ready_refusal w.device (length w.blocks) (length w.rows)) refl
    where
      go : (x : Result ⊤ Refusal) → ready_refusal w.device (length w.blocks) (length w.rows) ≡ x → Reached w
      go (Ok admitted) q = ready_is w.device (length w.blocks) (length w.rows) q
      go (Err refusal) q = let z = rw (a.is_request, q) at e in let y : ◌≡◌ {A = ℕ} 0 1 = cc in absurd (omega arith)

  pub acknowledged_granted : Acknowledged (step w c) → Granted w addr count
  acknowledged_granted e = plug_granted w addr count a.status.0 a.guest (rw (reached_serves (acknowledged_reached e)) at e)

  module _ (r : Reached w) (x : Granted w addr count) where
    pub granted_does : step w c ≡ plugs w (block_of w addr) count a.status.0 a.guest
    granted_does = reached_serves r ∙ granted_plugs w addr count a.status.0 a.guest (positive_of w r) x

    pub granted_acknowledged : Acknowledged (step w c)
    unfolding response
    granted_acknowledged = rw granted_does

    pub granted_takes : (step w c).world ≡ taken w addr count
    granted_takes = rw granted_does

    pub still_reached : Reached (taken w addr count)
    unfolding tables_fit
    still_reached =
        let kept = whole _ (step_shaped w (parts w.device r.shaped) c) in
        record { shaped = rw granted_does at kept; idle = r.idle; is_placed = r.is_placed; fits = rw (fill_length w.blocks (block_of w addr) count true) r.fits }

  pub not_granted_error : Reached w → plugged w + bytes_of (block_size w) count ≤ requested w → (Granted w addr count → ⊥) → Rejected (step w c)
  not_granted_error r h never = rw (reached_serves r) (plug_error w addr count a.status.0 a.guest h never)
