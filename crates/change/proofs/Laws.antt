-- SPDX-License-Identifier: Apache-2.0 AND BSD-3-Clause
-- The laws of `specs/Change.antt` that callers cite: what a range that passed its tests is, and what a decision depends on.
use Rattle.std.specs.Prelude.{Option, Some, None, Ok, Err, Result}
use Prim.Native.Nat.{ℕ, zero, suc, ◌+◌, ◌-◌, ◌*◌, ◌/◌, ◌%◌, min, ◌≤◌, ◌<◌}
use mathlib.Core.Path.{◌≡◌, refl, sym, ap, ◌∙◌}
use mathlib.Core.Bool.{Bool, true, false, cond, not}
use mathlib.Core.List.{List, [], ◌∷◌}
use native.Mathlib.Nat.{div-add-mod', mod-mod, zero-add, one-mul, add-mod, add-mul, mul-pos, mul-le-mul_right, mul-div_cancel, add-mul-mod_self_right, le-div_iff_mul-le}
use native.Mathlib.Omega.{arith}
use lib.Dec.{leb, ltb, eqb}
use lib.ListN.{take, length-take}
use borrow.Author.Tests.{lt-ltb, le-ltb, lt-leb, le-leb, eq-eqb, ne_eqb, ltb-false, leb-true, leb-false, eqb-true, eqb-false, not-false}
use Rattle.units.specs.declared.RegionOffset.{RegionOffset}
use Rattle.units.specs.declared.HostAddr.{HostAddr}
use Rattle.units.specs.Numbers.{top, bytes_of, blocks_in, map_region}
use Rattle.units.proofs.Tests.{by_test}
use Rattle.bitmap.specs.Blocks.{block_at, range, every, all_are}
use Rattle.bitmap.proofs.Laws.{range_end, one_set}
use Rattle.rows.specs.declared.MapRow.{MapRow}
use Rattle.rows.specs.Rows.{row_at, mapping_of}
use Rattle.rows.proofs.Laws.{mapping_same}
use Rattle.change.specs.declared.Change.{Change}
use Rattle.change.specs.declared.Reason.{Reason}
use Rattle.change.specs.declared.Reason.TheVariants.{PastUsable}
use Rattle.change.specs.Change.{inside_of, range_of, host_sum, host_in, row_of, host_of, legal, legal_at, change_in, change_of, state_in, state_of}

-- ---- the blocks of a range that exist, where they end at block n
pub range_cut : (n : ℕ) (bs : List Bool) (f c : ℕ) → range (take n bs) f c ≡ range bs f (min c (n - f))
range_cut zero bs f c = let z : min c (0 - f) ≡ 0 = omega arith in rw z (range_end [] f c (omega arith))
range_cut (suc n) [] f c = range_end [] f c (omega arith) ∙ sym (range_end [] f (min c (suc n - f)) (omega arith))
range_cut (suc n) (b ∷ bs) (suc f) c = let z : min c (suc n - suc f) ≡ min c (n - f) = omega arith in rw z (range_cut n bs f c)
range_cut (suc n) (b ∷ bs) zero zero = let z : min 0 (suc n - 0) ≡ 0 = omega arith in rw z
range_cut (suc n) (b ∷ bs) zero (suc c) =
    let z : min (suc c) (suc n - 0) ≡ suc (min c (n - 0)) = omega arith in rw (z, range_cut n bs zero c)

-- a test whose first outcome is not the answer has failed, and the second outcome is the answer
cut : {A : Type 0} (t : Bool) {x y z : A} → (x ≡ z → ⊥) → cond t x y ≡ z → (t ≡ false) × (y ≡ z)
cut true never e = absurd (never e)
cut false never e = (refl, e)

-- ---- (b): what a range that lies inside is
pub record InRange (b start usable addr count offset : ℕ) : Type 0 where
  pub aligned : addr % b ≡ 0
  pub some : 0 < count
  pub below_top : addr + bytes_of b count ≤ top
  pub from_start : start ≤ addr
  pub offset_is : offset ≡ addr - start
  pub in_usable : offset + bytes_of b count ≤ usable

pub inside_is : (b start usable addr count : ℕ) (o : RegionOffset) → range_of b start usable addr count ≡ Ok o → InRange b start usable addr count o.0
unfolding range_of inside_of
inside_is b start usable addr count o e =
    let p1 = cut (not (eqb (addr % b) 0)) (λ q. let z : ◌≡◌ {A = ℕ} 0 1 = cc in omega arith) e in
    let p2 = cut (eqb count 0) (λ q. let z : ◌≡◌ {A = ℕ} 0 1 = cc in omega arith) p1.1 in
    let p3 = cut (ltb top (addr + bytes_of b count)) (λ q. let z : ◌≡◌ {A = ℕ} 0 1 = cc in omega arith) p2.1 in
    let p4 = cut (ltb addr start) (λ q. let z : ◌≡◌ {A = ℕ} 0 1 = cc in omega arith) p3.1 in
    let p5 = cut (leb (start + usable) addr) (λ q. let z : ◌≡◌ {A = ℕ} 0 1 = cc in omega arith) p4.1 in
    let p6 = cut (ltb (start + usable) (addr + bytes_of b count)) (λ q. let z : ◌≡◌ {A = ℕ} 0 1 = cc in omega arith) p5.1 in
    let same : record { 0 = addr - start } ≡ o = cc p6.1 in
    let k2 = eqb-false count 0 p2.0 in
    let k3 = ltb-false top (addr + bytes_of b count) p3.0 in
    let k4 = ltb-false addr start p4.0 in
    let k6 = ltb-false (start + usable) (addr + bytes_of b count) p6.0 in
    let w : o.0 ≡ addr - start = sym (ap (λ (x : RegionOffset). x.0) same) in
    record {
      aligned = eqb-true (addr % b) 0 (not-false (eqb (addr % b) 0) p1.0);
      some = omega (arith, k2);
      below_top = k3;
      from_start = k4;
      offset_is = w;
      in_usable = omega arith;
    }

-- and a range that is all this lies inside
pub inside_when : (b start usable addr count offset : ℕ) → 0 < b → InRange b start usable addr count offset → range_of b start usable addr count ≡ Ok (record { 0 = offset })
unfolding range_of inside_of
inside_when b start usable addr count offset h r =
    let positive : 0 < bytes_of b count = mul-pos r.some h in
    simp
    (eq-eqb (addr % b) 0 r.aligned, ne_eqb count 0 (λ z. omega arith), le-ltb top (addr + bytes_of b count) r.below_top, le-ltb addr start r.from_start, lt-leb (start + usable) addr (omega arith), le-ltb (start + usable) (addr + bytes_of b count) (omega arith), r.offset_is)

-- ---- (d): what a range that the host has is
pub record Hosted (several : Bool) (offset size host : ℕ) : Type 0 where
  pub one_map_region : several ≡ true → offset % map_region + size ≤ map_region
  pub host_fits : host + size ≤ top

-- a host sum that fits, and the address that it gives
pub sum_is : (base offset size : ℕ) (host : HostAddr) → host_sum base offset size ≡ Ok host → (base + offset + size ≤ top) × (host ≡ record { 0 = base + offset })
unfolding host_sum
sum_is base offset size host e =
    let p = cut (ltb top (base + offset + size)) (λ q. let z : ◌≡◌ {A = ℕ} 0 1 = cc in omega arith) e in
    (ltb-false top (base + offset + size) p.0, cc p.1)

mapping_fits : (m : Option HostAddr) (offset size : ℕ) (host : HostAddr) → host_in m offset size ≡ Ok host → host.0 + size ≤ top
unfolding host_in
mapping_fits (Some base) offset size host e =
    let p = sum_is base.0 offset size host e in
    let w : host.0 ≡ base.0 + offset = ap (λ (x : HostAddr). x.0) p.1 in
    omega (arith, p.0)
mapping_fits None offset size host e = let z : ◌≡◌ {A = ℕ} 0 1 = cc in absurd (omega arith)

-- with several regions the range is of one map region, and its row has it
pub in_map_region : (rows : List MapRow) (offset size : ℕ) (host : HostAddr) → host_of true rows offset size ≡ Ok host
    → (offset % map_region + size ≤ map_region) × (host_in (mapping_of rows (offset / map_region)) (offset % map_region) size ≡ Ok host)
unfolding host_of
in_map_region rows offset size host e =
    let p = cut (ltb map_region (offset % map_region + size)) (λ q. let z : ◌≡◌ {A = ℕ} 0 1 = cc in omega arith) e in
    (ltb-false map_region (offset % map_region + size) p.0, p.1)

pub host_is : (several : Bool) (rows : List MapRow) (offset size : ℕ) (host : HostAddr) → host_of several rows offset size ≡ Ok host → Hosted several offset size host.0
unfolding host_of
host_is true rows offset size host e =
    let p = in_map_region rows offset size host e in
    record { one_map_region = λ s. p.0; host_fits = mapping_fits (mapping_of rows (offset / map_region)) (offset % map_region) size host p.1 }
host_is false rows offset size host e =
    record {
      one_map_region = λ s. let z : ◌≡◌ {A = ℕ} 0 1 = cc in absurd (omega arith);
      host_fits = mapping_fits (mapping_of rows 0) offset size host e;
    }

-- ---- what a legal change is
pub record IsLegal (b start usable : ℕ) (several : Bool) (addr count : ℕ) (wanted : Bool) (blocks : List Bool) (rows : List MapRow) (first : ℕ) (offset : RegionOffset) (host : HostAddr) : Type 0 where
  pub in_range : InRange b start usable addr count offset.0
  pub first_is : first ≡ blocks_in b offset.0
  pub not-wanted : all_are blocks first count (not wanted) ≡ true
  pub host_at : host_of several rows offset.0 (bytes_of b count) ≡ Ok host
  pub hosted : Hosted several offset.0 (bytes_of b count) host.0

-- a change is its three parts
first_in : Result Change Reason → ℕ
first_in (Ok change) = change.first
first_in (Err reason) = 0

offset_in : Result Change Reason → RegionOffset
offset_in (Ok change) = change.offset
offset_in (Err reason) = record { 0 = 0 }

host_found : Result Change Reason → HostAddr
host_found (Ok change) = change.host
host_found (Err reason) = record { 0 = 0 }

legal_at_lem : (b : ℕ) (o : RegionOffset) (h : Result HostAddr Reason) (first : ℕ) (offset : RegionOffset) (host : HostAddr) → legal_at b o.0 h ≡ legal first offset host → (first ≡ blocks_in b o.0) × (o ≡ offset) × (h ≡ Ok host)
unfolding legal_at first_in offset_in host_found
legal_at_lem b o (Ok x) first offset host e = (sym (ap first_in e), ap offset_in e, ap Ok (ap host_found e))
legal_at_lem b o (Err reason) first offset host e = let z : ◌≡◌ {A = ℕ} 0 1 = cc in absurd (omega arith)

module _ (b start usable : ℕ) (several : Bool) (addr count : ℕ) (wanted : Bool) (blocks : List Bool) (rows : List MapRow) (first : ℕ) (offset : RegionOffset) (host : HostAddr) where
  legal_in : (r : Result RegionOffset Reason) → range_of b start usable addr count ≡ r → change_in r b several count wanted blocks rows ≡ legal first offset host → IsLegal b start usable several addr count wanted blocks rows first offset host
  unfolding change_in
  legal_in (Ok o) q e =
      by_test (all_are blocks (blocks_in b o.0) count (not wanted))
      (λ t.
      let p = legal_at_lem b o (host_of several rows o.0 (bytes_of b count)) first offset host (rw t at e) in
      let h : host_of several rows offset.0 (bytes_of b count) ≡ Ok host = rw p.1 at p.2 in
      record {
        in_range = inside_is b start usable addr count offset (rw p.1 at q);
        first_is = rw p.1 at p.0;
        not-wanted = rw p.0 t;
        host_at = h;
        hosted = host_is several rows offset.0 (bytes_of b count) host h;
      })
      (λ t. let w = rw t at e in let z : ◌≡◌ {A = ℕ} 0 1 = cc in absurd (omega arith))
  legal_in (Err reason) q e = let z : ◌≡◌ {A = ℕ} 0 1 = cc in absurd (omega arith)

  pub legal_is : change_of b start usable several addr count wanted blocks rows ≡ legal first offset host → IsLegal b start usable several addr count wanted blocks rows first offset host
  legal_is e = legal_in (range_of b start usable addr count) refl e

-- and a change that is all this is legal
pub legal_when : (b start usable : ℕ) (several : Bool) (addr count : ℕ) (wanted : Bool) (blocks : List Bool) (rows : List MapRow) (first : ℕ) (offset : RegionOffset) (host : HostAddr) → 0 < b
    → IsLegal b start usable several addr count wanted blocks rows first offset host → change_of b start usable several addr count wanted blocks rows ≡ legal first offset host
unfolding change_in legal_at
legal_when b start usable several addr count wanted blocks rows first offset host h l =
    simp (inside_when b start usable addr count offset.0 h l.in_range, ← l.first_is, l.not-wanted, l.host_at)

-- ---- from an aligned start: the range is whole blocks
pub record WholeBlocks (b usable first count offset : ℕ) : Type 0 where
  pub offset_aligned : offset % b ≡ 0
  pub offset_of_lem : offset ≡ bytes_of b first
  pub bytes_in : bytes_of b (first + count) ≤ usable
  pub blocks_in_lem : first + count ≤ blocks_in b usable

pub whole_blocks : (b start usable addr count offset : ℕ) → 0 < b → start % b ≡ 0 → InRange b start usable addr count offset → WholeBlocks b usable (blocks_in b offset) count offset
whole_blocks b start usable addr count offset h s r =
    let sum : start + offset ≡ addr = omega arith in
    let e : (start % b + offset % b) % b ≡ 0 = rw (← add-mod start offset b, sum) r.aligned in
    let aligned : offset % b ≡ 0 = rw (s, zero-add, mod-mod) at e in
    let whole : offset ≡ bytes_of b (blocks_in b offset) = omega (arith, div-add-mod' offset b) in
    let bytes : bytes_of b (blocks_in b offset + count) ≤ usable = rw (add-mul (blocks_in b offset) count b) (omega (arith, r.in_usable)) in
    record { offset_aligned = aligned; offset_of_lem = whole; bytes_in = bytes; blocks_in_lem = (le-div_iff_mul-le h).1 bytes }

pub legal_whole : (b start usable : ℕ) (several : Bool) (addr count : ℕ) (wanted : Bool) (blocks : List Bool) (rows : List MapRow) (first : ℕ) (offset : RegionOffset) (host : HostAddr) → 0 < b → start % b ≡ 0
    → IsLegal b start usable several addr count wanted blocks rows first offset host → WholeBlocks b usable first count offset.0
legal_whole b start usable several addr count wanted blocks rows first offset host h s l =
    rw l.first_is (whole_blocks b start usable addr count offset.0 h s l.in_range)

-- each block of the usable size, taken alone, lies inside
pub block_inside : (b start usable block : ℕ) → 0 < b → start % b ≡ 0 → start + usable ≤ top → block < blocks_in b usable → InRange b start usable (start + bytes_of b block) 1 (bytes_of b block)
block_inside b start usable block h s t k =
    let bytes : suc block * b ≤ usable = (le-div_iff_mul-le h).0 k in
    let end : bytes_of b block + bytes_of b 1 ≤ usable = omega (arith, add-mul 1 block b) in
    record {
      aligned = add-mul-mod_self_right start block b ∙ s;
      some = omega arith;
      below_top = omega arith;
      from_start = omega arith;
      offset_is = omega arith;
      in_usable = end;
    }

-- a block that starts below a size of whole blocks is one of them
block_below : (b size block : ℕ) → size % b ≡ 0 → bytes_of b block < size → block < blocks_in b size
block_below b size block m k =
    by_test (leb (size / b) block)
    (λ e. let most = mul-le-mul_right b (leb-true (size / b) block e) in absurd (omega (arith, div-add-mod' size b)))
    (λ e. leb-false (size / b) block e)

-- a plugged block of the region, taken alone: of (b) and (c) the usable size is left
pub one_plugged : (b start usable : ℕ) (several : Bool) (block : ℕ) (bs : List Bool) (rows : List MapRow) → 0 < b → start % b ≡ 0 → usable % b ≡ 0 → start + bytes_of b (suc block) ≤ top → start + usable ≤ top → block_at bs block ≡ true
    → change_of b start usable several (start + bytes_of b block) 1 false bs rows ≡ cond (leb usable (bytes_of b block)) (Err PastUsable) (legal_at b (bytes_of b block) (host_of several rows (bytes_of b block) b))
unfolding change_in range_of inside_of
one_plugged b start usable several block bs rows h s u t v set =
    let offset = bytes_of b block in
    by_test (leb usable offset)
    (λ e.
    let past = leb-true usable offset e in
    let end : start + offset + bytes_of b 1 ≤ top = omega (arith, add-mul 1 block b) in
    rw
    (e, add-mul-mod_self_right start block b ∙ s, le-ltb top (start + offset + bytes_of b 1) end, le-ltb (start + offset) start (omega arith), le-leb (start + usable) (start + offset) (omega arith)))
    (λ e.
    let r = block_inside b start usable block h s v (block_below b usable block u (leb-false usable offset e)) in
    let n : blocks_in b offset ≡ block = mul-div_cancel block h in
    rw (e, inside_when b start usable (start + offset) 1 offset h r, n, one_set bs block set, one-mul b))

-- ---- what a decision depends on: of a range that passed (b), its one row and its blocks
pub host_same : (several : Bool) (rs ss : List MapRow) (offset size : ℕ) → row_at rs (row_of several offset) ≡ row_at ss (row_of several offset) → host_of several rs offset size ≡ host_of several ss offset size
unfolding host_of
host_same several rs ss offset size e = rw (mapping_same rs ss (row_of several offset) e)

module _ (b start usable : ℕ) (several : Bool) (addr count : ℕ) (wanted : Bool) (bs cs : List Bool) (rs ss : List MapRow)
    (same_blocks : (o : RegionOffset) → range_of b start usable addr count ≡ Ok o → range bs (blocks_in b o.0) count ≡ range cs (blocks_in b o.0) count)
    (same_row : (o : RegionOffset) → range_of b start usable addr count ≡ Ok o → row_at rs (row_of several o.0) ≡ row_at ss (row_of several o.0)) where
  same_in : (r : Result RegionOffset Reason) → range_of b start usable addr count ≡ r → change_in r b several count wanted bs rs ≡ change_in r b several count wanted cs ss
  unfolding change_in
  same_in (Ok o) q = rw (same_blocks o q, host_same several rs ss o.0 (bytes_of b count) (same_row o q))
  same_in (Err reason) q = refl

  pub change_same : change_of b start usable several addr count wanted bs rs ≡ change_of b start usable several addr count wanted cs ss
  change_same = same_in (range_of b start usable addr count) refl

-- ---- the state of a range without blocks (R10.16)
module _ (b start region addr count : ℕ) (bs : List Bool) where
  pub state_empty : range (take (blocks_in b region) bs) (blocks_in b (addr - start)) count ≡ [] → state_of b start region addr count bs ≡ 0
  unfolding state_of state_in every
  state_empty e = by_test (ltb addr start) (λ t. rw t) (λ t. rw (t, e))

  pub state_none_there : blocks_in b region ≤ blocks_in b (addr - start) → state_of b start region addr count bs ≡ 0
  state_none_there h = state_empty (range_end (take (blocks_in b region) bs) (blocks_in b (addr - start)) count (omega (arith, length-take (blocks_in b region) bs)))

  pub state_below_start : addr < start → state_of b start region addr count bs ≡ 0
  unfolding state_of
  state_below_start h = rw (lt-ltb addr start h)

  pub state_no_blocks : count ≡ 0 → state_of b start region addr count bs ≡ 0
  state_no_blocks h = state_empty (rw h)
