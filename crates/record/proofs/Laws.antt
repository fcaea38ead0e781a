-- SPDX-License-Identifier: Apache-2.0 AND BSD-3-Clause
-- The laws of `specs/Shape.antt` and `specs/Changes.antt` that a caller cites: what the shape says in numbers, and which changes keep it.
use Prim.Native.Nat.{ℕ, ◌+◌, ◌-◌, ◌*◌, ◌%◌, ◌≤◌, ◌<◌}
use mathlib.Core.Path.{◌≡◌, refl, ap, ◌∙◌, sym}
use mathlib.Core.Bool.{Bool, true, false, not, ◌&&◌, ◌||◌}
use native.Mathlib.Nat.{add-mul-mod_self_right, zero-mod}
use native.Mathlib.Omega.{arith}
use lib.Dec.{leb, ltb, eqb}
use borrow.Author.Tests.{eqb-true, leb-true, leb-false, ltb-true, eq-eqb, le-leb, lt-ltb}
use Rattle.units.specs.Numbers.{top, bytes_of, blocks_in, map_region, map_regions}
use Rattle.units.specs.declared.GuestAddr.{GuestAddr}
use Rattle.units.proofs.Tests.{by_test, and_left, and_right}
use Rattle.wire.specs.declared.VirtioMemConfig.{VirtioMemConfig}
use Rattle.record.specs.declared.Device.{Device}
use Rattle.record.specs.declared.Pending.{Pending}
use Rattle.record.specs.declared.Pending.TheVariants.{Nothing, Create, Discard, DiscardOne}
use Rattle.record.specs.Shape.{alignment_ok, region_ok, size_ok, span_of, start_ok, several_ok, pending_ok, shaped_of, of_config, config_shaped_of, is_idle}
use Rattle.record.specs.Tests.{blocks_ok, inside_ok, rest_ok}
use Rattle.record.specs.Changes.{config_with, device_with, pending_to, start_to, plugged_to, requested_to}

-- ---- the five alignments
-- one case of a list of numbers that a can be
one_of : {P : Type 0} (a n : ℕ) (t : Bool) → (eqb a n || t) ≡ true → (a ≡ n → P) → (t ≡ true → P) → P
one_of a n t e f g = by_test (eqb a n) (λ u. f (eqb-true a n u)) (λ u. g (simp u at e))

pub by_alignment : (P : ℕ → Type 0) → P 134217728 → P 268435456 → P 536870912 → P 1073741824 → P 2147483648 → (a : ℕ) → alignment_ok a ≡ true → P a
unfolding alignment_ok
by_alignment P p q r s t a e =
    one_of a 134217728 _ e (λ h. rw h p)
    (λ e. one_of a 268435456 _ e (λ h. rw h q)
    (λ e. one_of a 536870912 _ e (λ h. rw h r)
    (λ e. one_of a 1073741824 _ e (λ h. rw h s) (λ e. let h = eqb-true a 2147483648 e in rw h t))))

pub record Aligned (a : ℕ) : Type 0 where
  pub low : 134217728 ≤ a
  pub high : a ≤ 2147483648
  pub blocks : a % 4194304 ≡ 0
  -- what is a multiple of it is one of the block size
  pub multiples : (n : ℕ) → n % a ≡ 0 → n % 4194304 ≡ 0
  pub twice : (n : ℕ) → n % (2 * a) ≡ 0 → n % 4194304 ≡ 0

pub aligned : (a : ℕ) → alignment_ok a ≡ true → Aligned a
aligned =
    by_alignment Aligned
    (record { low = omega arith; high = omega arith; blocks = refl; multiples = λ n h. omega arith; twice = λ n h. omega arith })
    (record { low = omega arith; high = omega arith; blocks = refl; multiples = λ n h. omega arith; twice = λ n h. omega arith })
    (record { low = omega arith; high = omega arith; blocks = refl; multiples = λ n h. omega arith; twice = λ n h. omega arith })
    (record { low = omega arith; high = omega arith; blocks = refl; multiples = λ n h. omega arith; twice = λ n h. omega arith })
    (record { low = omega arith; high = omega arith; blocks = refl; multiples = λ n h. omega arith; twice = λ n h. omega arith })

-- ---- the span of a region: all of it, and every map region whole
pub span_one : (region : ℕ) (several : Bool) → not several ≡ true → span_of region several ≡ region
unfolding span_of
span_one region true e = let z : ◌≡◌ {A = ℕ} 0 1 = cc in absurd (omega arith)
span_one region false e = refl

pub span_several : (region : ℕ) (several : Bool) → not several ≡ false → span_of region several ≡ map_regions region several * map_region
unfolding span_of
span_several region true e = refl
span_several region false e = let z : ◌≡◌ {A = ℕ} 0 1 = cc in absurd (omega arith)

pub record Spans (region : ℕ) (several : Bool) : Type 0 where
  pub covers : region ≤ span_of region several
  pub rows : 0 < region → 0 < map_regions region several
  pub few : region ≤ 1099511627776 → map_regions region several ≤ 512

pub spans : (region : ℕ) (several : Bool) → Spans region several
unfolding span_of map_regions
spans region true = record { covers = omega arith; rows = λ h. omega arith; few = λ h. omega arith }
spans region false = record { covers = omega arith; rows = λ h. omega arith; few = λ h. omega arith }

-- ---- the shape, test by test
pub record Parts (d : Device) : Type 0 where
  pub block : eqb d.config.block_size 4194304 ≡ true
  pub region : region_ok d.config.region_size d.alignment ≡ true
  pub requested : size_ok d.config.block_size d.config.requested_size d.config.region_size ≡ true
  pub usable : size_ok d.config.block_size d.config.usable_region_size d.config.region_size ≡ true
  pub plugged : size_ok d.config.block_size d.config.plugged_size d.config.region_size ≡ true
  pub start : start_ok d.config.addr.0 d.config.region_size d.several d.alignment ≡ true
  pub several : several_ok d.several d.config.region_size ≡ true
  pub pending : pending_ok d.pending d.config.block_size d.config.region_size d.several d.config.plugged_size ≡ true

pub parts : (d : Device) → shaped_of d ≡ true → Parts d
unfolding shaped_of
parts d e =
    let c = d.config in
    let b = eqb c.block_size 4194304 in
    let r = region_ok c.region_size d.alignment in
    let q = size_ok c.block_size c.requested_size c.region_size in
    let u = size_ok c.block_size c.usable_region_size c.region_size in
    let p = size_ok c.block_size c.plugged_size c.region_size in
    let s = start_ok c.addr.0 c.region_size d.several d.alignment in
    let m = several_ok d.several c.region_size in
    let e1 = and_right b _ e in
    let e2 = and_right r _ e1 in
    let e3 = and_right q _ e2 in
    let e4 = and_right u _ e3 in
    let e5 = and_right p _ e4 in
    let e6 = and_right s _ e5 in
    record {
      block = and_left b _ e;
      region = and_left r _ e1;
      requested = and_left q _ e2;
      usable = and_left u _ e3;
      plugged = and_left p _ e4;
      start = and_left s _ e5;
      several = and_left m _ e6;
      pending = and_right m _ e6;
    }

pub whole : (d : Device) → Parts d → shaped_of d ≡ true
unfolding shaped_of
whole d p = simp (p.block, p.region, p.requested, p.usable, p.plugged, p.start, p.several, p.pending)

-- ---- the shape in numbers: what `omega` reads
pub record Shaped (d : Device) : Type 0 where
  pub block_size : d.config.block_size ≡ 4194304
  pub alignment : Aligned d.alignment
  pub region_some : 0 < d.config.region_size
  pub region_top : d.config.region_size ≤ 1099511627776
  pub region_twice : d.config.region_size % (2 * d.alignment) ≡ 0
  pub region_blocks_lem : d.config.region_size % 4194304 ≡ 0
  pub requested_blocks : d.config.requested_size % 4194304 ≡ 0
  pub requested_in : d.config.requested_size ≤ d.config.region_size
  pub usable_blocks_lem : d.config.usable_region_size % 4194304 ≡ 0
  pub usable_in : d.config.usable_region_size ≤ d.config.region_size
  pub plugged_blocks_lem : d.config.plugged_size % 4194304 ≡ 0
  pub plugged_in_lem : d.config.plugged_size ≤ d.config.region_size
  pub start_blocks : d.config.addr.0 % 4194304 ≡ 0
  pub start_span : d.config.addr.0 + span_of d.config.region_size d.several ≤ top
  pub start_region : d.config.addr.0 + d.config.region_size ≤ top
  pub rows_some : 0 < map_regions d.config.region_size d.several
  pub rows_few : map_regions d.config.region_size d.several ≤ 512
  pub several_large : d.several ≡ true → map_region < d.config.region_size

size_is : (b n region : ℕ) → size_ok b n region ≡ true → (n % b ≡ 0) × (n ≤ region)
unfolding size_ok
size_is b n region h = (eqb-true (n % b) 0 (and_left (eqb (n % b) 0) _ h), leb-true n region (and_right (eqb (n % b) 0) _ h))

pub size_ok_lem : (b n region : ℕ) → b ≡ 4194304 → n % 4194304 ≡ 0 → n ≤ region → size_ok b n region ≡ true
unfolding size_ok
size_ok_lem b n region e h l = rw (e, eq-eqb (n % 4194304) 0 h) (le-leb n region l)

-- whole blocks less some of them, and 0 where there are not so many, are whole blocks
whole_less : (b n c : ℕ) → n % b ≡ 0 → (n - c * b) % b ≡ 0
whole_less b n c whole =
    by_test (leb (c * b) n)
    (λ t.
    let enough = leb-true (c * b) n t in
    let back : n - c * b + c * b ≡ n = omega arith in
    sym (add-mul-mod_self_right (n - c * b) c b) ∙ ap (λ k. k % b) back ∙ whole)
    (λ t. let few = leb-false (c * b) n t in let none : n - c * b ≡ 0 = omega arith in rw none (zero-mod b))

pub less_ok : (b n region c : ℕ) → size_ok b n region ≡ true → size_ok b (n - c * b) region ≡ true
unfolding size_ok
less_ok b n region c e =
    let whole = eqb-true (n % b) 0 (and_left (eqb (n % b) 0) _ e) in
    let within = leb-true n region (and_right (eqb (n % b) 0) _ e) in
    rw (eq-eqb ((n - c * b) % b) 0 (whole_less b n c whole)) (le-leb (n - c * b) region (omega arith))

region_is : (region a : ℕ) → region_ok region a ≡ true → (alignment_ok a ≡ true) × (0 < region) × (region % (2 * a) ≡ 0) × (region ≤ 1099511627776)
unfolding region_ok
region_is region a e =
    let e1 = and_right (alignment_ok a) _ e in
    let e2 = and_right (ltb 0 region) _ e1 in
    let m = eqb (region % (2 * a)) 0 in
    (and_left (alignment_ok a) _ e, ltb-true 0 region (and_left (ltb 0 region) _ e1), eqb-true (region % (2 * a)) 0 (and_left m _ e2), leb-true region 1099511627776 (and_right m _ e2))

pub start_is : (start region : ℕ) (several : Bool) (a : ℕ) → start_ok start region several a ≡ true → (start % a ≡ 0) × (start + span_of region several ≤ top)
unfolding start_ok
start_is start region several a e =
    let m = eqb (start % a) 0 in
    (eqb-true (start % a) 0 (and_left m _ e), leb-true (start + span_of region several) top (and_right m _ e))

several_is : (several : Bool) (region : ℕ) → several_ok several region ≡ true → several ≡ true → map_region < region
unfolding several_ok
several_is several region e h = ltb-true map_region region (rw h at e)

pub shaped_is : (d : Device) → shaped_of d ≡ true → Shaped d
shaped_is d e =
    let c = d.config in
    let p = parts d e in
    let b = eqb-true c.block_size 4194304 p.block in
    let r = region_is c.region_size d.alignment p.region in
    let a = aligned d.alignment r.0 in
    let q = size_is c.block_size c.requested_size c.region_size p.requested in
    let u = size_is c.block_size c.usable_region_size c.region_size p.usable in
    let g = size_is c.block_size c.plugged_size c.region_size p.plugged in
    let s = start_is c.addr.0 c.region_size d.several d.alignment p.start in
    let m = spans c.region_size d.several in
    record {
      block_size = b;
      alignment = a;
      region_some = r.1;
      region_top = r.3;
      region_twice = r.2;
      region_blocks_lem = a.twice c.region_size r.2;
      requested_blocks = rw b at q.0;
      requested_in = q.1;
      usable_blocks_lem = rw b at u.0;
      usable_in = u.1;
      plugged_blocks_lem = rw b at g.0;
      plugged_in_lem = g.1;
      start_blocks = a.multiples c.addr.0 s.0;
      start_span = s.1;
      start_region = omega (arith, s.1, m.covers);
      rows_some = m.rows r.1;
      rows_few = m.few r.3;
      several_large = several_is d.several c.region_size p.several;
    }

-- ---- the shape of a config alone
-- every alignment is a multiple of the least
record Least (a : ℕ) : Type 0 where
  multiples : (n : ℕ) → n % a ≡ 0 → n % 134217728 ≡ 0
  twice : (n : ℕ) → n % (2 * a) ≡ 0 → n % (2 * 134217728) ≡ 0

least : (a : ℕ) → alignment_ok a ≡ true → Least a
least =
    by_alignment Least
    (record { multiples = λ n h. omega arith; twice = λ n h. omega arith })
    (record { multiples = λ n h. omega arith; twice = λ n h. omega arith })
    (record { multiples = λ n h. omega arith; twice = λ n h. omega arith })
    (record { multiples = λ n h. omega arith; twice = λ n h. omega arith })
    (record { multiples = λ n h. omega arith; twice = λ n h. omega arith })

region_least : (region : ℕ) → 0 < region → region % (2 * 134217728) ≡ 0 → region ≤ 1099511627776 → region_ok region 134217728 ≡ true
unfolding region_ok alignment_ok
region_least region p m t = simp (lt-ltb _ _ p, m, le-leb _ _ t)

start_least : (start region : ℕ) → start % 134217728 ≡ 0 → start + region ≤ top → start_ok start region false 134217728 ≡ true
unfolding start_ok span_of
start_least start region m t = simp (m, le-leb _ _ t)

-- every shaped device's config has it
pub config-shaped_of : (d : Device) → shaped_of d ≡ true → config_shaped_of d.config ≡ true
unfolding config_shaped_of several_ok pending_ok
config-shaped_of d e =
    let c = d.config in
    let p = parts d e in
    let n = shaped_is d e in
    let r = region_is c.region_size d.alignment p.region in
    let s = start_is c.addr.0 c.region_size d.several d.alignment p.start in
    let l = least d.alignment r.0 in
    whole (of_config c)
    (record {
      block = p.block;
      region = region_least c.region_size r.1 (l.twice c.region_size r.2) r.3;
      requested = p.requested;
      usable = p.usable;
      plugged = p.plugged;
      start = start_least c.addr.0 c.region_size (l.multiples c.addr.0 s.0) n.start_region;
      several = refl;
      pending = refl;
    })

-- and it says the same numbers
pub config_shaped_is : (c : VirtioMemConfig) → config_shaped_of c ≡ true → Shaped (of_config c)
unfolding config_shaped_of
config_shaped_is c e = shaped_is (of_config c) e

-- ---- the shape as `shaped` tests it
-- the tests that take a part of the shape together with another
pub record Tested (d : Device) : Type 0 where
  pub alignment : alignment_ok d.alignment ≡ true
  pub blocks : blocks_ok d.config.block_size d.config.requested_size d.config.usable_region_size d.config.plugged_size ≡ true
  pub inside : inside_ok d.config.requested_size d.config.usable_region_size d.config.plugged_size d.config.region_size ≡ true
  pub start : d.config.addr.0 % d.alignment ≡ 0

pub tested : (d : Device) → Parts d → Tested d
tested d p =
    let c = d.config in
    let q = size_is c.block_size c.requested_size c.region_size p.requested in
    let u = size_is c.block_size c.usable_region_size c.region_size p.usable in
    let g = size_is c.block_size c.plugged_size c.region_size p.plugged in
    record {
      alignment = (region_is c.region_size d.alignment p.region).0;
      blocks = simp (q.0, u.0, g.0);
      inside = simp (le-leb _ _ q.1, le-leb _ _ u.1, le-leb _ _ g.1);
      start = (start_is c.addr.0 c.region_size d.several d.alignment p.start).0;
    }

-- one test that fails is enough
pub unshaped : (d : Device) (t : Bool) → (Parts d → t ≡ true) → t ≡ false → false ≡ shaped_of d
unshaped d t f e =
    by_test (shaped_of d)
    (λ s. let h : t ≡ true = f (parts d s) in absurd (let z : ◌≡◌ {A = ℕ} 0 1 = cc in omega arith))
    (λ s. sym s)

-- past the others, `rest_ok` is all that is left
pub rest_is : (d : Device) → eqb d.config.block_size 4194304 ≡ true → region_ok d.config.region_size d.alignment ≡ true → Tested d → shaped_of d ≡ rest_ok d.config.block_size d.config.addr.0 d.config.region_size d.several d.pending d.config.plugged_size
unfolding shaped_of start_ok size_ok rest_ok
rest_is d b r t =
    let c = d.config in
    let q = eqb (c.requested_size % c.block_size) 0 in
    let u = eqb (c.usable_region_size % c.block_size) 0 in
    let k = leb c.requested_size c.region_size in
    let l = leb c.usable_region_size c.region_size in
    let n = and_right q _ t.blocks in
    let j = and_right k _ t.inside in
    simp (b, r, and_left q _ t.blocks, and_left u _ n, and_right u _ n, and_left k _ t.inside, and_left l _ j, and_right l _ j, t.start)

and_true : (t : Bool) → (t && true) ≡ t
and_true true = refl
and_true false = refl

-- a single region that waits for nothing
pub single : (b start region plugged : ℕ) (several : Bool) (p : Pending) → (not several && is_idle p) ≡ true → rest_ok b start region several p plugged ≡ leb (start + region) top
unfolding rest_ok span_of several_ok pending_ok
single b start region plugged false Nothing e = and_true (leb (start + region) top)
single b start region plugged false (Create first last) e = absurd (let z : ◌≡◌ {A = ℕ} 0 1 = cc in omega arith)
single b start region plugged false (Discard first count status) e = absurd (let z : ◌≡◌ {A = ℕ} 0 1 = cc in omega arith)
single b start region plugged false (DiscardOne block status) e = absurd (let z : ◌≡◌ {A = ℕ} 0 1 = cc in omega arith)
single b start region plugged true p e = absurd (let z : ◌≡◌ {A = ℕ} 0 1 = cc in omega arith)

-- ---- the pending call in numbers
pub record RowsInside (d : Device) (first last : ℕ) : Type 0 where
  pub ordered : first ≤ last
  pub inside : last < map_regions d.config.region_size d.several

pub record UnplugInside (d : Device) (first count : ℕ) : Type 0 where
  pub inside : first + count ≤ blocks_in 4194304 d.config.region_size
  pub plugged : bytes_of 4194304 count ≤ d.config.plugged_size

module _ (d : Device) (e : shaped_of d ≡ true) where
  pub pending_is : (p : Pending) → d.pending ≡ p → pending_ok p 4194304 d.config.region_size d.several d.config.plugged_size ≡ true
  pending_is p h =
      let b = eqb-true d.config.block_size 4194304 (parts d e).block in
      rw (h, b) at (parts d e).pending

  pub create_is : (first last : ℕ) → d.pending ≡ Create first last → RowsInside d first last
  unfolding pending_ok
  create_is first last h =
      let t = pending_is (Create first last) h in
      record {
        ordered = leb-true first last (and_left (leb first last) _ t);
        inside = ltb-true last (map_regions d.config.region_size d.several) (and_right (leb first last) _ t);
      }

  pub discard_is : (first count : ℕ) (status : GuestAddr) → d.pending ≡ Discard first count status → UnplugInside d first count
  unfolding pending_ok
  discard_is first count status h =
      let t = pending_is (Discard first count status) h in
      let i = leb (first + count) (blocks_in 4194304 d.config.region_size) in
      record {
        inside = leb-true (first + count) (blocks_in 4194304 d.config.region_size) (and_left i _ t);
        plugged = leb-true (bytes_of 4194304 count) d.config.plugged_size (and_right i _ t);
      }

  pub discard_one_is : (block : ℕ) (status : GuestAddr) → d.pending ≡ DiscardOne block status → block < blocks_in 4194304 d.config.region_size
  unfolding pending_ok
  discard_one_is block status h =
      ltb-true block (blocks_in 4194304 d.config.region_size) (pending_is (DiscardOne block status) h)

  -- ---- which changes keep the shape
  pub changed_keeps : (start usable plugged requested : ℕ) (placed : Bool) (p : Pending) → start_ok start d.config.region_size d.several d.alignment ≡ true → size_ok d.config.block_size usable d.config.region_size ≡ true → size_ok d.config.block_size plugged d.config.region_size ≡ true → size_ok d.config.block_size requested d.config.region_size ≡ true → pending_ok p d.config.block_size d.config.region_size d.several plugged ≡ true → shaped_of (device_with d (config_with d.config start usable plugged requested) placed p) ≡ true
  changed_keeps start usable plugged requested placed p s u g q t =
      let o = parts d e in
      whole (device_with d (config_with d.config start usable plugged requested) placed p)
      (record { block = o.block; region = o.region; requested = q; usable = u; plugged = g; start = s; several = o.several; pending = t })

  pub start_keeps : (start : ℕ) → start_ok start d.config.region_size d.several d.alignment ≡ true → shaped_of (start_to start d) ≡ true
  start_keeps start s =
      let c = d.config in
      let o = parts d e in
      changed_keeps start c.usable_region_size c.plugged_size c.requested_size d.placed d.pending s o.usable o.plugged o.requested o.pending

  module _ (n : ℕ) (m : n % 4194304 ≡ 0) (l : n ≤ d.config.region_size) where
    fits_region : size_ok d.config.block_size n d.config.region_size ≡ true
    fits_region = size_ok_lem d.config.block_size n d.config.region_size (eqb-true d.config.block_size 4194304 (parts d e).block) m l

    pub requested_keeps : shaped_of (requested_to n d) ≡ true
    requested_keeps =
        let c = d.config in
        let o = parts d e in
        changed_keeps c.addr.0 c.usable_region_size c.plugged_size n d.placed d.pending o.start o.usable o.plugged fits_region o.pending

    -- a pending unplug must still fit
    pub plugged_keeps : pending_ok d.pending d.config.block_size d.config.region_size d.several n ≡ true → shaped_of (plugged_to n d) ≡ true
    plugged_keeps t =
        let c = d.config in
        let o = parts d e in
        changed_keeps c.addr.0 c.usable_region_size n c.requested_size d.placed d.pending o.start o.usable fits_region o.requested t

  -- one block less, and nothing pending
  pub block_less_keeps : shaped_of (pending_to Nothing (plugged_to (d.config.plugged_size - d.config.block_size) d)) ≡ true
  unfolding pending_ok
  block_less_keeps =
      let c = d.config in
      let o = parts d e in
      let one : 1 * c.block_size ≡ c.block_size = omega arith in
      changed_keeps c.addr.0 c.usable_region_size (c.plugged_size - c.block_size) c.requested_size d.placed Nothing o.start o.usable
      (rw one at (less_ok c.block_size c.plugged_size c.region_size 1 o.plugged))
      o.requested refl
