-- SPDX-License-Identifier: Apache-2.0 AND BSD-3-Clause
-- A legal change in two parts, and two legal parts in one (10/12), over any block size.
use Rattle.std.specs.Prelude.{Option, Some, None, Ok}
use Prim.Native.Nat.{ℕ, ◌+◌, ◌/◌, ◌%◌, ◌≤◌, ◌<◌}
use mathlib.Core.Path.{◌≡◌, refl, sym, ap, ◌∙◌}
use mathlib.Core.Bool.{Bool, true, false, not}
use mathlib.Core.List.{List}
use native.Mathlib.Nat.{add-mul, mul-pos, add-mul-mod_self_right, add-mul-div_right}
use native.Mathlib.Omega.{arith}
use borrow.Author.Tests.{le-ltb}
use Rattle.units.specs.declared.RegionOffset.{RegionOffset}
use Rattle.units.specs.declared.HostAddr.{HostAddr}
use Rattle.units.specs.Numbers.{top, bytes_of, blocks_in, map_region}
use Rattle.units.proofs.Tests.{and_left, and_right}
use Rattle.bitmap.specs.Blocks.{all_are, fill}
use Rattle.bitmap.proofs.Laws.{all_split, fill_after}
use Rattle.rows.specs.declared.MapRow.{MapRow}
use Rattle.rows.specs.Rows.{mapping_of}
use Rattle.change.specs.Change.{host_sum, host_in, host_of}
use Rattle.change.proofs.Laws.{sum_is, in_map_region, host_is, IsLegal}

-- ---- (d): s bytes and the t bytes behind them
sum_when : (base offset size : ℕ) → base + offset + size ≤ top → host_sum base offset size ≡ Ok (record { 0 = base + offset })
unfolding host_sum
sum_when base offset size h = rw (le-ltb top (base + offset + size) h)

-- in one mapping
module _ (offset s t : ℕ) (host : HostAddr) where
  in_first : (m : Option HostAddr) → host_in m offset (s + t) ≡ Ok host → host_in m offset s ≡ Ok host
  unfolding host_in
  in_first (Some base) e =
      let p = sum_is base.0 offset (s + t) host e in
      sum_when base.0 offset s (omega (arith, p.0)) ∙ ap Ok (sym p.1)
  in_first None e = let z : ◌≡◌ {A = ℕ} 0 1 = cc in absurd (omega arith)

  in_second : (m : Option HostAddr) → host_in m offset (s + t) ≡ Ok host → host_in m (offset + s) t ≡ Ok (record { 0 = host.0 + s })
  unfolding host_in
  in_second (Some base) e =
      let p = sum_is base.0 offset (s + t) host e in
      let h : host.0 ≡ base.0 + offset = ap (λ (x : HostAddr). x.0) p.1 in
      let w : base.0 + (offset + s) ≡ host.0 + s = omega arith in
      sum_when base.0 (offset + s) t (omega (arith, p.0)) ∙ ap (λ n. Ok (record { 0 = n })) w
  in_second None e = let z : ◌≡◌ {A = ℕ} 0 1 = cc in absurd (omega arith)

  in_joined : (m : Option HostAddr) (behind : HostAddr) → host_in m offset s ≡ Ok host → host_in m (offset + s) t ≡ Ok behind → host_in m offset (s + t) ≡ Ok host
  unfolding host_in
  in_joined (Some base) behind e f =
      let p = sum_is base.0 offset s host e in
      let q = sum_is base.0 (offset + s) t behind f in
      sum_when base.0 offset (s + t) (omega (arith, q.0)) ∙ ap Ok (sym p.1)
  in_joined None behind e f = let z : ◌≡◌ {A = ℕ} 0 1 = cc in absurd (omega arith)

-- in the map table
module _ (rows : List MapRow) (offset size : ℕ) (host : HostAddr) where
  within_region : offset % map_region + size ≤ map_region → host_in (mapping_of rows (offset / map_region)) (offset % map_region) size ≡ Ok host → host_of true rows offset size ≡ Ok host
  unfolding host_of
  within_region h e = rw (le-ltb map_region (offset % map_region + size) h) e

module _ (rows : List MapRow) (offset s t : ℕ) (host : HostAddr) where
  -- where the s bytes end before the border, the t bytes are of the same map region
  same_region : offset % map_region + s < map_region → ((offset + s) / map_region ≡ offset / map_region) × ((offset + s) % map_region ≡ offset % map_region + s)
  same_region h = (omega arith, omega arith)

  pub host_first : (several : Bool) → host_of several rows offset (s + t) ≡ Ok host → host_of several rows offset s ≡ Ok host
  unfolding host_of
  host_first true e =
      let p = in_map_region rows offset (s + t) host e in
      within_region rows offset s host (omega (arith, p.0)) (in_first (offset % map_region) s t host _ p.1)
  host_first false e = in_first offset s t host _ e

  pub host_second : (several : Bool) → 0 < t → host_of several rows offset (s + t) ≡ Ok host → host_of several rows (offset + s) t ≡ Ok (record { 0 = host.0 + s })
  unfolding host_of
  host_second true more e =
      let p = in_map_region rows offset (s + t) host e in
      let r = same_region (omega (arith, p.0)) in
      within_region rows (offset + s) t _ (omega (arith, p.0)) (rw (r.0, r.1) (in_second (offset % map_region) s t host _ p.1))
  host_second false more e = in_second offset s t host _ e

  pub host_joined : (several : Bool) (behind : HostAddr) → (several ≡ true → (offset + s) % map_region ≡ 0 → ⊥) → host_of several rows offset s ≡ Ok host → host_of several rows (offset + s) t ≡ Ok behind → host_of several rows offset (s + t) ≡ Ok host
  unfolding host_of
  host_joined true behind seam e f =
      let p = in_map_region rows offset s host e in
      let q = in_map_region rows (offset + s) t behind f in
      let r = same_region (before (seam refl) p.0) in
      within_region rows offset (s + t) host (omega (arith, q.0)) (in_joined (offset % map_region) s t host _ behind p.1 (rw (r.0, r.1) at q.1))
    where
      before : ((offset + s) % map_region ≡ 0 → ⊥) → offset % map_region + s ≤ map_region → offset % map_region + s < map_region
      before apart l = omega (arith, apart)
  host_joined false behind seam e f = in_joined offset s t host _ behind e f

-- ---- (b), (c) and (d) of k + m blocks, and of k and then m
module _ (b start usable : ℕ) (several : Bool) (addr k m : ℕ) (wanted : Bool) (bs : List Bool) (rows : List MapRow) (positive : 0 < b) (first : ℕ) (offset : RegionOffset) (host : HostAddr) where
  bytes : bytes_of b (k + m) ≡ bytes_of b k + bytes_of b m
  bytes = add-mul k m b

  -- the first k
  pub legal_first : 0 < k → IsLegal b start usable several addr (k + m) wanted bs rows first offset host → IsLegal b start usable several addr k wanted bs rows first offset host
  legal_first k-some l =
      let r = l.in_range in
      let e = bytes in
      let h = host_first rows offset.0 (bytes_of b k) (bytes_of b m) host several (rw e at l.host_at) in
      record {
        in_range = record { aligned = r.aligned; some = k-some; below_top = omega (arith, r.below_top); from_start = r.from_start; offset_is = r.offset_is; in_usable = omega (arith, r.in_usable) };
        first_is = l.first_is;
        not-wanted = and_left _ _ (sym (all_split bs first k m (not wanted)) ∙ l.not-wanted);
        host_at = h;
        hosted = host_is several rows offset.0 (bytes_of b k) host h;
      }

  -- then the other m, where those k are in the wanted state
  pub legal_second : 0 < m → IsLegal b start usable several addr (k + m) wanted bs rows first offset host
      → IsLegal b start usable several (addr + bytes_of b k) m wanted (fill bs first k wanted) rows (first + k) (record { 0 = offset.0 + bytes_of b k }) (record { 0 = host.0 + bytes_of b k })
  legal_second m-some l =
      let r = l.in_range in
      let e = bytes in
      let more : 0 < bytes_of b m = mul-pos m-some positive in
      let h = host_second rows offset.0 (bytes_of b k) (bytes_of b m) host several more (rw e at l.host_at) in
      record {
        in_range = record {
          aligned = add-mul-mod_self_right addr k b ∙ r.aligned;
          some = m-some;
          below_top = omega (arith, r.below_top);
          from_start = omega (arith, r.from_start);
          offset_is = omega (arith, r.from_start, r.offset_is);
          in_usable = omega (arith, r.in_usable);
        };
        first_is = ap (λ n. n + k) l.first_is ∙ sym (add-mul-div_right offset.0 k positive);
        not-wanted = rw (fill_after bs first k wanted (first + k) m (omega arith)) (and_right (all_are bs first k (not wanted)) _ (sym (all_split bs first k m (not wanted)) ∙ l.not-wanted));
        host_at = h;
        hosted = host_is several rows (offset.0 + bytes_of b k) (bytes_of b m) _ h;
      }

  -- and the other way, where with several regions no border of map regions lies between
  pub legal_joined : (second : ℕ) (offset' : RegionOffset) (host' : HostAddr) → (several ≡ true → (offset.0 + bytes_of b k) % map_region ≡ 0 → ⊥)
      → IsLegal b start usable several addr k wanted bs rows first offset host
      → IsLegal b start usable several (addr + bytes_of b k) m wanted (fill bs first k wanted) rows second offset' host'
      → IsLegal b start usable several addr (k + m) wanted bs rows first offset host
  legal_joined second offset' host' seam l l' =
      let r = l.in_range in
      let r' = l'.in_range in
      let e = bytes in
      let o : offset'.0 ≡ offset.0 + bytes_of b k = omega (arith, r.from_start, r.offset_is, r'.offset_is) in
      let f : second ≡ first + k = l'.first_is ∙ ap (blocks_in b) o ∙ add-mul-div_right offset.0 k positive ∙ ap (λ n. n + k) (sym l.first_is) in
      let h : host_of several rows offset.0 (bytes_of b (k + m)) ≡ Ok host = rw e (host_joined rows offset.0 (bytes_of b k) (bytes_of b m) host several host' seam l.host_at (rw o at l'.host_at)) in
      let n : all_are bs (first + k) m (not wanted) ≡ true = rw (f, fill_after bs first k wanted (first + k) m (omega arith)) at l'.not-wanted in
      record {
        in_range = record { aligned = r.aligned; some = omega (arith, r.some); below_top = omega (arith, r'.below_top); from_start = r.from_start; offset_is = r.offset_is; in_usable = omega (arith, r'.in_usable) };
        first_is = l.first_is;
        not-wanted = rw (all_split bs first k m (not wanted), l.not-wanted) n;
        host_at = h;
        hosted = host_is several rows offset.0 (bytes_of b (k + m)) host h;
      }

  -- which it then does not: a legal change of both has no border at the seam
  pub no_seam : 0 < k → 0 < m → several ≡ true → IsLegal b start usable several addr (k + m) wanted bs rows first offset host → (offset.0 + bytes_of b k) % map_region ≡ 0 → ⊥
  no_seam k-some m-some s l z =
      let e = bytes in
      let less : 0 < bytes_of b k = mul-pos k-some positive in
      let more : 0 < bytes_of b m = mul-pos m-some positive in
      omega (arith, l.hosted.one_map_region s)
