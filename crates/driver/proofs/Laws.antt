-- SPDX-License-Identifier: Apache-2.0 AND BSD-3-Clause
-- The laws of `specs/Text.antt` and `specs/Plan.antt`.
use Rattle.std.specs.Prelude.{Option, Some, None, Ok, Err}
use Prim.Native.Nat.{ℕ, zero, suc, ◌+◌, ◌*◌, ◌/◌, ◌%◌, ◌^◌, ◌≤◌, ◌<◌}
use mathlib.Core.Path.{◌≡◌, refl, ap, ◌∙◌, sym, subst}
use mathlib.Core.Bool.{Bool, true, false}
use mathlib.Core.List.{List, [], ◌∷◌, ◌++◌}
use native.Mathlib.Nat.{div-add-mod', div-mul-le_self, mod-lt, le-div_iff_mul-le}
use native.Mathlib.Numerals.{add-one}
use native.Mathlib.Omega.{arith}
use lib.ListN.{length, take, drop, get_or, length-take}
use lib.Seq.{take-add, drop-drop}
use Rattle.units.specs.Numbers.{bytes_of, blocks_in, map_region}
use Rattle.bitmap.specs.Blocks.{next_set, next_clear}
use Rattle.bitmap.proofs.Laws.{next_at}
use Rattle.wire.specs.declared.VirtioMemReq.{VirtioMemReq}
use Rattle.wire.specs.declared.VirtioMemResp.{VirtioMemResp}
use Rattle.wire.specs.declared.VirtioMemConfig.{VirtioMemConfig}
use Rattle.little_endian.specs.Bytes.{value, little_endian, part, put}
use Rattle.wire.specs.Layout.{response_bytes, config_bytes}
use Rattle.wire.specs.Standard.{virtio_mem_req, virtio_mem_config}
use Rattle.little_endian.proofs.Laws.{length-little_endian, value_fits, value_below, put_append, part-part}
use Rattle.wire.proofs.Laws.{length_response, length_config}
use Rattle.wire.proofs.Standard.{config}
use Rattle.refusal.specs.declared.Refusal.TheVariants.{BadBytes}
use Rattle.driver.specs.Text.{request_bytes, Reads, ResponseText, ReadsResponse, ConfigText, ReadsConfig}
use Rattle.driver.specs.Plan.{limit_of, stop_at, count_of}

-- ---- what is read
-- 16, where no value has these bytes
pub none_read : {V : Type 0} {IsText : V → Type 0} → ((v : V) → IsText v → ⊥) → Reads IsText (Err BadBytes)
none_read f = record { read = λ v e. cc; only = λ v t. absurd (f v t); refused = λ why e. cc }

-- the only value that has them
pub one_read : {V : Type 0} {IsText : V → Type 0} (v : V) → IsText v → ((w : V) → IsText w → v ≡ w) → Reads IsText (Ok v)
one_read {V} {IsText} v t same =
    record {
      read = λ w e. let q : v ≡ w = cc in subst IsText q t;
      only = λ w u. ap Ok (same w u);
      refused = λ why e. cc;
    }

-- ---- bytes and the number that they mean
-- bytes are those of their number
pub part_back : (xs : List ℕ) → ((i : ℕ) → get_or xs i 0 < 256) → (at n : ℕ) → at + n ≤ length xs → part xs at n ≡ little_endian n (value (part xs at n))
unfolding part little_endian value
part_back [] h at zero l = refl
part_back [] h at (suc n) l = absurd (omega arith)
part_back (x ∷ xs) h zero zero l = refl
part_back (x ∷ xs) h zero (suc n) l =
    let u : x < 256 = h 0 in
    let r = part_back xs (λ i. h (suc i)) 0 n (omega arith) in
    let m : (x + 256 * value (take n xs)) % 256 ≡ x = omega arith in
    let d : (x + 256 * value (take n xs)) / 256 ≡ value (take n xs) = omega arith in
    rw (m, d, ← r)
part_back (x ∷ xs) h (suc at) n l = part_back xs (λ i. h (suc i)) at n (omega arith)

-- a part of the first m bytes
pub part_first : (xs : List ℕ) (m at n : ℕ) → at + n ≤ m → part xs at n ≡ part (take m xs) at n
unfolding part
part_first xs m at n h = let z : 0 + at ≡ at = omega arith in sym (rw z at (part-part xs 0 m at n h))

all_of : (xs : List ℕ) → take 56 xs ≡ part xs 0 56
unfolding part
all_of xs = refl

-- ---- the request
request_words : (q : VirtioMemReq) → q.req_type < 65536 → q.nb_blocks < 65536
    → request_bytes q ≡ little_endian 8 q.req_type ++ (little_endian 8 q.addr.0 ++ little_endian 8 q.nb_blocks)
unfolding virtio_mem_req little_endian
request_words q t n =
    let z : q.req_type / 256 / 256 ≡ 0 = omega arith in
    let y : q.nb_blocks / 256 / 256 ≡ 0 = omega arith in
    rw (z, y)

pub request_put : (xs : List ℕ) (q : VirtioMemReq) → q.req_type < 65536 → q.nb_blocks < 65536 → {ys zs ws : List ℕ}
    → ys ≡ put xs 0 (little_endian 8 q.req_type) → zs ≡ put ys 8 (little_endian 8 q.addr.0) → ws ≡ put zs 16 (little_endian 8 q.nb_blocks)
    → ws ≡ put xs 0 (request_bytes q)
request_put xs q t n e f g =
    let l : length (little_endian 8 q.req_type) ≡ 8 = length-little_endian 8 q.req_type in
    let m : length (little_endian 8 q.addr.0) ≡ 8 = length-little_endian 8 q.addr.0 in
    rw (request_words q t n, put_append, l, ← e, put_append, m, ← f) g

-- ---- the response
response_words : (v : VirtioMemResp) → v.resp_type < 65536 → response_bytes v ≡ little_endian 8 v.resp_type ++ little_endian 2 v.state
unfolding response_bytes little_endian
response_words v h = let z : v.resp_type / 256 / 256 ≡ 0 = omega arith in rw z

-- what the bytes of a response mean
pub record ResponseMeans (xs : List ℕ) (v : VirtioMemResp) : Type 0 where
  pub long : 10 ≤ length xs
  pub type_is : value (part xs 0 8) ≡ v.resp_type
  pub state_is : value (part xs 8 2) ≡ v.state

type_part : (v : VirtioMemResp) → v.resp_type < 65536 → part (response_bytes v) 0 8 ≡ little_endian 8 v.resp_type
unfolding part response_bytes little_endian
type_part v h = let z : v.resp_type / 256 / 256 ≡ 0 = omega arith in rw z

state-part : (v : VirtioMemResp) → part (response_bytes v) 8 2 ≡ little_endian 2 v.state
unfolding part response_bytes little_endian
state-part v = refl

pub response_means : (xs : List ℕ) (v : VirtioMemResp) → ResponseText xs v → ResponseMeans xs v
response_means xs v t =
    let l = ap length t.text ∙ length_response v in
    let n = length-take 10 xs in
    let u = t.type_known in
    let w = t.state_known in
    let p = ap (λ (ys : List ℕ). part ys 0 8) t.text in
    let q = ap (λ (ys : List ℕ). part ys 8 2) t.text in
    record {
      long = omega arith;
      type_is = ap value (part_first xs 10 0 8 (omega arith) ∙ p ∙ type_part v (omega arith)) ∙ value_fits 8 v.resp_type (omega arith);
      state_is = ap value (part_first xs 10 8 2 (omega arith) ∙ q ∙ state-part v) ∙ value_fits 2 v.state (omega arith);
    }

pub response_text_lem : (xs : List ℕ) (v : VirtioMemResp) → ((i : ℕ) → get_or xs i 0 < 256) → ResponseMeans xs v → v.resp_type ≤ 3 → v.state ≤ 2 → ResponseText xs v
unfolding part
response_text_lem xs v h m t s =
    let l = m.long in
    let e : take 10 xs ≡ part xs 0 8 ++ part xs 8 2 = take-add 8 2 xs in
    let p = part_back xs h 0 8 (omega arith) in
    let q = part_back xs h 8 2 (omega arith) in
    record {
      text = e ∙ rw (response_words v (omega arith), p, q, m.type_is, m.state_is);
      type_known = t;
      state_known = s;
    }

same_response : (v w : VirtioMemResp) → v.resp_type ≡ w.resp_type → v.state ≡ w.state → v ≡ w
same_response v w a b =
    let e : ◌≡◌ {A = VirtioMemResp} (record { resp_type = v.resp_type; state = v.state }) (record { resp_type = w.resp_type; state = w.state }) = rw (a, b) in
    e

pub response_read : (xs : List ℕ) (v : VirtioMemResp) → ResponseText xs v → ReadsResponse xs (Ok v)
response_read xs v t =
    one_read v t
    (λ w u.
    let m = response_means xs v t in
    let n = response_means xs w u in
    let a : v.resp_type ≡ w.resp_type = sym m.type_is ∙ n.type_is in
    let b : v.state ≡ w.state = sym m.state_is ∙ n.state_is in
    same_response v w a b)

-- ---- the config: seven numbers of eight bytes, of which the node has its padding above it
config_words : (c : VirtioMemConfig) → c.node_id < 65536
    → config_bytes c
    ≡ little_endian 8 c.block_size
    ++ (little_endian 8 c.node_id
    ++ (little_endian 8 c.addr.0
    ++ (little_endian 8 c.region_size
    ++ (little_endian 8 c.usable_region_size
    ++ (little_endian 8 c.plugged_size ++ little_endian 8 c.requested_size)))))
unfolding virtio_mem_config little_endian
config_words c h = let z : c.node_id / 256 / 256 ≡ 0 = omega arith in config c ∙ rw z

pub record ConfigMeans (xs : List ℕ) (c : VirtioMemConfig) : Type 0 where
  pub long : 56 ≤ length xs
  pub node_two : c.node_id < 65536
  pub block_is : value (part xs 0 8) ≡ c.block_size
  pub node_is : value (part xs 8 8) ≡ c.node_id
  pub start_is : value (part xs 16 8) ≡ c.addr.0
  pub region_is : value (part xs 24 8) ≡ c.region_size
  pub usable_is : value (part xs 32 8) ≡ c.usable_region_size
  pub plugged_is : value (part xs 40 8) ≡ c.plugged_size
  pub requested_is : value (part xs 48 8) ≡ c.requested_size

-- the number at a place, where the text has v there
word_at : (xs : List ℕ) (c : VirtioMemConfig) (at v : ℕ) → at + 8 ≤ 56 → take 56 xs ≡ config_bytes c → part (config_bytes c) at 8 ≡ little_endian 8 v → v < 256 ^ 8 → value (part xs at 8) ≡ v
word_at xs c at v h t p f = ap value (part_first xs 56 at 8 h ∙ ap (λ (ys : List ℕ). part ys at 8) t ∙ p) ∙ value_fits 8 v f

pub config_means : (xs : List ℕ) (c : VirtioMemConfig) → ConfigText xs c → ConfigMeans xs c
unfolding part little_endian
config_means xs c t =
    let l = ap length t.text ∙ length_config c in
    let n = length-take 56 xs in
    let u : c.node_id < 65536 = t.fits.node in
    let e = config_words c u in
    let part_at : ℕ → List ℕ → List ℕ = λ at ys. part ys at 8 in
    record {
      long = omega arith;
      node_two = u;
      block_is = word_at xs c 0 c.block_size (omega arith) t.text (ap (part_at 0) e) t.fits.block;
      node_is = word_at xs c 8 c.node_id (omega arith) t.text (ap (part_at 8) e) (omega arith);
      start_is = word_at xs c 16 c.addr.0 (omega arith) t.text (ap (part_at 16) e) t.fits.start;
      region_is = word_at xs c 24 c.region_size (omega arith) t.text (ap (part_at 24) e) t.fits.region;
      usable_is = word_at xs c 32 c.usable_region_size (omega arith) t.text (ap (part_at 32) e) t.fits.usable;
      plugged_is = word_at xs c 40 c.plugged_size (omega arith) t.text (ap (part_at 40) e) t.fits.plugged;
      requested_is = word_at xs c 48 c.requested_size (omega arith) t.text (ap (part_at 48) e) t.fits.requested;
    }

part_step : (xs : List ℕ) (at m : ℕ) → part xs at (8 + m) ≡ part xs at 8 ++ part xs (at + 8) m
unfolding part
part_step xs at m = rw (← drop-drop 8 at xs) (take-add 8 m (drop at xs))

pub config_text : (xs : List ℕ) (c : VirtioMemConfig) → ((i : ℕ) → get_or xs i 0 < 256) → ConfigMeans xs c → ConfigText xs c
config_text xs c h m =
    let l = m.long in
    let word : (at v : ℕ) → at + 8 ≤ 56 → value (part xs at 8) ≡ v → part xs at 8 ≡ little_endian 8 v =
    λ at v g q. part_back xs h at 8 (omega arith) ∙ ap (little_endian 8) q in
    let w₀ = word 0 c.block_size (omega arith) m.block_is in
    let w₁ = word 8 c.node_id (omega arith) m.node_is in
    let w₂ = word 16 c.addr.0 (omega arith) m.start_is in
    let w₃ = word 24 c.region_size (omega arith) m.region_is in
    let w₄ = word 32 c.usable_region_size (omega arith) m.usable_is in
    let w₅ = word 40 c.plugged_size (omega arith) m.plugged_is in
    let w₆ = word 48 c.requested_size (omega arith) m.requested_is in
    let e₀ : part xs 0 56 ≡ part xs 0 8 ++ part xs 8 48 = part_step xs 0 48 in
    let e₁ : part xs 8 48 ≡ part xs 8 8 ++ part xs 16 40 = part_step xs 8 40 in
    let e₂ : part xs 16 40 ≡ part xs 16 8 ++ part xs 24 32 = part_step xs 16 32 in
    let e₃ : part xs 24 32 ≡ part xs 24 8 ++ part xs 32 24 = part_step xs 24 24 in
    let e₄ : part xs 32 24 ≡ part xs 32 8 ++ part xs 40 16 = part_step xs 32 16 in
    let e₅ : part xs 40 16 ≡ part xs 40 8 ++ part xs 48 8 = part_step xs 40 8 in
    let below : (at v : ℕ) → value (part xs at 8) ≡ v → v < 256 ^ 8 = λ at v q. rw (← q) (value_below xs h at 8) in
    record {
      text = all_of xs ∙ rw (config_words c m.node_two, e₀, e₁, e₂, e₃, e₄, e₅, w₀, w₁, w₂, w₃, w₄, w₅, w₆);
      fits = record {
        block = below 0 c.block_size m.block_is;
        node = m.node_two;
        start = below 16 c.addr.0 m.start_is;
        region = below 24 c.region_size m.region_is;
        usable = below 32 c.usable_region_size m.usable_is;
        plugged = below 40 c.plugged_size m.plugged_is;
        requested = below 48 c.requested_size m.requested_is;
      };
    }

same_config : (c d : VirtioMemConfig) → c.block_size ≡ d.block_size → c.node_id ≡ d.node_id → c.addr.0 ≡ d.addr.0 → c.region_size ≡ d.region_size → c.usable_region_size ≡ d.usable_region_size → c.plugged_size ≡ d.plugged_size → c.requested_size ≡ d.requested_size → c ≡ d
same_config c d f₀ f₁ f₂ f₃ f₄ f₅ f₆ =
    let e : ◌≡◌ {A = VirtioMemConfig} (record { block_size = c.block_size; node_id = c.node_id; addr = record { 0 = c.addr.0 }; region_size = c.region_size; usable_region_size = c.usable_region_size; plugged_size = c.plugged_size; requested_size = c.requested_size }) (record { block_size = d.block_size; node_id = d.node_id; addr = record { 0 = d.addr.0 }; region_size = d.region_size; usable_region_size = d.usable_region_size; plugged_size = d.plugged_size; requested_size = d.requested_size }) = rw (f₀, f₁, f₂, f₃, f₄, f₅, f₆) in
    e

pub config_read : (xs : List ℕ) (c : VirtioMemConfig) → ConfigText xs c → ReadsConfig xs (Ok c)
config_read xs c t =
    one_read c t
    (λ d u.
    let m = config_means xs c t in
    let n = config_means xs d u in
    let f₀ : c.block_size ≡ d.block_size = sym m.block_is ∙ n.block_is in
    let f₁ : c.node_id ≡ d.node_id = sym m.node_is ∙ n.node_is in
    let f₂ : c.addr.0 ≡ d.addr.0 = sym m.start_is ∙ n.start_is in
    let f₃ : c.region_size ≡ d.region_size = sym m.region_is ∙ n.region_is in
    let f₄ : c.usable_region_size ≡ d.usable_region_size = sym m.usable_is ∙ n.usable_is in
    let f₅ : c.plugged_size ≡ d.plugged_size = sym m.plugged_is ∙ n.plugged_is in
    let f₆ : c.requested_size ≡ d.requested_size = sym m.requested_is ∙ n.requested_is in
    same_config c d f₀ f₁ f₂ f₃ f₄ f₅ f₆)

-- ---- the plan
pub stop_from : (bs : List Bool) (first limit : ℕ) → first ≤ limit → first ≤ stop_at (next_set bs first limit) limit
stop_from bs first limit h = go (next_set bs first limit) refl
  where
    go : (x : Option ℕ) → next_set bs first limit ≡ x → first ≤ stop_at x limit
    go None e = h
    go (Some i) e = (next_at true bs first limit i e).from_on

pub stop_to : (bs : List Bool) (first limit : ℕ) → stop_at (next_set bs first limit) limit ≤ limit
stop_to bs first limit = go (next_set bs first limit) refl
  where
    go : (x : Option ℕ) → next_set bs first limit ≡ x → stop_at x limit ≤ limit
    go None e = omega arith
    go (Some i) e = omega (arith, (next_at true bs first limit i e).before_end)

pub record Border (first p : ℕ) : Type 0 where
  pub above : first < suc (first / p) * p
  pub near : suc (first / p) * p ≤ first + p
  pub next : (first / p + 1) * p ≡ suc (first / p) * p
  pub quotient : first / p ≤ first

pub border : (first p : ℕ) → 0 < p → Border first p
border first p h =
    let m = mod-lt first h in
    let e = div-add-mod' first p in
    let s : suc (first / p) * p ≡ p + first / p * p = omega arith in
    record { above = omega arith; near = omega arith; next = ap (λ n. n * p) (add-one (first / p)); quotient = small (first / p) p h (div-mul-le_self first p) }
  where
    small : (q p : ℕ) → 0 < p → q * p ≤ first → q ≤ first
    small zero p h l = omega arith
    small (suc q) (suc p) h l = omega arith
    small (suc q) zero h l = absurd (omega arith)

-- one block fits 2 GiB
pub per_some : (b : ℕ) → 0 < b → b ≤ map_region → 0 < blocks_in b map_region
per_some b p h = (le-div_iff_mul-le p).1 (omega arith)

-- a plug takes at most the blocks of 2 GiB
pub count_few : (b usable plugged requested : ℕ) (bs : List Bool) (first : ℕ) → 0 < blocks_in b map_region → count_of b usable plugged requested bs first ≤ blocks_in b map_region
count_few b usable plugged requested bs first h =
    let t = stop_to bs first (limit_of b usable first) in
    let n = border first (blocks_in b map_region) h in
    omega (arith, t, n.near)

-- where it starts, in bytes
pub record Starts (bs : List Bool) (b usable i : ℕ) : Type 0 where
  pub before_end : i < blocks_in b usable
  pub below : i < usable
  pub bytes : bytes_of b i ≤ usable

pub starts : (bs : List Bool) (b usable i : ℕ) → 0 < b → next_clear bs 0 (blocks_in b usable) ≡ Some i → Starts bs b usable i
starts bs b usable i p e =
    let f = (next_at false bs 0 (blocks_in b usable) i e).before_end in
    let q = (border usable b p).quotient in
    let l : i ≤ usable / b = omega arith in
    record { before_end = f; below = omega arith; bytes = (le-div_iff_mul-le p).0 l }
