-- SPDX-License-Identifier: Apache-2.0 AND BSD-3-Clause
-- Reading what was written gives back the fields.
use Rattle.std.specs.Prelude.{Result, Ok}
use Prim.Native.Nat.{ℕ, ◌+◌, ◌≤◌, ◌<◌, ◌^◌}
use mathlib.Core.Path.{◌≡◌, ap, ◌∙◌}
use mathlib.Core.List.{List}
use lib.ListN.{length, drop}
use Rattle.wire.specs.declared.VirtioMemReq.{VirtioMemReq}
use Rattle.wire.specs.declared.VirtioMemResp.{VirtioMemResp}
use Rattle.wire.specs.declared.VirtioMemConfig.{VirtioMemConfig}
use Rattle.little_endian.specs.Bytes.{part, put}
use Rattle.wire.specs.Layout.{request_at, response_bytes, config_bytes}
use Rattle.little_endian.proofs.Laws.{part-put}
use Rattle.wire.proofs.Laws.{request_part, length_response, length_config}
use Rattle.wire.proofs.Standard.{request, request_size}
use Rattle.refusal.specs.declared.Refusal.{Refusal}
use Rattle.driver.specs.Text.{request_bytes, Wrote, ReadsResponse, ReadsConfig, ConfigFits}

-- a text that was written where it fits stands there
written : (xs : List ℕ) (at : ℕ) (ys : List ℕ) (n : ℕ) → length ys ≡ n → at + n ≤ length xs → part (put xs at ys) at n ≡ ys
written xs at ys n e h = rw e at (part-put xs at ys (rw e h))

-- ---- the device reads the request that the driver wrote
pub request_back : (xs : List ℕ) (at : ℕ) (q : VirtioMemReq) → at + 24 ≤ length xs → q.req_type < 256 ^ 2 → q.addr.0 < 256 ^ 8 → q.nb_blocks < 256 ^ 2
    → request_at (put xs at (request_bytes q)) at ≡ q
request_back xs at q h t a n =
    request_part (put xs at (request_bytes q)) at
    ∙ ap (λ (l : List ℕ). request_at l 0) (written xs at (request_bytes q) 24 (request_size q.req_type 0 0 0 q.addr.0 q.nb_blocks 0 0 0) h)
    ∙ request q.req_type 0 0 0 q.addr.0 q.nb_blocks 0 0 0 t a n

pub wrote_back : (q : VirtioMemReq) (entry exit : List ℕ) → Wrote q entry exit 0 → q.req_type < 256 ^ 2 → q.addr.0 < 256 ^ 8 → q.nb_blocks < 256 ^ 2 → 24 ≤ length entry → request_at exit 0 ≡ q
wrote_back q entry exit w t a n h = ap (λ (l : List ℕ). request_at l 0) (w.whole h).1 ∙ request_back entry 0 q h t a n

-- ---- the driver reads the response that the device wrote
pub response_back : (xs : List ℕ) (at : ℕ) (v : VirtioMemResp) → at + 10 ≤ length xs → v.resp_type ≤ 3 → v.state ≤ 2
    → (r : Result VirtioMemResp Refusal) → ReadsResponse (drop at (put xs at (response_bytes v))) r → r ≡ Ok v
unfolding part
response_back xs at v h t s r p =
    p.only v (record { text = written xs at (response_bytes v) 10 (length_response v) h; type_known = t; state_known = s })

-- ---- the driver reads the config that the device wrote
pub config_back : (xs : List ℕ) (c : VirtioMemConfig) → 56 ≤ length xs → ConfigFits c
    → (r : Result VirtioMemConfig Refusal) → ReadsConfig (put xs 0 (drop 0 (config_bytes c))) r → r ≡ Ok c
unfolding part
config_back xs c h f r p = p.only c (record { text = written xs 0 (config_bytes c) 56 (length_config c) h; fits = f })
