-- SPDX-License-Identifier: Apache-2.0 AND BSD-3-Clause
-- Laws on the three layouts.
use Prim.Native.Nat.{ℕ, zero, suc, ◌+◌, ◌<◌}
use mathlib.Core.Path.{◌≡◌, refl}
use mathlib.Core.List.{List}
use native.Mathlib.Omega.{arith}
use lib.ListN.{length}
use Rattle.little_endian.specs.Bytes.{little_endian, part, put}
use Rattle.little_endian.proofs.Laws.{part-part}
use Rattle.wire.specs.declared.VirtioMemResp.{VirtioMemResp}
use Rattle.wire.specs.declared.VirtioMemConfig.{VirtioMemConfig}
use Rattle.wire.specs.Layout.{request_at, response_bytes, config_fields, config_values, fields_laid, config_bytes}

-- a request is its 24 bytes and nothing else
pub request_part : (xs : List ℕ) (at : ℕ) → request_at xs at ≡ request_at (part xs at 24) 0
unfolding request_at
request_part xs at =
    let t : part (part xs at 24) 0 2 ≡ part xs (at + 0) 2 = part-part xs at 24 0 2 (omega arith) in
    let a : part (part xs at 24) 8 8 ≡ part xs (at + 8) 8 = part-part xs at 24 8 8 (omega arith) in
    let n : part (part xs at 24) 16 2 ≡ part xs (at + 16) 2 = part-part xs at 24 16 2 (omega arith) in
    let z : at + 0 ≡ at = omega arith in
    cc

pub length_response : (r : VirtioMemResp) → length (response_bytes r) ≡ 10
unfolding response_bytes little_endian
length_response r = refl

pub length_config : (c : VirtioMemConfig) → length (config_bytes c) ≡ 56
unfolding config_bytes fields_laid put little_endian config_fields config_values
length_config c = refl

-- what holds of each of the eight fields
pub eight : (P : ℕ → Type 0) → P 0 → P 1 → P 2 → P 3 → P 4 → P 5 → P 6 → P 7 → (k : ℕ) → k < 8 → P k
eight P p₀ p₁ p₂ p₃ p₄ p₅ p₆ p₇ zero h = p₀
eight P p₀ p₁ p₂ p₃ p₄ p₅ p₆ p₇ (suc zero) h = p₁
eight P p₀ p₁ p₂ p₃ p₄ p₅ p₆ p₇ (suc (suc zero)) h = p₂
eight P p₀ p₁ p₂ p₃ p₄ p₅ p₆ p₇ (suc (suc (suc zero))) h = p₃
eight P p₀ p₁ p₂ p₃ p₄ p₅ p₆ p₇ (suc (suc (suc (suc zero)))) h = p₄
eight P p₀ p₁ p₂ p₃ p₄ p₅ p₆ p₇ (suc (suc (suc (suc (suc zero))))) h = p₅
eight P p₀ p₁ p₂ p₃ p₄ p₅ p₆ p₇ (suc (suc (suc (suc (suc (suc zero)))))) h = p₆
eight P p₀ p₁ p₂ p₃ p₄ p₅ p₆ p₇ (suc (suc (suc (suc (suc (suc (suc zero))))))) h = p₇
eight P p₀ p₁ p₂ p₃ p₄ p₅ p₆ p₇ (suc (suc (suc (suc (suc (suc (suc (suc k)))))))) h = absurd (omega arith)
