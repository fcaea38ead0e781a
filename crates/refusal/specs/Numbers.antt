-- SPDX-License-Identifier: Apache-2.0 AND BSD-3-Clause
-- The refusal that a number is for (R1).
use Rattle.std.specs.Prelude.{ℕ, ◌≡◌, ◌<◌, ◌⊎◌, Result, MatchResult}
use Rattle.refusal.specs.declared.Refusal.{Refusal}
use Rattle.refusal.specs.declared.UnknownNumber.{UnknownNumber}
use Rattle.refusal.specs.Refusal.{number}

-- the refusal with this number; or none has it, since they are 1 to 19
abbrev pub Numbers : ℕ → Result Refusal UnknownNumber → Type 0
Numbers n r = MatchResult r (λ refusal. number refusal ≡ n) (λ unknown. (unknown.0 ≡ n) × ((n ≡ 0) ⊎ (19 < n)))
