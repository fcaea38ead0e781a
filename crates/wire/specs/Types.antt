-- SPDX-License-Identifier: Apache-2.0 AND BSD-3-Clause
-- The types of a request and their numbers (R7.4).
use Rattle.std.specs.Prelude.{ℕ, ◌<◌, ◌≡◌, Result, MatchResult}
use Rattle.wire.specs.declared.RequestType.{RequestType}
use Rattle.wire.specs.declared.RequestType.TheVariants.{Plug, Unplug, UnplugAll, State}
use Rattle.wire.specs.declared.UnknownType.{UnknownType}

abbrev pub type_number : RequestType → ℕ
type_number Plug = 0
type_number Unplug = 1
type_number UnplugAll = 2
type_number State = 3

-- the type with this number; or none has it, since those above 3 are none (R9.8)
abbrev pub Types : ℕ → Result RequestType UnknownType → Type 0
Types n r = MatchResult r (λ type. type_number type ≡ n) (λ unknown. (unknown.0 ≡ n) × (3 < n))
