-- SPDX-License-Identifier: Apache-2.0 AND BSD-3-Clause
-- `config_fields` meets its contract: the constant of the code is the table of the definitions, pair by pair.
use mathlib.Core.Path.{refl}
use Rattle.wire.specs.Layout.{config_fields}
use Rattle.wire.proofs.config_fields.Goals as goal

pub returns : goal.returns
unfolding config_fields
returns c = refl
