-- SPDX-License-Identifier: Apache-2.0 AND BSD-3-Clause
-- `record::several_ok` meets its contract.
use mathlib.Core.Path.{refl}
use Rattle.record.specs.Shape.{several_ok}
use Rattle.record.proofs.several_ok.Goals as goal

pub returns : goal.returns
unfolding several_ok
returns c = refl
