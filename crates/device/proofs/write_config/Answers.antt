-- SPDX-License-Identifier: Apache-2.0 AND BSD-3-Clause
-- `device::write_config` meets its contract: 12 and nothing else is refused.
use mathlib.Core.Path.{refl}
use Rattle.units.proofs.Tests.{flag}
use Rattle.rows.specs.Rows.{rows_of, row_words}
use Rattle.bitmap.specs.Blocks.{blocks}
use Rattle.step.specs.Step.{step, write_config}
use Rattle.device.proofs.write_config.Goals as goal

pub returns-then-not-shaped : goal.returns-then-not-shaped
unfolding step write_config rows_of row_words blocks
returns-then-not-shaped c =
    rw (flag _ _ _ c.shaped.ensures c.if-not-shaped.true, c.refuse_as.ensures)
    (record { answered = refl; told = refl; recorded = refl; leaves = record { marked = refl; mapped = refl; left = refl } })

pub returns : goal.returns
unfolding step write_config rows_of row_words blocks
returns c =
    rw (flag _ _ _ c.shaped.ensures c.if-not-shaped.false)
    (record { answered = refl; told = refl; recorded = refl; leaves = record { marked = refl; mapped = refl; left = refl } })
