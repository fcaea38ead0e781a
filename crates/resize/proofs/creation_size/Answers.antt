-- SPDX-License-Identifier: Apache-2.0 AND BSD-3-Clause
-- `resize::creation_size` meets its contract: no row from i to last starts past the region's end, so nothing passes the region's size.
use mathlib.Core.Path.{sym, ◌∙◌}
use borrow.Author.Tests.{eq-eqb, ne_eqb}
use Rattle.resize.specs.Resize.{creation_size}
use Rattle.resize.proofs.creation_size.Goals as goal

pub returns-then-last-map_regions : goal.returns-then-last-map_regions
unfolding creation_size
returns-then-last-map_regions c = simp (eq-eqb _ _ (c.if-last-map_regions.true ∙ c.map_regions.ensures))

pub returns-else-last-map_regions : goal.returns-else-last-map_regions
unfolding creation_size
returns-else-last-map_regions c = simp (ne_eqb _ _ (λ e. c.if-last-map_regions.false (e ∙ sym c.map_regions.ensures)))
