-- SPDX-License-Identifier: Apache-2.0 AND BSD-3-Clause
-- `spans::created_size` meets its contract.
use Rattle.resize.specs.Resize.{creation_size}
use native.Mathlib.Omega.{arith}
use Rattle.spans.proofs.created_size.Goals as goal

pub returns : goal.returns
unfolding creation_size
returns c =
    let sum = c.saturating_add.ensures in
    let before = c.of_map_region-others.ensures in
    let gap = c.saturating_sub.ensures in
    rw (← c.last_size.ensures, ← gap) (omega arith)
