-- SPDX-License-Identifier: Apache-2.0 AND BSD-3-Clause
-- `count_of` meets its contract.
use Prim.Native.Nat.{◌≤◌, min}
use mathlib.Core.Path.{◌≡◌, ap, ◌∙◌}
use native.Mathlib.Omega.{arith}
use Rattle.units.specs.Numbers.{blocks_in, map_region}
use Rattle.driver.specs.Plan.{limit_of}
use Rattle.driver.proofs.Laws.{border, per_some, stop_from}
use Rattle.driver.proofs.count_of.Goals as goal

pub overflow_sub-stop : goal.overflow_sub-stop
overflow_sub-stop c =
    let a = c.args in
    let b = border a.first (blocks_in a.block_size map_region) (per_some a.block_size c.requires.block_size_nonzero.0 c.requires.block_size_nonzero.1) in
    let h : a.first ≤ limit_of a.block_size a.usable a.first = omega (arith, b.above, c.requires.first_bound.1) in
    let l : c.min.result ≡ limit_of a.block_size a.usable a.first = c.min.ensures ∙ ap (min (blocks_in a.block_size a.usable)) c.border_after-border.ensures in
    let s = rw l at c.stop_at-stop.ensures in
    rw s (stop_from _ a.first (limit_of a.block_size a.usable a.first) h)

pub returns : goal.returns
returns c =
    let a = c.args in
    let l : c.min.result ≡ limit_of a.block_size a.usable a.first = c.min.ensures ∙ ap (min (blocks_in a.block_size a.usable)) c.border_after-border.ensures in
    let s = rw l at c.stop_at-stop.ensures in
    rw s at c.min-2.ensures
