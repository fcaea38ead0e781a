-- SPDX-License-Identifier: Apache-2.0 AND BSD-3-Clause
-- `record::span_within` meets its contract: a span that passes 2^64 - 1 by itself passes it with the start.
use Prim.Native.Nat.{◌+◌, ◌*◌, ◌<◌, ◌≤◌}
use mathlib.Core.Path.{sym, ◌∙◌}
use native.Mathlib.Omega.{arith}
use borrow.Author.Tests.{lt-leb, leb-true, leb-false}
use Rattle.units.specs.Numbers.{top, map_region}
use Rattle.units.proofs.Tests.{flag}
use Rattle.record.proofs.Laws.{span_one, span_several}
use Rattle.record.specs.Shape.{span_of}
use Rattle.record.proofs.span_within.Goals as goal

pub returns-then-not-several : goal.returns-then-not-several
returns-then-not-several c = c.sum_within.ensures ∙ rw (span_one c.args.region c.args.several (rw c.if-not-several.true))

pub returns-then-not-product_within : goal.returns-then-not-product_within
returns-then-not-product_within c =
    let a = c.args in
    let h : top < c.map_regions-rows.result * map_region =
    leb-false (c.map_regions-rows.result * map_region) top (flag _ _ _ c.product_within.ensures c.if-not-product_within.true) in
    let r = c.map_regions-rows.ensures in
    let s = span_several a.region a.several (rw c.if-not-several.false) in
    sym (lt-leb (a.start + span_of a.region a.several) top (omega arith))

pub overflow_mul-rows : goal.overflow_mul-rows
overflow_mul-rows c =
    let h : c.map_regions-rows.result * map_region ≤ top =
    leb-true (c.map_regions-rows.result * map_region) top (flag _ _ _ c.product_within.ensures c.if-not-product_within.false) in
    omega arith

pub returns : goal.returns
returns c =
    let a = c.args in
    c.sum_within-2.ensures ∙ rw (span_several a.region a.several (rw c.if-not-several.false), c.map_regions-rows.ensures)
