-- SPDX-License-Identifier: Apache-2.0 AND BSD-3-Clause
-- `record::shaped` meets its contract: a test that fails is a part of the shape, and past the others `rest_ok` is what is left.
use Prim.Native.Nat.{◌%◌}
use mathlib.Core.Bool.{true, not, ◌&&◌}
use mathlib.Core.Path.{◌≡◌, sym, ◌∙◌}
use native.Mathlib.Omega.{arith}
use lib.Dec.{eqb}
use borrow.Author.Tests.{eq-eqb, ne_eqb}
use Rattle.units.proofs.Tests.{flag}
use Rattle.record.proofs.Laws.{tested, aligned, unshaped, rest_is, single}
use Rattle.record.specs.Shape.{shaped_of, is_idle}
use Rattle.record.specs.Tests.{rest_ok}
use Rattle.record.proofs.shaped.Goals as goal
use Rattle.record.proofs.shaped.Goals.{Else-start-alignment-ne0}

pub returns-then-not-alignment_ok : goal.returns-then-not-alignment_ok
returns-then-not-alignment_ok c =
    unshaped c.args.d _ (λ p. (tested _ p).alignment) (flag _ _ _ c.alignment_ok.ensures c.if-not-alignment_ok.true)

pub region_ok-requires : goal.region_ok-requires
region_ok-requires c = flag _ _ _ c.alignment_ok.ensures c.if-not-alignment_ok.false

pub returns-then-not-region_ok : goal.returns-then-not-region_ok
returns-then-not-region_ok c =
    unshaped c.args.d _ (λ p. p.region) (flag _ _ _ c.region_ok.ensures c.if-not-region_ok.true)

pub returns-then-block_size-ne-BLOCK_SIZE : goal.returns-then-block_size-ne-BLOCK_SIZE
returns-then-block_size-ne-BLOCK_SIZE c =
    unshaped c.args.d _ (λ p. p.block) (ne_eqb _ _ c.if-block_size-ne-BLOCK_SIZE.true)

pub blocks_ok-requires : goal.blocks_ok-requires
blocks_ok-requires c = let e = c.if-block_size-ne-BLOCK_SIZE.false in omega arith

pub returns-then-not-blocks_ok : goal.returns-then-not-blocks_ok
returns-then-not-blocks_ok c =
    unshaped c.args.d _ (λ p. (tested _ p).blocks) (flag _ _ _ c.blocks_ok.ensures c.if-not-blocks_ok.true)

pub returns-then-not-inside_ok : goal.returns-then-not-inside_ok
returns-then-not-inside_ok c =
    unshaped c.args.d _ (λ p. (tested _ p).inside) (flag _ _ _ c.inside_ok.ensures c.if-not-inside_ok.true)

pub nonzero_rem-start : goal.nonzero_rem-start
nonzero_rem-start c =
    let h = aligned _ (flag _ _ _ c.alignment_ok.ensures c.if-not-alignment_ok.false) in
    omega arith

pub returns-then-start-alignment-ne0 : goal.returns-then-start-alignment-ne0
returns-then-start-alignment-ne0 c =
    let d = c.args.d in
    unshaped d (eqb (d.config.addr.0 % d.alignment) 0) (λ p. eq-eqb _ _ (tested _ p).start) (ne_eqb _ _ c.if-start-alignment-ne0.true)

-- past the six tests
past_6 : (c : Else-start-alignment-ne0) → let d = c.args.d in shaped_of d ≡ rest_ok d.config.block_size d.config.addr.0 d.config.region_size d.several d.pending d.config.plugged_size
past_6 c =
    rest_is c.args.d
    (eq-eqb _ _ c.if-block_size-ne-BLOCK_SIZE.false)
    (flag _ _ _ c.region_ok.ensures c.if-not-region_ok.false)
    (record {
      alignment = flag _ _ _ c.alignment_ok.ensures c.if-not-alignment_ok.false;
      blocks = flag _ _ _ c.blocks_ok.ensures c.if-not-blocks_ok.false;
      inside = flag _ _ _ c.inside_ok.ensures c.if-not-inside_ok.false;
      start = c.if-start-alignment-ne0.false;
    })

pub returns-then-alone : goal.returns-then-alone
returns-then-alone c =
    let d = c.args.d in
    let alone : (not d.several && is_idle d.pending) ≡ true = cc in
    c.sum_within.ensures
    ∙ sym (past_6 (goal.at.returns-then-alone c).Else-start-alignment-ne0 ∙ single d.config.block_size d.config.addr.0 d.config.region_size d.config.plugged_size d.several d.pending alone)

pub returns : goal.returns
returns c = c.rest_ok.ensures ∙ sym (past_6 (goal.at.returns c).Else-start-alignment-ne0)
