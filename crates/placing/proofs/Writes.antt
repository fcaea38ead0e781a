-- SPDX-License-Identifier: Apache-2.0 AND BSD-3-Clause
-- Placing past its first tests: 3, 4, and what it writes and asks.
use Rattle.std.specs.Prelude.{Ok, Err, Result, ⊤}
use Prim.Native.Nat.{ℕ}
use mathlib.Core.Path.{◌≡◌, ap, ◌∙◌}
use mathlib.Core.Bool.{true, false, ◌&&◌}
use mathlib.Core.List.{List, []}
use native.Mathlib.Omega.{arith}
use lib.Dec.{eqb}
use Rattle.units.specs.Numbers.{blocks_in, map_regions}
use Rattle.units.proofs.Tests.{by_test}
use Rattle.bitmap.specs.Blocks.{blocks, Filled}
use Rattle.rows.specs.Rows.{rows_of, written, rows_laid}
use Rattle.rows.proofs.Laws.{laid_length}
use Rattle.rows.proofs.Words.{read_back}
use Rattle.refusal.specs.declared.Refusal.{Refusal}
use Rattle.refusal.specs.declared.Refusal.TheVariants.{WrongRange, WrongStart}
use Rattle.record.specs.declared.Device.{Device}
use Rattle.record.specs.Changes.{start_to}
use Rattle.record.specs.Shape.{start_ok}
use Rattle.step.specs.declared.Answered.{Answered}
use Rattle.step.specs.World.{World, answered_by, world_of}
use Rattle.step.specs.Step.{range_refusal, placed, placing}
use Rattle.step.specs.Promise.{Lent, on, Gives}
use Rattle.placing.proofs.Laws.{resizes_gives, placing-several, placing_single}
use Rattle.step.proofs.Giving.{as_answered}

pub start_good : (d : Device) (start size n : ℕ) → range_refusal d start size n ≡ Ok tt → start_ok start d.config.region_size d.several d.alignment ≡ true
unfolding range_refusal
start_good d start size n e =
    let region = d.config.region_size in
    by_test (start_ok start region d.several d.alignment) (λ u. u)
    (λ u. by_test (eqb n (map_regions region d.several) && eqb size region)
    (λ t. never WrongStart (rw (t, u) at e))
    (λ t. never WrongRange (rw t at e)))
  where
    never : {A : Type 0} (r : Refusal) → ◌≡◌ {A = Result ⊤ Refusal} (Err r) (Ok tt) → A
    never r q = let z : ◌≡◌ {A = ℕ} 0 1 = cc in absurd (omega arith)

module _ (d : Device) (before : Lent) (start : ℕ) (slots : List ℕ) where
  pub placed_gives : (after : Lent) (s : Answered) → Filled before.bitmap after.bitmap 0 (blocks_in d.config.block_size d.config.region_size) false → after.table ≡ written before.table (rows_laid (rows_of before.table) slots) → after.bytes ≡ [] → s ≡ answered_by (placing (world_of (start_to start d) [] after.table)) → Gives (placing (placed (on d before) start slots (blocks before.bitmap) (rows_of before.table))) before after s
  placed_gives after s f m b a =
      let rows = rows_laid (rows_of before.table) slots in
      let w = placed (on d before) start slots (blocks before.bitmap) (rows_of before.table) in
      let w0 : World = record { device = start_to start d; blocks = blocks []; rows = rows } in
      let back : rows_of after.table ≡ rows = rw m (read_back before.table rows (laid_length (rows_of before.table) slots)) in
      let told : s ≡ answered_by (placing w0) = rw back at a in
      by_test d.several
      (λ t. rw (placing-several w t) (resizes_gives _ w before after s (told ∙ ap answered_by (placing-several w0 t)) f.as_blocks m b))
      (λ t.
      rw (placing_single w t)
      (as_answered _ before after s (told ∙ ap answered_by (placing_single w0 t)) (record { marked = f.as_blocks; mapped = m; left = b })))
