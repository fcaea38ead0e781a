-- SPDX-License-Identifier: Apache-2.0 AND BSD-3-Clause
-- `words::decode` meets its contract, test by test and then field by field.
use Rattle.std.specs.Prelude.{Some, None}
use Prim.Native.Nat.{ℕ, ◌≤◌}
use mathlib.Core.Path.{◌≡◌, sym, ◌∙◌}
use mathlib.Core.Bool.{Bool, false}
use lib.Dec.{leb, eqb}
use borrow.Author.Tests.{le-leb, lt-leb, leb-true}
use Rattle.units.proofs.Tests.{by_test}
use Rattle.words.proofs.Laws.{no_u16, a_u16, Fits, unfit, fit, known, unknown}
use Rattle.words.specs.Record.{word, flag_of, is_record, record_of, decoded_of}
use Rattle.words.proofs.decode.Goals as goal

-- a flag, where it is 0 or 1
no_flag : (w : ℕ) → None ≡ flag_of w → leb w 1 ≡ false
no_flag w e = by_test (leb w 1) (λ t. let q = simp t at e in absurd (cc)) (λ t. t)

a_flag : (w : ℕ) (flag : Bool) → Some flag ≡ flag_of w → (w ≤ 1) × (eqb w 1 ≡ flag)
a_flag w flag e = by_test (leb w 1) (λ t. let q = simp t at e in (leb-true w 1 t, cc)) (λ t. let q = simp t at e in absurd (cc))

pub returns-in_default : goal.returns-in_default
unfolding decoded_of is_record
returns-in_default c = simp (lt-leb 15 _ c.in_default.len_below)

pub returns-in_err-ok : goal.returns-in_err-ok
returns-in_err-ok c = c.from_residual.ensures ∙ unfit c.args.words.now _ (λ f. le-leb _ _ f.node) (no_u16 _ _ c.try_from.ensures c.in_err-ok.ensures.value)

pub returns-in_err-flag_of : goal.returns-in_err-flag_of
returns-in_err-flag_of c = c.from_residual-in_err-flag_of.ensures ∙ unfit c.args.words.now _ (λ f. le-leb _ _ f.several) (no_flag _ c.in_err-flag_of.ensures)

pub returns-in_err-flag_of-2 : goal.returns-in_err-flag_of-2
returns-in_err-flag_of-2 c = c.from_residual-in_err-flag_of-2.ensures ∙ unfit c.args.words.now _ (λ f. le-leb _ _ f.placed) (no_flag _ c.in_err-flag_of-2.ensures)

pub returns-in_err-call_of : goal.returns-in_err-call_of
returns-in_err-call_of c = c.from_residual-in_err-call_of.ensures ∙ unfit c.args.words.now _ (λ f. f.pending) (unknown _ _ _ _ (sym c.in_err-call_of.ensures))

pub returns : goal.returns
unfolding record_of
returns c =
    let ws = c.args.words.now in
    let node = a_u16 (word ws 1) c.in_ok-ok.field-0 _ c.try_from.ensures c.in_ok-ok.ensures.value in
    let several = a_flag (word ws 8) c.in_ok-flag_of.field-0 c.in_ok-flag_of.ensures in
    let placed = a_flag (word ws 10) c.in_ok-flag_of-2.field-0 c.in_ok-flag_of-2.ensures in
    let call = known (word ws 11) (word ws 12) (word ws 13) (word ws 14) c.in_ok-call_of.field-0 (sym c.in_ok-call_of.ensures) in
    let fits : Fits ws = record {
      long = c.in-len15-up.len_at_least;
      node = node.0;
      several = several.0;
      placed = placed.0;
      pending = call.0;
    } in
    rw (fit ws fits, call.1, several.1, placed.1, node.1)
