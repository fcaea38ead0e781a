-- SPDX-License-Identifier: Apache-2.0 AND BSD-3-Clause
-- `read_config` meets its contract. The loop's invariant: laying the fields that are left gives what laying all eight gives.
use Prim.Native.Nat.{ℕ, ◌+◌, ◌≤◌, ◌<◌}
use mathlib.Core.Path.{◌≡◌, refl, sym, ap, ◌∙◌}
use mathlib.Core.List.{List}
use native.Mathlib.Omega.{arith}
use native.Mathlib.Numerals.{add-one}
use lib.ListN.{length, drop, get_or, drop_of_length-le}
use lib.Seq.{drop-cons}
use Rattle.wire.specs.declared.Field.{Field}
use Rattle.little_endian.specs.Bytes.{little_endian, put}
use Rattle.wire.specs.Layout.{config_fields, config_values, fields_laid, config_bytes}
use Rattle.little_endian.proofs.Laws.{length-put}
use Rattle.wire.proofs.Laws.{length_config, eight}
use Rattle.wire.proofs.read_config.Goals as goal

abbrev field : ℕ → Field
field k = get_or config_fields k (record { 0 = 0; 1 = 0 })

-- every field ends inside, and has at most eight bytes
table : (k : ℕ) → k < 8 → ((field k).0 + (field k).1 ≤ 56) × ((field k).1 ≤ 8)
unfolding config_fields
table =
    let P : ℕ → Type 0 = λ k. ((field k).0 + (field k).1 ≤ 56) × ((field k).1 ≤ 8) in
    eight P (omega arith) (omega arith) (omega arith) (omega arith) (omega arith) (omega arith) (omega arith) (omega arith)

-- a turn lays the first field that is left
turn : (xs vs : List ℕ) (k : ℕ) → k < 8 → k < length vs
    → fields_laid xs (drop k config_fields) (drop k vs)
    ≡ fields_laid (put xs (field k).0 (little_endian (field k).1 (get_or vs k 0))) (drop (k + 1) config_fields) (drop (k + 1) vs)
unfolding fields_laid config_fields
turn xs vs k h i = rw (drop-cons config_fields k (record { 0 = 0; 1 = 0 }) h, drop-cons vs k 0 i, add-one k)

-- past the table no field is left
done : (xs vs : List ℕ) (k : ℕ) → 8 ≤ k → fields_laid xs (drop k config_fields) vs ≡ xs
unfolding fields_laid config_fields
done xs vs k h = rw (drop_of_length-le config_fields h)

pub returns-then-past : goal.returns-then-past
unfolding put
returns-then-past c =
    let config = config_bytes c.args.config in
    let h : length config ≤ c.args.offset = rw length_config (omega arith) in
    rw (drop_of_length-le config h)

pub loop-k-init : goal.loop-k-init
loop-k-init c = (refl, refl)

pub write_field-requires : goal.write_field-requires
unfolding config_fields
write_field-requires c =
    let o = c.loop-k in
    rw o.invariant.0 (table o.k (omega arith))

pub loop-k-preserved : goal.loop-k-preserved
unfolding config_fields config_values
loop-k-preserved c =
    let w = c.write_field in
    let o = c.loop-k in
    let a = c.args in
    let vs = config_values a.config in
    let h : o.k < 8 = omega arith in (
      ap length w.ensures ∙ length-put o.bytes (field o.k).0 (little_endian (field o.k).1 (get_or vs o.k 0)) ∙ o.invariant.0,
      ap (λ (l : List ℕ). fields_laid l (drop (o.k + 1) config_fields) (drop (o.k + 1) vs)) w.ensures
          ∙ sym (turn o.bytes vs o.k h h)
          ∙ o.invariant.1,
    )

pub returns : goal.returns
unfolding config_bytes config_values
returns c =
    let o = c.loop-k in
    let a = c.args in
    let vs = config_values a.config in
    let whole = sym (done o.bytes (drop o.k vs) o.k (omega arith)) ∙ o.invariant.1 in
    c.copy.ensures
    ∙ ap (put a.«data».now 0) (c.from.ensures ∙ ap (drop a.offset) whole)
