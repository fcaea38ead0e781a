-- SPDX-License-Identifier: Apache-2.0 AND BSD-3-Clause
-- `bytes_at` meets its contract: zeros behind the bytes that are there change no number.
use Prim.Native.Nat.{ℕ, ◌+◌, ◌-◌, ◌≤◌}
use mathlib.Core.Path.{◌≡◌, sym, ap, ◌∙◌}
use mathlib.Core.List.{List}
use native.Mathlib.Omega.{arith}
use lib.ListN.{length, take, drop, replicate, length-drop, length-replicate}
use lib.Seq.{take_all}
use Rattle.little_endian.specs.Bytes.{value, part, put}
use Rattle.little_endian.proofs.Laws.{length-put, value_padded}
use Rattle.little_endian.proofs.bytes_at.Goals as goal

padded : (xs : List ℕ) (at n : ℕ) → length (drop at xs) ≤ n → value (put (replicate n 0) 0 (drop at xs)) ≡ value (part xs at n)
unfolding part
padded xs at n h =
    let zeros : List ℕ = replicate n 0 in
    let z : at + 0 ≡ at = omega arith in
    let l : length (put zeros 0 (drop at xs)) ≤ n = simp (length-put, length-replicate) (omega arith) in
    let m : length xs ≤ at + n = omega (arith, length-drop at xs) in
    sym (ap value (take_all n (put zeros 0 (drop at xs)) l)) ∙ rw z at (value_padded xs n at 0 n m)

pub returns-then-at-places : goal.returns-then-at-places
unfolding part
returns-then-at-places g c =
    let a = c.args in
    let width : a.at + g.row.N - a.at ≡ g.row.N = omega arith in
    ap value (c.copy_from_slice.ensures.after ∙ ap (λ (n : ℕ). take n (drop a.at a.bytes.now)) width)

pub returns-else-at-places : goal.returns-else-at-places
returns-else-at-places g c =
    let a = c.args in
    let few : length (drop a.at a.bytes.now) ≤ g.row.N = omega (arith, length-drop a.at a.bytes.now, c.places.ensures) in
    ap value (c.copy.ensures ∙ ap (put (replicate g.row.N 0) 0) c.from.ensures) ∙ padded a.bytes.now a.at g.row.N few
