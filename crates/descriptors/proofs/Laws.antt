-- SPDX-License-Identifier: Apache-2.0 AND BSD-3-Clause
-- Laws on where bytes lie and on descriptors, for callers.
use Rattle.std.specs.Prelude.{Option, Some, None}
use Prim.Native.Nat.{ℕ, ◌+◌, ◌-◌, ◌^◌, ◌≤◌, ◌<◌}
use mathlib.Core.Path.{◌≡◌, ◌∙◌}
use mathlib.Core.Bool.{true, false, ◌&&◌}
use mathlib.Core.List.{List}
use native.Mathlib.Omega.{arith}
use borrow.Author.Tests.{leb-true}
use lib.Dec.{leb}
use Rattle.units.proofs.Tests.{by_test, and_left, and_right}
use Rattle.little_endian.specs.Bytes.{part}
use Rattle.little_endian.proofs.Laws.{part-part}
use Rattle.descriptors.specs.Standard.{descriptor_at}
use Rattle.descriptors.specs.Descriptors.{inside, place_of}

-- ---- where bytes lie

-- n bytes at addr lie inside len bytes at base
pub record Inside (len base addr n : ℕ) : Type 0 where
  pub from_base : base ≤ addr
  pub to_end : addr + n ≤ base + len
  pub to_last : addr + n ≤ 2 ^ 64

pub inside_facts : (len base addr n : ℕ) → inside len base addr n ≡ true → Inside len base addr n
unfolding inside
inside_facts len base addr n e =
    let ends = and_right (leb base addr) (leb (addr + n) (base + len) && leb (addr + n) (2 ^ 64)) e in
    record {
      from_base = leb-true _ _ (and_left (leb base addr) _ e);
      to_end = leb-true _ _ (and_left (leb (addr + n) (base + len)) (leb (addr + n) (2 ^ 64)) ends);
      to_last = leb-true _ _ (and_right (leb (addr + n) (base + len)) (leb (addr + n) (2 ^ 64)) ends);
    }

-- bytes that pass 2^64 - 1 do not
pub past_last : (len base addr n : ℕ) → 2 ^ 64 < addr + n → inside len base addr n ≡ false
past_last len base addr n h =
    by_test (inside len base addr n)
    (λ t. let i = inside_facts len base addr n t in absurd (omega arith))
    (λ t. t)

-- a place is told exactly where they lie inside, and is how far they lie past the base
pub record Found (len base addr n at : ℕ) : Type 0 where
  pub lies : inside len base addr n ≡ true
  pub facts : Inside len base addr n
  pub place : at ≡ addr - base

pub place_found : (p : Option ℕ) (len base addr n at : ℕ) → p ≡ place_of len base addr n → p ≡ Some at → Found len base addr n at
unfolding place_of
place_found p len base addr n at told is =
    by_test (inside len base addr n)
    (λ t.
    record {
      lies = t;
      facts = inside_facts len base addr n t;
      place = let q : p ≡ Some (addr - base) = told ∙ simp t in cc;
    })
    (λ t. absurd (let q : p ≡ None = told ∙ simp t in let z : ◌≡◌ {A = ℕ} 0 1 = cc in omega arith))

pub place_outside : (p : Option ℕ) (len base addr n : ℕ) → p ≡ place_of len base addr n → p ≡ None → inside len base addr n ≡ false
unfolding place_of
place_outside p len base addr n told is =
    by_test (inside len base addr n)
    (λ t. absurd (let q : p ≡ Some (addr - base) = told ∙ simp t in let z : ◌≡◌ {A = ℕ} 0 1 = cc in omega arith))
    (λ t. t)

-- a descriptor is its 16 bytes and nothing else
pub descriptor_part : (mem : List ℕ) (at : ℕ) → descriptor_at mem at ≡ descriptor_at (part mem at 16) 0
unfolding descriptor_at
descriptor_part mem at =
    let zero : at + 0 ≡ at = omega arith in
    let addr = part-part mem at 16 0 8 (omega arith) in
    let len = part-part mem at 16 8 4 (omega arith) in
    let flags = part-part mem at 16 12 2 (omega arith) in
    let next = part-part mem at 16 14 2 (omega arith) in
    cc
