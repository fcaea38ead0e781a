-- SPDX-License-Identifier: Apache-2.0 AND BSD-3-Clause
-- Each promise of the bytes leaves one outcome.
use Rattle.std.specs.Prelude.{Result, Ok, Err}
use Prim.Native.Nat.{ℕ}
use mathlib.Core.Path.{◌≡◌, refl, sym, ap, ◌∙◌}
use mathlib.Core.List.{List}
use lib.Dec.{leb}
use lib.ListN.{length}
use borrow.Author.Tests.{leb-true, leb-false}
use Rattle.units.proofs.Tests.{by_test}
use Rattle.wire.specs.declared.VirtioMemReq.{VirtioMemReq}
use Rattle.wire.specs.declared.VirtioMemResp.{VirtioMemResp}
use Rattle.wire.specs.declared.VirtioMemConfig.{VirtioMemConfig}
use Rattle.refusal.specs.declared.Refusal.{Refusal}
use Rattle.driver.specs.Text.{Wrote, Reads, ReadsResponse, ReadsConfig}

pub wrote_once : (q : VirtioMemReq) (entry xs ys : List ℕ) (r s : ℕ) → Wrote q entry xs r → Wrote q entry ys s → (r ≡ s) × (xs ≡ ys)
wrote_once q entry xs ys r s a b =
    by_test (leb 24 (length entry))
    (λ t.
    let h = leb-true 24 (length entry) t in
    ((a.whole h).0 ∙ sym (b.whole h).0, (a.whole h).1 ∙ sym (b.whole h).1))
    (λ t.
    let h = leb-false 24 (length entry) t in
    ((a.short h).0 ∙ sym (b.short h).0, (a.short h).1 ∙ sym (b.short h).1))

reads_once : {V : Type 0} (IsText : V → Type 0) (r s : Result V Refusal) → Reads IsText r → Reads IsText s → r ≡ s
reads_once IsText (Ok v) s a b = sym (b.only v (a.read v refl))
reads_once IsText (Err n) (Ok v) a b = a.only v (b.read v refl)
reads_once IsText (Err n) (Err m) a b = ap Err (a.refused n refl ∙ sym (b.refused m refl))

pub response_once : (xs : List ℕ) (r s : Result VirtioMemResp Refusal) → ReadsResponse xs r → ReadsResponse xs s → r ≡ s
response_once xs r s a b = reads_once _ r s a b

pub config_once : (xs : List ℕ) (r s : Result VirtioMemConfig Refusal) → ReadsConfig xs r → ReadsConfig xs s → r ≡ s
config_once xs r s a b = reads_once _ r s a b
