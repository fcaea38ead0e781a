-- SPDX-License-Identifier: Apache-2.0 AND BSD-3-Clause
-- Laws on the chain, for callers: what a delivery leaves and what a parse reads.
use Rattle.std.specs.Prelude.{Option, Some, None, Err, Result}
use Prim.Native.Nat.{ℕ, ◌+◌, ◌-◌, ◌≤◌}
use mathlib.Core.Path.{◌≡◌, refl, sym, ap, ◌∙◌}
use mathlib.Core.Bool.{Bool, true, false, cond, not, ◌&&◌}
use mathlib.Core.List.{List}
use native.Mathlib.Omega.{arith}
use lib.Dec.{ltb, eqb}
use lib.ListN.{length}
use Rattle.units.proofs.Tests.{by_test, and_right}
use Rattle.units.specs.declared.GuestAddr.{GuestAddr}
use Rattle.little_endian.specs.Bytes.{part}
use Rattle.little_endian.proofs.Laws.{length-put, part-put, part-put_before, part-put_behind}
use Rattle.wire.specs.declared.VirtioMemReq.{VirtioMemReq}
use Rattle.wire.specs.declared.VirtioMemResp.{VirtioMemResp}
use Rattle.wire.specs.Layout.{request_at, response_bytes}
use Rattle.wire.proofs.Laws.{request_part, length_response}
use Rattle.descriptors.specs.declared.Descriptor.{Descriptor}
use Rattle.descriptors.specs.Standard.{descriptor_at, descriptor_addr, has_next, is_write_only, is_indirect}
use Rattle.descriptors.specs.Descriptors.{inside, link_at, link_after}
use Rattle.descriptors.proofs.Laws.{inside_facts, descriptor_part}
use Rattle.chain.specs.declared.Asked.{Asked}
use Rattle.chain.specs.declared.NoRequest.{NoRequest}
use Rattle.chain.specs.declared.NoRequest.TheVariants.{Missing, FirstWriteOnly, WrongLength, NotInside, NotWritable, TooShort, Indirect}
use Rattle.chain.specs.Chain.{reason, asked, with_second, with_first, parsed, reaches, delivered}

-- ---- what a parse answers

either : {A : Type 0} (P : A → Type 0) (test : Bool) (x y : A) → P x → P y → P (cond test x y)
either P true x y p q = p
either P false x y p q = q

-- a reason from 21 to 27, or a request that stands somewhere in the memory: what holds of each holds of a parse
module _ (P : Result Asked NoRequest → Type 0) (bad : (r : NoRequest) → 21 ≤ reason r → reason r ≤ 27 → P (Err r)) where
  second_cases : (req : VirtioMemReq) (found : Option Descriptor) → ((status : GuestAddr) → P (asked req status)) → P (with_second req found)
  unfolding with_second
  second_cases req None good = bad Missing (omega arith) (omega arith)
  second_cases req (Some second) good =
      either P (is_indirect second) _ _ (bad Indirect (omega arith) (omega arith))
      (either P (not (is_write_only second)) _ _ (bad NotWritable (omega arith) (omega arith))
      (either P (ltb second.len 10) _ _ (bad TooShort (omega arith) (omega arith)) (good second.addr)))

  first_cases : (mem : List ℕ) (base table : ℕ) (found : Option Descriptor) → ((at : ℕ) (status : GuestAddr) → P (asked (request_at mem at) status))
      → P (with_first mem base table found)
  unfolding with_first
  first_cases mem base table None good = bad Missing (omega arith) (omega arith)
  first_cases mem base table (Some first) good =
      either P (is_indirect first) _ _ (bad Indirect (omega arith) (omega arith))
      (either P (is_write_only first) _ _ (bad FirstWriteOnly (omega arith) (omega arith))
      (either P (not (eqb first.len 24)) _ _ (bad WrongLength (omega arith) (omega arith))
      (either P (not (inside (length mem) base first.addr.0 24)) _ _ (bad NotInside (omega arith) (omega arith))
      (second_cases _ (link_after mem base table first) (good _)))))

  pub parsed_cases : (mem : List ℕ) (base table head : ℕ) → ((at : ℕ) (status : GuestAddr) → P (asked (request_at mem at) status))
      → P (parsed mem base table head)
  unfolding parsed
  parsed_cases mem base table head good = first_cases mem base table (link_at mem base table head) good

-- ---- what a delivery leaves

-- lengths are kept
pub length-delivered : (mem : List ℕ) (base status : ℕ) (resp : VirtioMemResp)
    → length (delivered mem base status resp) ≡ length mem
unfolding delivered
length-delivered mem base status resp =
    by_test (reaches mem base status) (λ t. simp (t, length-put)) (λ t. simp t)

-- a delivered response reads back
pub delivered_reads : (mem : List ℕ) (base status : ℕ) (resp : VirtioMemResp) → reaches mem base status ≡ true
    → part (delivered mem base status resp) (status - base) 10 ≡ response_bytes resp
unfolding delivered reaches
delivered_reads mem base status resp t =
    let i = inside_facts (length mem) base status 10 t in
    let ten = length_response resp in
    let back = part-put mem (status - base) (response_bytes resp) (omega arith) in
    simp t (rw ten at back)

-- one that does not reach changes nothing
pub undelivered : (mem : List ℕ) (base status : ℕ) (resp : VirtioMemResp) → reaches mem base status ≡ false
    → delivered mem base status resp ≡ mem
unfolding delivered
undelivered mem base status resp t = simp t

-- the bytes before the 10 stay
pub delivered_before : (mem : List ℕ) (base status : ℕ) (resp : VirtioMemResp) (i n : ℕ) → i + n ≤ status - base
    → part (delivered mem base status resp) i n ≡ part mem i n
unfolding delivered
delivered_before mem base status resp i n h =
    by_test (reaches mem base status) (λ t. simp t (part-put_before mem (status - base) (response_bytes resp) i n h)) (λ t. simp t)

-- and so do those behind them
pub delivered_behind : (mem : List ℕ) (base status : ℕ) (resp : VirtioMemResp) (i n : ℕ) → status - base + 10 ≤ i
    → part (delivered mem base status resp) i n ≡ part mem i n
unfolding delivered
delivered_behind mem base status resp i n h =
    by_test (reaches mem base status)
    (λ t. let ten = length_response resp in simp t (part-put_behind mem (status - base) (response_bytes resp) i n (omega arith)))
    (λ t. simp t)

-- ---- what a parse reads

-- two memories agree on the n bytes at addr, where those lie inside
abbrev pub SameAt : List ℕ → List ℕ → ℕ → ℕ → ℕ → Type 0
SameAt mem mem' base addr n = inside (length mem) base addr n ≡ true → part mem (addr - base) n ≡ part mem' (addr - base) n

-- what is read of n bytes alone is the same where they are
read_same : {A : Type 0} (n : ℕ) (read : List ℕ → ℕ → A)
    → ((mem : List ℕ) (at : ℕ) → read mem at ≡ read (part mem at n) 0)
    → (mem mem' : List ℕ) (at : ℕ) → part mem at n ≡ part mem' at n → read mem at ≡ read mem' at
read_same n read only mem mem' at same =
    only mem at ∙ ap (λ (bytes : List ℕ). read bytes 0) same ∙ sym (only mem' at)

-- what is chosen where a test holds
chosen_same : {A : Type 0} (test : Bool) (x y z : A) → (test ≡ true → x ≡ y) → cond test x z ≡ cond test y z
chosen_same true x y z same = same refl
chosen_same false x y z same = refl

link_same : (mem mem' : List ℕ) (base table index : ℕ) → length mem ≡ length mem'
    → SameAt mem mem' base (descriptor_addr table index) 16
    → link_at mem base table index ≡ link_at mem' base table index
unfolding link_at
link_same mem mem' base table index long same =
    let at = descriptor_addr table index in
    let lies = inside (length mem) base at 16 in
    rw (← long)
    (chosen_same (ltb index 128 && lies) (Some (descriptor_at mem (at - base))) (Some (descriptor_at mem' (at - base))) None
    (λ t. ap Some (read_same 16 descriptor_at descriptor_part mem mem' (at - base) (same (and_right (ltb index 128) lies t)))))

link_after_same : (mem mem' : List ℕ) (base table : ℕ) (d : Descriptor) → length mem ≡ length mem'
    → (has_next d ≡ true → SameAt mem mem' base (descriptor_addr table d.next) 16)
    → link_after mem base table d ≡ link_after mem' base table d
unfolding link_after
link_after_same mem mem' base table d long same =
    chosen_same (has_next d) (link_at mem base table d.next) (link_at mem' base table d.next) None
    (λ t. link_same mem mem' base table d.next long (same t))

first_same : (mem mem' : List ℕ) (base table : ℕ) (first : Descriptor) → length mem ≡ length mem'
    → SameAt mem mem' base first.addr.0 24
    → (has_next first ≡ true → SameAt mem mem' base (descriptor_addr table first.next) 16)
    → with_first mem base table (Some first) ≡ with_first mem' base table (Some first)
unfolding with_first
first_same mem mem' base table first long request second =
    by_test (inside (length mem) base first.addr.0 24)
    (λ t.
    rw (
      ← long,
      read_same 24 request_at request_part mem mem' (first.addr.0 - base) (request t),
      link_after_same mem mem' base table first long second,
    ))
    (λ t. rw (← long) (simp t))

-- two memories of one length agree on the first descriptor, on the request that it names, and on the descriptor after it, if any
pub record SameChain (mem mem' : List ℕ) (base table head : ℕ) : Type 0 where
  pub long : length mem ≡ length mem'
  pub first : SameAt mem mem' base (descriptor_addr table head) 16
  pub request : (d : Descriptor) → link_at mem base table head ≡ Some d → SameAt mem mem' base d.addr.0 24
  pub second : (d : Descriptor) → link_at mem base table head ≡ Some d → has_next d ≡ true
      → SameAt mem mem' base (descriptor_addr table d.next) 16

found_same : (mem mem' : List ℕ) (base table head : ℕ) → SameChain mem mem' base table head
    → (found : Option Descriptor) → link_at mem base table head ≡ found → with_first mem base table found ≡ with_first mem' base table found
unfolding with_first
found_same mem mem' base table head same None is = refl
found_same mem mem' base table head same (Some d) is =
    first_same mem mem' base table d same.long (same.request d is) (same.second d is)

-- a parse does not depend on bytes outside the descriptors and the request
pub parse_local : (mem mem' : List ℕ) (base table head : ℕ) → SameChain mem mem' base table head
    → parsed mem base table head ≡ parsed mem' base table head
unfolding parsed
parse_local mem mem' base table head same =
    found_same mem mem' base table head same (link_at mem base table head) refl
    ∙ ap (with_first mem' base table) (link_same mem mem' base table head same.long same.first)
