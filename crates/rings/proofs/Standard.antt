-- SPDX-License-Identifier: Apache-2.0 AND BSD-3-Clause
-- What the device reads and writes in the rings is what Q2 lays out there.
use Prim.Native.Nat.{ℕ, zero, suc, ◌+◌, ◌*◌, ◌≤◌, ◌<◌}
use mathlib.Core.Path.{◌≡◌, refl, sym, ap, ◌∙◌}
use mathlib.Core.List.{List, [], ◌∷◌, ◌++◌}
use native.Mathlib.Omega.{arith}
use lib.ListN.{length, get_or}
use Rattle.little_endian.specs.Bytes.{value, little_endian, part}
use Rattle.little_endian.proofs.Laws.{value_fits, part-drop, part-part}
use Rattle.rings.specs.Standard.{heads, virtq_avail, Element, used_element, elements, virtq_used, available_index, available_head, used_index, used_id, used_length}

-- the entry n of the heads, and of the elements
entry : (hs rest : List ℕ) (n : ℕ) → n < length hs → part (heads hs ++ rest) (2 * n) 2 ≡ little_endian 2 (get_or hs n 0)
unfolding heads part little_endian
entry [] rest n h = absurd (omega arith)
entry (h ∷ hs) rest zero l = refl
entry (h ∷ hs) rest (suc n) l =
    let shift : 2 * suc n ≡ 2 + 2 * n = omega arith in
    rw shift (sym (part-drop (little_endian 2 h ++ heads hs ++ rest) 2 (2 * n) 2) ∙ entry hs rest n (omega arith))

-- where the ring has no entry
abbrev pub no_element : Element
no_element = record { id = 0; len = 0 }

abbrev pub element_of : List Element → ℕ → Element
element_of ring n = get_or ring n no_element

element : (es : List Element) (rest : List ℕ) (n : ℕ) → n < length es → part (elements es ++ rest) (8 * n) 8 ≡ used_element (element_of es n).id (element_of es n).len
unfolding elements part little_endian
element [] rest n h = absurd (omega arith)
element (e ∷ es) rest zero l = refl
element (e ∷ es) rest (suc n) l =
    let shift : 8 * suc n ≡ 8 + 8 * n = omega arith in
    rw shift (sym (part-drop (used_element e.id e.len ++ elements es ++ rest) 8 (8 * n) 8) ∙ element es rest n (omega arith))

-- a part of the ring that stands in memory is that part of the layout
of_ring : (mem : List ℕ) (at size k n : ℕ) {ring : List ℕ} → part mem at size ≡ ring → k + n ≤ size → part mem (at + k) n ≡ part ring k n
of_ring mem at size k n same h = sym (part-part mem at size k n h) ∙ ap (λ (l : List ℕ). part l k n) same

module _ (mem : List ℕ) (at flags idx event : ℕ) where
  -- where the standard's available ring of 128 stands, its index and its heads are read
  pub record AvailableLaid (ring : List ℕ) : Type 0 where
    pub index : idx < 65536 → available_index mem at ≡ idx
    pub head : (n : ℕ) → n < 128 → get_or ring n 0 < 65536 → available_head mem at n ≡ get_or ring n 0

  pub available_laid : (ring : List ℕ) → length ring ≡ 128 → part mem at 262 ≡ virtq_avail flags idx ring event → AvailableLaid ring
  unfolding virtq_avail little_endian part
  available_laid ring long same =
      record {
        index = λ h. ap value (of_ring mem at 262 2 2 same (omega arith)) ∙ value_fits 2 idx h;
        head = λ n l h.
            let sum : at + 4 + 2 * n ≡ at + (4 + 2 * n) = omega arith in
            rw sum
            (ap value (of_ring mem at 262 (4 + 2 * n) 2 same (omega arith) ∙ sym (part-drop (virtq_avail flags idx ring event) 4 (2 * n) 2) ∙ entry ring (little_endian 2 event) n (omega arith))
            ∙ value_fits 2 (get_or ring n 0) h);
      }

  -- and where its used ring stands, what a driver reads there
  pub record UsedLaid (ring : List Element) : Type 0 where
    pub index : idx < 65536 → used_index mem at ≡ idx
    pub id : (n : ℕ) → n < 128 → (element_of ring n).id < 4294967296 → used_id mem at n ≡ (element_of ring n).id
    pub len : (n : ℕ) → n < 128 → (element_of ring n).len < 4294967296 → used_length mem at n ≡ (element_of ring n).len

  pub used_laid : (ring : List Element) → length ring ≡ 128 → part mem at 1030 ≡ virtq_used flags idx ring event → UsedLaid ring
  unfolding virtq_used little_endian part
  used_laid ring long same =
      record {
        index = λ h. ap value (of_ring mem at 1030 2 2 same (omega arith)) ∙ value_fits 2 idx h;
        id = λ n l h.
            let sum : at + 4 + 8 * n ≡ at + (4 + 8 * n + 0) = omega arith in
            rw sum (ap value (of_element n 0 4 l (omega arith)) ∙ value_fits 4 (element_of ring n).id h);
        len = λ n l h.
            let sum : at + 4 + 8 * n + 4 ≡ at + (4 + 8 * n + 4) = omega arith in
            rw sum (ap value (of_element n 4 4 l (omega arith)) ∙ value_fits 4 (element_of ring n).len h);
      }
    where
      of_element : (n k m : ℕ) → n < 128 → k + m ≤ 8 → part mem (at + (4 + 8 * n + k)) m ≡ part (used_element (element_of ring n).id (element_of ring n).len) k m
      of_element n k m l h =
          of_ring mem at 1030 (4 + 8 * n + k) m same (omega arith)
          ∙ sym (part-part (virtq_used flags idx ring event) (4 + 8 * n) 8 k m h)
          ∙ ap (λ (bytes : List ℕ). part bytes k m) (sym (part-drop (virtq_used flags idx ring event) 4 (8 * n) 8) ∙ element ring (little_endian 2 event) n (omega arith))
