-- SPDX-License-Identifier: Apache-2.0 AND BSD-3-Clause
-- One turn of `scan_at`, and one of `put_form_at`.
use Rattle.std.specs.Prelude.{Option, Some, None}
use Prim.Native.Nat.{ℕ, suc, min, ◌+◌, ◌-◌, ◌≤◌, ◌<◌}
use mathlib.Core.Path.{◌≡◌, refl, sym, ap, ◌∙◌}
use mathlib.Core.Bool.{true}
use mathlib.Core.List.{List, [], ◌∷◌, ◌++◌, append_assoc, append-nil}
use native.Mathlib.Omega.{arith}
use native.Mathlib.Numerals.{add-one}
use borrow.Author.Tests.{le-leb, lt-leb, eq-eqb, ne_eqb}
use lib.Dec.{leb}
use lib.ListN.{length, drop, take, set, get_or, length-take, length-drop, length-append, drop_of_length-le}
use lib.Seq.{sets, drop-cons, take-length, take-suc-set, length-sets}
use Rattle.units.proofs.Tests.{by_test}
use Rattle.text.specs.declared.Number.{Number}
use Rattle.text.specs.Decimal.{decimal}
use Rattle.text.specs.Reading.{Got, got, nothing, word_of, read_to, answer_in, number_at}
use Rattle.text.specs.Putting.{Put}
use Rattle.text.proofs.Laws.{read_to_same, read_none, read_rest}
use Rattle.text.proofs.Puts.{sets_append, sets_out, then}
use Rattle.forms.specs.Forms.{filled_from}
use Rattle.forms.specs.Scanning.{Scan, found, lost, numbers, push, hole_then, byte_then, scan_of, is_whole, place_in, Scanned, ScannedAt}
use Rattle.forms.proofs.Laws.{drop_min, nowhere, scan_filled}

-- ---- `scan_at`

-- a scan after numbers that were read before it
unfoldable pub prepend : (us : List ℕ) (scan : Scan) → Scan
prepend us (found vs rest) = found (us ++ vs) rest
prepend us (lost vs) = lost (us ++ vs)

prepend_none : (scan : Scan) → scan ≡ prepend [] scan
unfolding prepend
prepend_none (found vs rest) = refl
prepend_none (lost vs) = refl

prepend-push : (us : List ℕ) (v : ℕ) (scan : Scan) → prepend us (push v scan) ≡ prepend (us ++ (v ∷ [])) scan
unfolding prepend push
prepend-push us v (found vs rest) = rw append_assoc
prepend-push us v (lost vs) = rw append_assoc

-- the loop stands at i of the text s, at j of the form and at k of the values; w is the whole's scan
pub record Left (w : Scan) (before s form values : List ℕ) (i j k : ℕ) : Type 0 where
  pub within : k ≤ length before
  pub kept : values ≡ sets before 0 (take k values)
  pub left : w ≡ prepend (take k values) (scan_of (drop j form) (drop i s))
  pub inside : i ≤ length s

number_inside : (s : List ℕ) (g : Got) (v n : ℕ) → read_to v n ≡ answer_in s g → n ≤ length s
number_inside s (got u rest) v n e = let q = (read_to_same v n u (length s - length rest) e).1 in omega arith
number_inside s nothing v n e = let z : ◌≡◌ {A = ℕ} 0 1 = cc in absurd (omega arith)

-- one number more than there is room for is told and stored nowhere
over : (before s us : List ℕ) (g : Got) (f : List ℕ → Scan) → length us ≡ length before → us ≡ sets before 0 us
    → ScannedAt before s (prepend us (hole_then g f)) None us
unfolding prepend hole_then push
over before s us nothing f e h = record { answer = refl; values = rw append-nil h }
over before s us (got v l) f e h = go (f l)
  where
    more : (vs : List ℕ) → us ≡ sets before 0 (us ++ vs)
    more vs = sym (sets_append before 0 us vs ∙ rw (← h) (sets_out us (0 + length us) vs (omega arith)))

    go : (w : Scan) → ScannedAt before s (prepend us (push v w)) None us
    go (found vs rest) =
        let l = length-append us (v ∷ vs) in
        record { answer = rw (lt-leb (length (us ++ v ∷ vs)) (length before) (omega arith)); values = more (v ∷ vs) }
    go (lost vs) = record { answer = refl; values = more (v ∷ vs) }

pub begin : (s form values : List ℕ) (at i : ℕ) → i ≡ min at (length s) → Left (scan_of form (drop at s)) values s form values i 0 0
begin s form values at i q =
    let d : drop at s ≡ drop i s = sym (drop_min at s) ∙ ap (λ (n : ℕ). drop n s) (sym q) in
    record { within = omega arith; kept = refl; left = rw (← d) (prepend_none (scan_of form (drop at s))); inside = omega arith }

module _ {w : Scan} {before s form values : List ℕ} {i j k : ℕ} (o : Left w before s form values i j k) where
  long : length values ≡ length before
  long = let e = o.kept in ap length e ∙ length-sets before 0 (take k values)

  fails : w ≡ prepend (take k values) (lost []) → ScannedAt before s w None values
  unfolding prepend
  fails e =
      let n : take k values ≡ numbers w = rw (e, append-nil) in
      record { answer = rw e; values = o.kept ∙ ap (sets before 0) n }

  module _ (h : j < length form) where
    module _ (e : get_or form j 0 ≡ 35) where
      at_hole : scan_of (drop j form) (drop i s) ≡ hole_then (word_of (drop i s)) (scan_of (drop (suc j) form))
      unfolding scan_of
      at_hole = rw (drop-cons form j 0, eq-eqb _ _ e)

      pub no_room : length values ≤ k → ScannedAt before s w None values
      no_room f =
          let l = long in
          let m = o.within in
          let t : take k values ≡ values = let z : k ≡ length values = omega arith in rw z (take-length values) in
          let q = at_hole in
          let a = rw (q, t) at o.left in
          rw a (over before s values (word_of (drop i s)) (scan_of (drop (suc j) form)) l (o.kept ∙ ap (sets before 0) t))

      module _ (r : Option Number) (f : k < length values) (g : r ≡ number_at s i) where
        pub no_number : r ≡ None → ScannedAt before s w None values
        unfolding hole_then
        no_number t =
            let q = at_hole in
            fails (rw (q, read_none s i (sym g ∙ t)) at o.left)

        module _ (v n : ℕ) where
          first_read : take k values ++ (v ∷ []) ≡ take (k + 1) (set values k v)
          first_read = sym (take-suc-set values k v f) ∙ ap (λ (m : ℕ). take m (set values k v)) (sym (add-one k))

          stored : set values k v ≡ sets before 0 (take (k + 1) (set values k v))
          stored =
              let z : 0 + length (take k values) ≡ k = simp length-take (omega arith) in
              let a = sets_append before 0 (take k values) (v ∷ []) in
              let b : sets (sets before 0 (take k values)) (0 + length (take k values)) (v ∷ []) ≡ set values k v = rw (← o.kept, z) in
              sym b ∙ sym a ∙ ap (sets before 0) first_read

          pub hole_turn : r ≡ read_to v n → Left w before s form (set values k v) n (j + 1) (k + 1)
          unfolding hole_then
          hole_turn t =
              let q = at_hole in
              record {
                within = let l = long in omega arith;
                kept = stored;
                left =
                    rw (q, read_rest s i v n (sym g ∙ t)) at o.left
                    ∙ prepend-push (take k values) v (scan_of (drop (suc j) form) (drop n s))
                    ∙ ap (λ (us : List ℕ). prepend us (scan_of (drop (suc j) form) (drop n s))) first_read
                    ∙ rw (add-one j);
                inside = number_inside s (word_of (drop i s)) v n (sym t ∙ g);
              }

    module _ (e : get_or form j 0 ≡ 35 → ⊥) where
      at_byte : scan_of (drop j form) (drop i s) ≡ byte_then (get_or form j 0) (drop i s) (scan_of (drop (suc j) form))
      unfolding scan_of
      at_byte = rw (drop-cons form j 0, ne_eqb _ _ e)

      pub no_byte : length s ≤ i → ScannedAt before s w None values
      unfolding byte_then
      no_byte f = let q = at_byte in fails (rw (q, drop_of_length-le s f) at o.left)

      pub other_byte : i < length s → (get_or s i 0 ≡ get_or form j 0 → ⊥) → ScannedAt before s w None values
      unfolding byte_then
      other_byte f n = let q = at_byte in fails (rw (q, drop-cons s i 0 f, ne_eqb _ _ n) at o.left)

      pub byte_turn : i < length s → get_or s i 0 ≡ get_or form j 0 → Left w before s form values (i + 1) (j + 1) k
      unfolding byte_then
      byte_turn f n =
          let q = at_byte in
          record {
            within = o.within;
            kept = o.kept;
            left = rw (q, drop-cons s i 0 f, eq-eqb _ _ n) at o.left ∙ rw (add-one j, add-one i);
            inside = omega arith;
          }

  pub at_end : length form ≤ j → ScannedAt before s w (Some i) values
  unfolding scan_of prepend
  at_end h =
      let q : w ≡ found (take k values) (drop i s) = rw (drop_of_length-le form h, append-nil) at o.left in
      let n : take k values ≡ numbers w = rw q in
      let l : length (take k values) ≤ length before = let t = length-take k values in let m = o.within in omega arith in
      let p : i ≡ length s - length (drop i s) = let d = length-drop i s in let m = o.inside in omega arith in
      record { answer = rw (q, le-leb (length (take k values)) (length before) l) (ap Some p); values = o.kept ∙ ap (sets before 0) n }

-- ---- `scan`: a scan at 0 that ends where the text does

whole : (room n : ℕ) (s : List ℕ) (w : Scan) → ((us rest : List ℕ) → w ≡ found us rest → length rest ≤ length s)
    → Some n ≡ place_in room s w → leb (length s) n ≡ is_whole room w
whole room n s (lost us) h e = absurd (nowhere (sym e))
whole room n s (found us rest) h e =
    by_test (leb (length us) room)
    (λ l.
    let a : Some n ≡ Some (length s - length rest) = rw l at e in
    let m : n ≡ length s - length rest = cc in
    go rest l m (h us rest refl))
    (λ l. absurd (nowhere (sym (rw l at e))))
  where
    go : (rest : List ℕ) → leb (length us) room ≡ true → n ≡ length s - length rest → length rest ≤ length s → leb (length s) n ≡ is_whole room (found us rest)
    go [] l m k = le-leb (length s) n (omega arith) ∙ sym l
    go (x ∷ xs) l m k = lt-leb (length s) n (omega arith)

module _ (form s : List ℕ) {before after : List ℕ} {r : Option ℕ} (o : ScannedAt before s (scan_of form s) r after) where
  pub scan_at_end : (n : ℕ) → r ≡ Some n → Scanned before (scan_of form s) (leb (length s) n) after
  scan_at_end n e =
      record { answer = whole (length before) n s (scan_of form s) short (sym e ∙ o.answer); values = o.values }
    where
      short : (us rest : List ℕ) → scan_of form s ≡ found us rest → length rest ≤ length s
      short us rest q =
          let l = simp length-append at (ap length ((scan_filled form s us rest q).text [])) in
          omega arith

-- ---- `put_form_at`

-- the loop has put the text `done`, and stands at j of the form and k of the values
pub record Puts (before : List ℕ) (at : ℕ) (form vs out : List ℕ) (to j k : ℕ) : Type 0 where
  pub done : List ℕ
  pub put : Put before at done out to
  pub rest : done ++ filled_from k (drop j form) vs ≡ filled_from 0 form vs
  pub few : k ≤ j

pub puts_none : (out : List ℕ) (at : ℕ) (form vs : List ℕ) (to : ℕ) → to ≡ min at (length out + 1) → Puts out at form vs out to 0 0
puts_none out at form vs to e = record { done = []; put = record { held = refl; next = omega arith }; rest = refl; few = omega arith }

module _ {before : List ℕ} {at : ℕ} {form vs out : List ℕ} {to j k : ℕ} (o : Puts before at form vs out to j k) where
  module _ (h : j < length form) {out' : List ℕ} {to' : ℕ} where
    pub put_hole : (v : ℕ) → get_or form j 0 ≡ 35 → v ≡ get_or vs k 0 → Put out to (decimal v) out' to' → Puts before at form vs out' to' (j + 1) (k + 1)
    unfolding filled_from
    put_hole v e f p =
        let few = o.few in
        record {
          done = o.done ++ decimal v;
          put = then o.put p;
          rest =
              append_assoc o.done (decimal v) (filled_from (k + 1) (drop (j + 1) form) vs)
              ∙ rw (add-one j, add-one k, f) (rw (drop-cons form j 0 h, eq-eqb _ _ e) at o.rest);
          few = omega arith;
        }

    pub put_byte : (get_or form j 0 ≡ 35 → ⊥) → Put out to (get_or form j 0 ∷ []) out' to' → Puts before at form vs out' to' (j + 1) k
    unfolding filled_from
    put_byte e p =
        let few = o.few in
        record {
          done = o.done ++ (get_or form j 0 ∷ []);
          put = then o.put p;
          rest =
              append_assoc o.done (get_or form j 0 ∷ []) (filled_from k (drop (j + 1) form) vs)
              ∙ rw (add-one j) (rw (drop-cons form j 0 h, ne_eqb _ _ e) at o.rest);
          few = omega arith;
        }

  pub put_end : length form ≤ j → Put before at (filled_from 0 form vs) out to
  unfolding filled_from
  put_end h = let e = rw (drop_of_length-le form h, append-nil) at o.rest in rw (← e) o.put
