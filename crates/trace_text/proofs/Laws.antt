-- SPDX-License-Identifier: Apache-2.0 AND BSD-3-Clause
-- The reader is exact: a line reads back from its text, and only the text of a line is read.
use Rattle.std.specs.Prelude.{Option, Some, None, IfSome, is_some}
use Rattle.std.specs.Option.{option_or}
use Prim.Native.Nat.{ℕ, zero, suc, ◌≤◌, ◌<◌}
use mathlib.Core.Path.{◌≡◌, refl, sym, ap, subst, ◌∙◌}
use mathlib.Core.Bool.{Bool, true, false, cond, ◌&&◌}
use mathlib.Core.List.{List, [], ◌∷◌, ◌++◌}
use native.Mathlib.Omega.{arith}
use borrow.Author.Tests.{le-leb, leb-true}
use lib.Dec.{leb, eqb}
use lib.ListN.{length, get_or, take, drop}
use lib.Seq.{drop-cons}
use Rattle.units.proofs.Tests.{and_left, and_right}
use Rattle.text.specs.Decimal.{largest}
use Rattle.text.specs.Reading.{is_digit}
use Rattle.forms.specs.Forms.{holes, filled}
use Rattle.forms.specs.Scanning.{numbers, scan_of, is_whole}
use Rattle.forms.proofs.Laws.{Words, word, taken, apart, whole_written, whole_read}
use Rattle.forms.proofs.Clash.{clash, scan_clash}
use Rattle.trace_text.specs.declared.FirstLine.{FirstLine}
use Rattle.trace_text.specs.declared.Op.{Op}
use Rattle.trace_text.specs.declared.Op.TheVariants.{Host, Range, UnplugAll, Size}
use Rattle.trace_text.specs.declared.Line.{Line}
use Rattle.trace_text.specs.declared.Line.TheVariants.{First, Later}
use Rattle.trace_text.specs.declared.RangeOp.TheVariants.{Plug, Unplug, State}
use Rattle.trace_text.specs.declared.Kind.{Kind}
use Rattle.trace_text.specs.declared.Kind.TheVariants as kind
use Rattle.trace_text.specs.Lines.{flag, first_text, op_text, text_of, NodeInRange, FirstInRange, OpInRange, InRange, Text, Reads}
use Rattle.trace_text.specs.Reading.{form_of, first_line_of, made_of, kind_of, any_of, kinds}

-- ---- a kind at which the text is found, or is not

-- the text is of the kind at i, and of none before it
pub found_at : (ks : List Kind) (i : ℕ) (s : List ℕ) (d : Kind) (r : Option Line) → i < length ks → r ≡ kind_of (get_or ks i d) s → is_some r ≡ true
    → r ≡ any_of (drop i ks) s
unfolding any_of
found_at ks i s d (Some line) h e t = rw (drop-cons ks i d h, ← e)
found_at ks i s d None h e t = let z : ◌≡◌ {A = ℕ} 0 1 = cc in absurd (omega arith)

-- it is not of the kind at i
pub not_at : (ks : List Kind) (i : ℕ) (s : List ℕ) (d : Kind) (r : Option Line) → i < length ks → r ≡ kind_of (get_or ks i d) s → is_some r ≡ false
    → any_of (drop i ks) s ≡ any_of (drop (suc i) ks) s
unfolding any_of
not_at ks i s d (Some line) h e t = let z : ◌≡◌ {A = ℕ} 0 1 = cc in absurd (omega arith)
not_at ks i s d None h e t = rw (drop-cons ks i d h, ← e)

-- seven numbers are zeros before a scan
pub zeros : (i : ℕ) → i < 7 → ◌≡◌ {A = ℕ} (get_or (0 ∷ 0 ∷ 0 ∷ 0 ∷ 0 ∷ 0 ∷ 0 ∷ []) i 0) 0
zeros zero h = refl
zeros (suc zero) h = refl
zeros (suc (suc zero)) h = refl
zeros (suc (suc (suc zero))) h = refl
zeros (suc (suc (suc (suc zero)))) h = refl
zeros (suc (suc (suc (suc (suc zero))))) h = refl
zeros (suc (suc (suc (suc (suc (suc zero)))))) h = refl
zeros (suc (suc (suc (suc (suc (suc (suc i))))))) h = absurd (omega arith)

-- the numbers of a line are the first seven that are stored
pub made_same : (k : Kind) (vs us : List ℕ) → ((i : ℕ) → i < 7 → get_or vs i 0 ≡ get_or us i 0) → made_of k vs ≡ made_of k us
made_same kind.FirstNumbered vs us h =
    rw (h 0 (omega arith), h 1 (omega arith), h 2 (omega arith), h 3 (omega arith), h 4 (omega arith), h 5 (omega arith), h 6 (omega arith))
made_same kind.FirstNone vs us h = rw (h 0 (omega arith), h 1 (omega arith), h 2 (omega arith), h 3 (omega arith), h 4 (omega arith), h 5 (omega arith))
made_same kind.Host vs us h = rw (h 0 (omega arith), h 1 (omega arith))
made_same (kind.Range op) vs us h = rw (h 0 (omega arith), h 1 (omega arith))
made_same kind.UnplugAll vs us h = refl
made_same kind.Size vs us h = rw (h 0 (omega arith))

-- ---- a line that was written is read

-- no text of this form is of these kinds
clear : List Kind → List ℕ → Bool
clear [] form = true
clear (k ∷ ks) form = clash (form_of k) form && clear ks form

module _ (k : Kind) (vs : List ℕ) (line : Line)
    (a : apart (form_of k) ≡ true) (h : holes (form_of k) ≤ 7) (w : Words (taken 0 (holes (form_of k)) vs))
    (m : made_of k (taken 0 (holes (form_of k)) vs) ≡ Some line) where
  any_written : (before after : List Kind) → clear before (form_of k) ≡ true → any_of (before ++ k ∷ after) (filled (form_of k) vs) ≡ Some line
  unfolding any_of kind_of clear
  any_written [] after c =
      let r = whole_written 7 (form_of k) vs a h w in
      rw (r.0, r.1, m)
  any_written (b ∷ bs) after c =
      let d = scan_clash 0 (form_of b) (form_of k) vs (and_left (clash (form_of b) (form_of k)) (clear bs (form_of k)) c) a w in
      rw d.1 (any_written bs after (and_right (clash (form_of b) (form_of k)) (clear bs (form_of k)) c))

flag_read : (b : Bool) → eqb (flag b) 1 ≡ b
flag_read true = refl
flag_read false = refl

flag_most : (b : Bool) → flag b ≤ 1
flag_most true = omega arith
flag_most false = omega arith

first_written : (node : Option ℕ) (f : FirstLine) → f.node ≡ node → FirstInRange f → any_of kinds (first_text node f) ≡ Some (First f)
unfolding is_digit holes clear
first_written (Some n) f e h =
    let o = flag_most f.multi in
    let i : n ≤ 65535 = rw e at h.node in
    any_written kind.FirstNumbered (f.capacity_mib ∷ f.requested_mib ∷ flag f.multi ∷ n ∷ f.boot ∷ f.addr.0 ∷ f.slot ∷ []) (First f) refl (omega arith)
    (omega arith, (omega arith, (omega arith, (omega arith, (omega arith, (omega arith, (omega arith, tt)))))))
    (rw (le-leb n 65535 i, le-leb (flag f.multi) 1 o, le-leb f.slot 4294966000 h.slot, flag_read f.multi, ← e))
    (take 0 kinds) (drop 1 kinds) refl
first_written None f e h =
    let o = flag_most f.multi in
    any_written kind.FirstNone (f.capacity_mib ∷ f.requested_mib ∷ flag f.multi ∷ f.boot ∷ f.addr.0 ∷ f.slot ∷ []) (First f) refl (omega arith)
    (omega arith, (omega arith, (omega arith, (omega arith, (omega arith, (omega arith, tt))))))
    (rw (le-leb (flag f.multi) 1 o, le-leb f.slot 4294966000 h.slot, flag_read f.multi, ← e))
    (take 1 kinds) (drop 2 kinds) refl

op_written : (op : Op) → OpInRange op → any_of kinds (op_text op) ≡ Some (Later op)
unfolding is_digit holes clear
op_written (Host ok addr) h =
    let o = flag_most ok in
    any_written kind.Host (flag ok ∷ addr.0 ∷ []) (Later (Host ok addr)) refl (omega arith) (omega arith, (omega arith, tt))
    (rw (le-leb (flag ok) 1 o, flag_read ok)) (take 2 kinds) (drop 3 kinds) refl
op_written (Range Plug addr blocks) h =
    any_written (kind.Range Plug) (addr.0 ∷ blocks ∷ []) (Later (Range Plug addr blocks)) refl (omega arith) (h.0, (omega arith, tt))
    (rw (le-leb blocks 65535 h.1)) (take 3 kinds) (drop 4 kinds) refl
op_written (Range Unplug addr blocks) h =
    any_written (kind.Range Unplug) (addr.0 ∷ blocks ∷ []) (Later (Range Unplug addr blocks)) refl (omega arith) (h.0, (omega arith, tt))
    (rw (le-leb blocks 65535 h.1)) (take 4 kinds) (drop 5 kinds) refl
op_written (Range State addr blocks) h =
    any_written (kind.Range State) (addr.0 ∷ blocks ∷ []) (Later (Range State addr blocks)) refl (omega arith) (h.0, (omega arith, tt))
    (rw (le-leb blocks 65535 h.1)) (take 5 kinds) (drop 6 kinds) refl
op_written UnplugAll h = any_written kind.UnplugAll [] (Later UnplugAll) refl (omega arith) tt refl (take 6 kinds) (drop 7 kinds) refl
op_written (Size mib) h =
    any_written kind.Size (mib ∷ []) (Later (Size mib)) refl (omega arith) (h, tt) refl (take 7 kinds) (drop 8 kinds) refl

written : (line : Line) → InRange line → any_of kinds (text_of line) ≡ Some line
written (First f) h = first_written f.node f refl h
written (Later op) h = op_written op h

-- ---- a line that was read was written

-- no line, or one in its range whose text is t
abbrev Sound : Option Line → List ℕ → Type 0
Sound r t = IfSome r (λ line. InRange line × (text_of line ≡ t))

flag_back : (v : ℕ) → v ≤ 1 → flag (eqb v 1) ≡ v
flag_back zero h = refl
flag_back (suc v) h = let e : v ≡ 0 = omega arith in rw e

tested : (b : Bool) (r : Option Line) (t : List ℕ) → (b ≡ true → Sound r t) → Sound (cond b r None) t
tested true r t f = f refl
tested false r t f = tt

module _ (capacity requested multi : ℕ) (node : Option ℕ) (boot addr slot : ℕ) (t : List ℕ) where
  abbrev line : FirstLine
  line =
      record {
        capacity_mib = capacity;
        requested_mib = requested;
        multi = eqb multi 1;
        node = node;
        boot = boot;
        addr = record { 0 = addr };
        slot = slot;
      }

  first_sound : capacity ≤ largest → requested ≤ largest → NodeInRange node → boot ≤ largest → addr ≤ largest
      → (multi ≤ 1 → first_text node line ≡ t) → Sound (first_line_of capacity requested multi node boot addr slot) t
  first_sound c r n b a f =
      tested (leb multi 1 && leb slot 4294966000) (Some (First line)) t
      (λ e.
      let m = leb-true multi 1 (and_left (leb multi 1) (leb slot 4294966000) e) in
      let s = leb-true slot 4294966000 (and_right (leb multi 1) (leb slot 4294966000) e) in
      (record { capacity = c; requested = r; node = n; boot = b; addr = a; slot = s }, f m))

-- the numbers of a scan make such a line
sound : (k : Kind) (us : List ℕ) → Words us → Sound (made_of k us) (filled (form_of k) (taken 0 (holes (form_of k)) us))
unfolding holes
sound kind.FirstNumbered us w =
    tested (leb (get_or us 3 0) 65535) _ _
    (λ e.
    first_sound (get_or us 0 0) (get_or us 1 0) (get_or us 2 0) (Some (get_or us 3 0)) (get_or us 4 0) (get_or us 5 0) (get_or us 6 0) _ (word us 0 w)
    (word us 1 w) (leb-true _ _ e) (word us 4 w) (word us 5 w) (λ m. rw (flag_back (get_or us 2 0) m)))
sound kind.FirstNone us w =
    first_sound (get_or us 0 0) (get_or us 1 0) (get_or us 2 0) None (get_or us 3 0) (get_or us 4 0) (get_or us 5 0) _ (word us 0 w)
    (word us 1 w) tt (word us 3 w) (word us 4 w) (λ m. rw (flag_back (get_or us 2 0) m))
sound kind.Host us w = tested (leb (get_or us 0 0) 1) _ _ (λ e. (word us 1 w, rw (flag_back (get_or us 0 0) (leb-true _ _ e))))
sound (kind.Range Plug) us w = tested (leb (get_or us 1 0) 65535) _ _ (λ e. ((word us 0 w, leb-true _ _ e), refl))
sound (kind.Range Unplug) us w = tested (leb (get_or us 1 0) 65535) _ _ (λ e. ((word us 0 w, leb-true _ _ e), refl))
sound (kind.Range State) us w = tested (leb (get_or us 1 0) 65535) _ _ (λ e. ((word us 0 w, leb-true _ _ e), refl))
sound kind.UnplugAll us w = (tt, refl)
sound kind.Size us w = (word us 0 w, refl)

or_sound : (r q : Option Line) (t : List ℕ) → Sound r t → Sound q t → Sound (option_or r q) t
or_sound None q t f g = g
or_sound (Some _) q t f g = f

kind_read : (k : Kind) (s : List ℕ) → Sound (kind_of k s) s
unfolding kind_of
kind_read k s =
    tested (is_whole 7 (scan_of (form_of k) s)) _ s
    (λ e. let r = whole_read 7 (form_of k) s e in subst (λ (t : List ℕ). Sound (made_of k (numbers (scan_of (form_of k) s))) t) r.1 (sound k _ r.0))

any_read : (ks : List Kind) (s : List ℕ) → Sound (any_of ks s) s
unfolding any_of
any_read [] s = tt
any_read (k ∷ ks) s = or_sound (kind_of k s) (any_of ks s) s (kind_read k s) (any_read ks s)

-- ---- the promise of `read_line`

pub exact : (s : List ℕ) (r : Option Line) → length s ≤ 200 → r ≡ any_of kinds s → Reads s r
exact s r l e =
    record {
      whole = λ line t. e ∙ ap (any_of kinds) (sym t.text) ∙ written line t.range;
      only = rw e (all (any_of kinds s) (any_read kinds s));
    }
  where
    all : (q : Option Line) → Sound q s → IfSome q (λ line. Text line s)
    all None f = tt
    all (Some _) f = record { range = f.0; text = f.1; short = l }

pub too_long : (s : List ℕ) → 200 < length s → Reads s None
too_long s h = record { whole = λ line t. let l = t.short in absurd (omega arith); only = tt }

-- and it leaves one line only
pub reads_once : (s : List ℕ) (p q : Option Line) → Reads s p → Reads s q → p ≡ q
reads_once s (Some line) q f g = sym (g.whole line f.only)
reads_once s None (Some line) f g = f.whole line g.only
reads_once s None None f g = refl
