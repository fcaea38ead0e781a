-- SPDX-License-Identifier: Apache-2.0 AND BSD-3-Clause
-- What was saved is the text of a state; where that may be laid it is laid, and the device is then saved as the same text.
use Rattle.std.specs.Prelude.{⊤, Result, Ok, Err}
use Prim.Native.Nat.{ℕ, ◌+◌, ◌/◌, ◌≤◌}
use mathlib.Core.Path.{◌≡◌, refl, ap, ◌∙◌, sym}
use mathlib.Core.Bool.{Bool, true, false, ◌&&◌}
use mathlib.Core.List.{List}
use native.Mathlib.Omega.{arith}
use borrow.Author.Tests.{ltb-false, leb-true, le-leb}
use lib.Dec.{leb}
use lib.ListN.{length, take, drop, length-take}
use lib.Seq.{sets, sets-eq, take-append_seam}
use Rattle.units.proofs.Tests.{by_test, and_left, and_right}
use Rattle.bitmap.specs.Blocks.{blocks}
use Rattle.bitmap.proofs.Laws.{blocks-length}
use Rattle.record.specs.declared.Device.{Device}
use Rattle.record.specs.declared.Pending.{Pending}
use Rattle.record.specs.declared.Pending.TheVariants.{Nothing, Create, Discard, DiscardOne}
use Rattle.record.specs.Shape.{config_shaped_of, shaped_of, is_idle, pending_ok, of_config}
use Rattle.record.proofs.Laws.{Parts, parts, whole, shaped_is}
use Rattle.save.specs.declared.Fields.{Fields}
use Rattle.refusal.specs.declared.Refusal.{Refusal}
use Rattle.refusal.specs.declared.Refusal.TheVariants as refusal
use Rattle.save.specs.Text.{state_text, state_config, shape_ok, all_of, valid_of, IsState, Says}
use Rattle.save.specs.Writing.{blocks_for, is_short, valid_in, text_in, wrote_of, written_on}
use Rattle.save.specs.Reading.{HoldsBlocks}
use Rattle.save.proofs.Text.{valid_shape, state_block, fields_are, one_text}
use Rattle.saving.specs.Saving.{fields_in, entry_refusal, saved_of, Saves}
use Rattle.saving.specs.Restoring.{restored_to, TakenOn, RestoresText}
use Rattle.saving.proofs.Turns.{entry_shaped, same_start, same_region, as_many}

-- ---- saved

-- what a text of n bytes says of the call
record Went (d : Device) (bitmap : List ℕ) (room n : ℕ) : Type 0 where
  pub long : is_short (fields_in d) bitmap ≡ false
  pub valid : valid_in (fields_in d) bitmap ≡ true
  pub fits : length (text_in (fields_in d) bitmap) ≤ room
  pub is_length : n ≡ length (text_in (fields_in d) bitmap)

went : (d : Device) (bitmap : List ℕ) (room n : ℕ) → Ok n ≡ saved_of d bitmap room → Went d bitmap room n
unfolding wrote_of
went d bitmap room n e = go (entry_refusal d) refl
  where
    go : (r : Result ⊤ Refusal) → entry_refusal d ≡ r → Went d bitmap room n
    go (Err why) p = let x : Ok n ≡ Err why = rw p at e in cc
    go (Ok admitted) p =
        let f = fields_in d in
        let len = length (text_in f bitmap) in
        by_test (is_short f bitmap) (λ s. let x : Ok n ≡ Err refusal.TooShort = rw (p, s) at e in cc)
        (λ s.
        by_test (valid_in f bitmap && leb len room)
        (λ v.
        let x : Ok n ≡ Ok len = rw (p, s, v) at e in
        record { long = s; valid = and_left (valid_in f bitmap) _ v; fits = leb-true len room (and_right (valid_in f bitmap) _ v); is_length = cc })
        (λ v. let x : Ok n ≡ Err refusal.NoState = rw (p, s, v) at e in cc))

state_in_lem : (f : Fields) (bitmap : List ℕ) → is_short f bitmap ≡ false → valid_in f bitmap ≡ true → IsState f (blocks_for f bitmap)
state_in_lem f bitmap long valid =
    let b = blocks-length bitmap in
    let l = length-take (all_of f) (blocks bitmap) in
    let k = ltb-false (length bitmap) ((all_of f + 7) / 8) long in
    record { all = omega arith; valid = valid }

-- the text that stands first in a buffer
stands_first : (text before : List ℕ) → length text ≤ length before → take (length text) (sets before 0 text) ≡ text
stands_first text before h = ap (take (length text)) (sets-eq text before 0 (omega arith)) ∙ take-append_seam text (drop (0 + length text) before)

pub saved_says : (d : Device) (bitmap before after : List ℕ) (n : ℕ) → Saves d bitmap before after (Ok n) → Says (take n after) (fields_in d) (blocks_for (fields_in d) bitmap)
saved_says d bitmap before after n s =
    let g = went d bitmap (length before) n s.answer in
    let text = text_in (fields_in d) bitmap in
    record {
      state = state_in_lem (fields_in d) bitmap g.long g.valid;
      text = sym (ap (take n) s.buffer ∙ ap (λ (k : ℕ). take k (sets before 0 text)) g.is_length ∙ stands_first text before g.fits);
    }

-- ---- restored

pub is_laid : (d : Device) (text bitmap bitmap' : List ℕ) (f : Fields) (bs : List Bool) → entry_refusal d ≡ Ok tt → TakenOn d text bitmap f bs
    → (r : Result Device Refusal) → RestoresText d text bitmap bitmap' r → (r ≡ Ok (restored_to f d)) × HoldsBlocks bs bitmap bitmap'
is_laid d text bitmap bitmap' f bs z t (Ok d') h =
    let o = one_text text h.fields f h.bs bs h.taken.says t.says in
    (ap Ok (h.device ∙ ap (λ (x : Fields). restored_to x d) o.0), rw o.1 at h.bitmap)
is_laid d text bitmap bitmap' f bs z t (Err why) h = absurd (h.none z f bs t)

-- ---- saved again

idle_ok : (p : Pending) (b region : ℕ) (several : Bool) (plugged : ℕ) → is_idle p ≡ true → pending_ok p b region several plugged ≡ true
unfolding pending_ok
idle_ok Nothing b region several plugged e = refl
idle_ok (Create first last) b region several plugged e = let z : ◌≡◌ {A = ℕ} 0 1 = cc in absurd (omega arith)
idle_ok (Discard first count status) b region several plugged e = let z : ◌≡◌ {A = ℕ} 0 1 = cc in absurd (omega arith)
idle_ok (DiscardOne block status) b region several plugged e = let z : ◌≡◌ {A = ℕ} 0 1 = cc in absurd (omega arith)

form_parts : (f : Fields) → shape_ok f ≡ true → Parts (of_config (state_config f))
unfolding config_shaped_of
form_parts f e = parts (of_config (state_config f)) e

module _ (d : Device) (text bitmap bitmap' : List ℕ) (f : Fields) (bs : List Bool) (z : entry_refusal d ≡ Ok tt) (t : TakenOn d text bitmap f bs) where
  same_block : f.block ≡ d.config.block_size
  same_block = state_block t.says.state ∙ sym (shaped_is d (entry_shaped d z).0).block_size

  still_shaped : shaped_of (restored_to f d) ≡ true
  still_shaped =
      let p = parts d (entry_shaped d z).0 in
      let q = form_parts f (valid_shape t.says.state) in
      let r = same_region d (blocks bitmap) f t.fits in
      whole (restored_to f d)
      (record {
        block = p.block;
        region = p.region;
        requested = rw (← same_block, ← r) q.requested;
        usable = p.usable;
        plugged = rw (← same_block, ← r) q.plugged;
        start = p.start;
        several = p.several;
        pending = idle_ok d.pending _ _ _ _ (entry_shaped d z).1;
      })

  pub still_admitted : entry_refusal (restored_to f d) ≡ Ok tt
  unfolding entry_refusal
  still_admitted = let s = still_shaped in let i = (entry_shaped d z).1 in rw (s, i)

  module _ (u : d.config.usable_region_size ≡ f.usable) (h : HoldsBlocks bs bitmap bitmap') where
    same_fields : fields_in (restored_to f d) ≡ f
    same_fields =
        fields_are (fields_in (restored_to f d)) f (sym same_block) (sym (same_start d (blocks bitmap) f t.fits))
        (sym (same_region d (blocks bitmap) f t.fits)) refl u refl

    still_long : is_short (fields_in (restored_to f d)) bitmap' ≡ false
    still_long = let l = h.outside.same_length in rw l t.long

    same_blocks : blocks_for (fields_in (restored_to f d)) bitmap' ≡ bs
    same_blocks =
        let rest = drop (length bs) (blocks bitmap) in
        ap (λ (n : ℕ). take n (blocks bitmap')) (as_many d text bitmap f bs z t)
        ∙ ap (take (length bs)) h.as_blocks
        ∙ take-append_seam bs rest

    same_text : text_in (fields_in (restored_to f d)) bitmap' ≡ text
    same_text = ap (state_text 2 (fields_in (restored_to f d))) same_blocks ∙ ap (λ (g : Fields). state_text 2 g bs) same_fields ∙ t.says.text

    still_valid : valid_in (fields_in (restored_to f d)) bitmap' ≡ true
    still_valid = ap (valid_of (fields_in (restored_to f d))) same_blocks ∙ ap (λ (g : Fields). valid_of g bs) same_fields ∙ t.says.state.valid

    pub saved_again : (before after : List ℕ) (w : Result ℕ Refusal) → length text ≤ length before → Saves (restored_to f d) bitmap' before after w
        → (w ≡ Ok (length text)) × (take (length text) after ≡ text)
    unfolding wrote_of
    saved_again before after w room s =
        let a = still_admitted in
        let l = still_long in
        let v = still_valid in
        let len : length (text_in (fields_in (restored_to f d)) bitmap') ≡ length text = ap length same_text in
        let fits = le-leb (length text) (length before) room in
        let answer : w ≡ Ok (length text) = s.answer ∙ rw (a, l, v, len, fits) in (
          answer,
          ap (take (length text)) (s.buffer ∙ ap (λ (x : Result ℕ Refusal). written_on x (text_in (fields_in (restored_to f d)) bitmap') before) answer ∙ ap (sets before 0) same_text)
              ∙ stands_first text before room,
        )
