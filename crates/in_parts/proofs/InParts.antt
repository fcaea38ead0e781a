-- SPDX-License-Identifier: Apache-2.0 AND BSD-3-Clause
-- One big plug or many small ones.
use Prim.Native.Nat.{ℕ, ◌+◌, ◌-◌, ◌%◌, ◌≤◌, ◌<◌}
use mathlib.Core.Path.{◌≡◌, refl, sym, ap, ◌∙◌}
use mathlib.Core.Bool.{Bool, true, false, ◌||◌}
use mathlib.Core.List.{List, [], ◌∷◌, Permᴰ}
use native.Mathlib.Nat.{add-mul}
use native.Mathlib.Omega.{arith}
use borrow.Author.Tests.{eq-eqb, ne_eqb}
use Rattle.units.specs.Numbers.{bytes_of, map_region}
use Rattle.step.specs.World.{World, Call}
use Rattle.step.specs.Step.{step, block_size, start, several, plugged, requested}
use Rattle.history.proofs.Shaped.{clash}
use Rattle.standard.specs.Requests.{Acknowledged}
use Rattle.in_parts.specs.InParts.{Asks, AllAcknowledged, end_after, on_border, OneThenTwo, TwoThenOne, Piece, piece_calls, total_blocks, EachSome, InTurn, border_between, OneThenMany, ManyThenOne, IsPlug, EachPlugs, AnyOrder, OneThenAnyOrder}
use Rattle.in_parts.proofs.Granted.{Granted, taken, Reached, positive_of, granted_first, granted_second, taken_both, granted_joined, granted_no_seam, other_first, then_this, taken_swap, acknowledged_reached, acknowledged_granted, granted_acknowledged, granted_takes, still_reached, not_granted_error}

-- ---- the seam
or_left : (s t : Bool) → (s || t) ≡ false → s ≡ false
or_left true t e = e
or_left false t e = refl

or_right : (s t : Bool) → (s || t) ≡ false → t ≡ false
or_right true t e = clash refl e
or_right false t e = e

apart : (m : Bool) (offset : ℕ) → on_border m offset ≡ false → m ≡ true → offset % map_region ≡ 0 → ⊥
apart m offset e s z = clash (rw (s, eq-eqb (offset % map_region) 0 z)) e

off_border : (m : Bool) (offset : ℕ) → (m ≡ true → offset % map_region ≡ 0 → ⊥) → on_border m offset ≡ false
off_border true offset h = ne_eqb (offset % map_region) 0 (h refl)
off_border false offset h = refl

-- ---- the parts of a range that is granted: acknowledged one after the other, and no border between
some_total : (p : Piece) (ps : List Piece) → 0 < p.blocks → 0 < total_blocks (p ∷ ps)
unfolding total_blocks
some_total p ps h = omega (arith, h)

-- the last part is all that is left
asks_last : (p : Piece) (addr : ℕ) → Asks p.call addr p.blocks → Asks p.call addr (total_blocks (p ∷ []))
unfolding total_blocks
asks_last p addr a = let z : p.blocks + 0 ≡ p.blocks = omega arith in rw z a

in_many : (w : World) (addr : ℕ) (ps : List Piece) (p : Piece) → InTurn (block_size w) addr (p ∷ ps) → EachSome (p ∷ ps) → Reached w → Granted w addr (total_blocks (p ∷ ps))
    → AllAcknowledged w (piece_calls (p ∷ ps)) × (end_after w (piece_calls (p ∷ ps)) ≡ taken w addr (total_blocks (p ∷ ps)))
unfolding InTurn EachSome total_blocks piece_calls AllAcknowledged end_after
in_many w addr [] p turn each r x =
    let a = asks_last p addr turn.0 in
    ((granted_acknowledged w p.call addr _ a r x, tt), granted_takes w p.call addr _ a r x)
in_many w addr (q ∷ ps) p turn each r x =
    let k = p.blocks in
    let m = total_blocks (q ∷ ps) in
    let positive = positive_of w r in
    let x₁ = granted_first w addr k m positive each.0 x in
    let x₂ = granted_second w addr k m positive (some_total q ps each.1.0) x in
    let t = granted_takes w p.call addr k turn.0 r x₁ in
    let rest = in_many (taken w addr k) (addr + bytes_of (block_size w) k) ps q turn.1 each.1 (still_reached w p.call addr k turn.0 r x₁) x₂ in
    ((granted_acknowledged w p.call addr k turn.0 r x₁, rw t rest.0), ap (λ v. end_after v (piece_calls (q ∷ ps))) t ∙ rest.1 ∙ taken_both w addr k m positive x.legal.in_range.from_start)

no_border : (w : World) (addr : ℕ) (ps : List Piece) (p : Piece) → 0 < block_size w → EachSome (p ∷ ps) → Granted w addr (total_blocks (p ∷ ps))
    → border_between (several w) (block_size w) (addr - start w) (p ∷ ps) ≡ false
unfolding EachSome total_blocks border_between
no_border w addr [] p positive each x = refl
no_border w addr (q ∷ ps) p positive each x =
    let k = p.blocks in
    let m = total_blocks (q ∷ ps) in
    let m-some = some_total q ps each.1.0 in
    let o : addr + bytes_of (block_size w) k - start w ≡ addr - start w + bytes_of (block_size w) k = omega (arith, x.legal.in_range.from_start) in
    let rest = no_border (taken w addr k) (addr + bytes_of (block_size w) k) ps q positive each.1 (granted_second w addr k m positive m-some x) in
    rw (rw o at rest) (off_border (several w) _ (granted_no_seam w addr k m positive each.0 m-some x))

-- ---- the range of parts that are acknowledged
-- each has a block, and together they are within the requested size
within_all : (w : World) (addr : ℕ) (ps : List Piece) (p : Piece) → InTurn (block_size w) addr (p ∷ ps) → AllAcknowledged w (piece_calls (p ∷ ps))
    → EachSome (p ∷ ps) × (plugged w + bytes_of (block_size w) (total_blocks (p ∷ ps)) ≤ requested w)
unfolding InTurn EachSome total_blocks piece_calls AllAcknowledged
within_all w addr [] p turn all =
    let x = acknowledged_granted w p.call addr _ (asks_last p addr turn.0) all.0 in
    ((omega (arith, x.legal.in_range.some), tt), x.within)
within_all w addr (q ∷ ps) p turn all =
    let k = p.blocks in
    let r = acknowledged_reached w p.call addr k turn.0 all.0 in
    let x = acknowledged_granted w p.call addr k turn.0 all.0 in
    let t = granted_takes w p.call addr k turn.0 r x in
    let rest = within_all (taken w addr k) (addr + bytes_of (block_size w) k) ps q turn.1 (rw t at all.1) in
    let sum = add-mul k (total_blocks (q ∷ ps)) (block_size w) in
    ((x.legal.in_range.some, rest.0), omega (arith, rest.1))

joined : (w : World) (addr : ℕ) (ps : List Piece) (p : Piece) → InTurn (block_size w) addr (p ∷ ps) → AllAcknowledged w (piece_calls (p ∷ ps))
    → border_between (several w) (block_size w) (addr - start w) (p ∷ ps) ≡ false → Granted w addr (total_blocks (p ∷ ps))
unfolding InTurn total_blocks piece_calls AllAcknowledged border_between
joined w addr [] p turn all border = acknowledged_granted w p.call addr _ (asks_last p addr turn.0) all.0
joined w addr (q ∷ ps) p turn all border =
    let k = p.blocks in
    let seam = addr - start w + bytes_of (block_size w) k in
    let r = acknowledged_reached w p.call addr k turn.0 all.0 in
    let x = acknowledged_granted w p.call addr k turn.0 all.0 in
    let t = granted_takes w p.call addr k turn.0 r x in
    let o : addr + bytes_of (block_size w) k - start w ≡ seam = omega (arith, x.legal.in_range.from_start) in
    let later = or_left (border_between (several w) (block_size w) seam (q ∷ ps)) (on_border (several w) seam) border in
    let here = or_right (border_between (several w) (block_size w) seam (q ∷ ps)) (on_border (several w) seam) border in
    let y = joined (taken w addr k) (addr + bytes_of (block_size w) k) ps q turn.1 (rw t at all.1) (rw o later) in
    granted_joined w addr k (total_blocks (q ∷ ps)) (positive_of w r) x (apart (several w) seam here) y

-- ---- the theorems: in many
pub one_then_many : OneThenMany
unfolding total_blocks
one_then_many w addr whole [] a turn each e =
    let x = acknowledged_granted w whole addr 0 a e in
    absurd (omega (arith, x.legal.in_range.some))
one_then_many w addr whole (p ∷ ps) a turn each e =
    let n = total_blocks (p ∷ ps) in
    let r = acknowledged_reached w whole addr n a e in
    let x = acknowledged_granted w whole addr n a e in
    let q = in_many w addr ps p turn each r x in
    record { all_acknowledged = q.0; same_end = q.1 ∙ sym (granted_takes w whole addr n a r x) }

pub many_then_one : ManyThenOne
unfolding AllAcknowledged piece_calls InTurn
many_then_one w addr whole p ps a turn all =
    let n = total_blocks (p ∷ ps) in
    let r = acknowledged_reached w p.call addr p.blocks turn.0 all.0 in
    let within = within_all w addr ps p turn all in
    record {
      same = λ border.
          let x = joined w addr ps p turn all border in
          (granted_acknowledged w whole addr n a r x, granted_takes w whole addr n a r x ∙ sym (in_many w addr ps p turn within.0 r x).1);
      stopped = λ border. not_granted_error w whole addr n a r within.1 (λ x. clash border (no_border w addr ps p (positive_of w r) within.0 x));
    }

-- ---- in two
abbrev part : ℕ → Call → Piece
part blocks call = record { blocks = blocks; call = call }

pub one_then_two : OneThenTwo
unfolding piece_calls total_blocks InTurn EachSome
one_then_two w addr n k whole first second t k-some less e =
    let sum : n ≡ k + (n - k + 0) = omega arith in
    one_then_many w addr whole (part k first ∷ part (n - k) second ∷ []) (rw sum at t.asks_whole) (t.asks_first, (t.asks_second, tt)) (k-some, (omega arith, tt)) e

pub two_then_one : TwoThenOne
unfolding piece_calls total_blocks InTurn AllAcknowledged border_between
two_then_one w addr n k whole first second t all =
    let x = acknowledged_granted (step w first).world second (addr + bytes_of (block_size w) k) (n - k) t.asks_second all.1.0 in
    let sum : n ≡ k + (n - k + 0) = omega (arith, x.legal.in_range.some) in
    many_then_one w addr whole (part k first) (part (n - k) second ∷ []) (rw sum at t.asks_whole) (t.asks_first, (t.asks_second, tt)) all

-- ---- in any order
either_order : (w : World) (c d : Call) → IsPlug c → IsPlug d → Acknowledged (step w c) → Acknowledged (step (step w c).world d)
    → Acknowledged (step w d) × Acknowledged (step (step w d).world c) × ((step (step w d).world c).world ≡ (step (step w c).world d).world)
either_order w c d p q e f =
    let r = acknowledged_reached w c p.addr p.count p.asks e in
    let x = acknowledged_granted w c p.addr p.count p.asks e in
    let t = granted_takes w c p.addr p.count p.asks r x in
    let w₁ = taken w p.addr p.count in
    let r₁ = still_reached w c p.addr p.count p.asks r x in
    let y = acknowledged_granted w₁ d q.addr q.count q.asks (rw t at f) in
    let x' = then_this w p.addr p.count q.addr q.count x y in
    let y' = other_first w p.addr p.count q.addr q.count x y in
    let t' = granted_takes w d q.addr q.count q.asks r y' in
    let w₂ = taken w q.addr q.count in
    let r₂ = still_reached w d q.addr q.count q.asks r y' in
    let this-end : (step (step w c).world d).world ≡ taken w₁ q.addr q.count = rw t (granted_takes w₁ d q.addr q.count q.asks r₁ y) in
    let other-end : (step (step w d).world c).world ≡ taken w₂ p.addr p.count = rw t' (granted_takes w₂ c p.addr p.count p.asks r₂ x') in
    (granted_acknowledged w d q.addr q.count q.asks r y', rw t' (granted_acknowledged w₂ c p.addr p.count p.asks r₂ x'), other-end ∙ taken_swap w p.addr p.count q.addr q.count ∙ sym this-end)

each_moved : {cs ds : List Call} → Permᴰ cs ds → EachPlugs cs → EachPlugs ds
unfolding EachPlugs
each_moved Permᴰ.nil each = each
each_moved (Permᴰ.cons e d) each = (rw e at each.0, each_moved d each.1)
each_moved (Permᴰ.swap e f) each = (rw f at each.1.0, (rw e at each.0, each.1.1))
each_moved (Permᴰ.trans d e) each = each_moved e (each_moved d each)

moved : {cs ds : List Call} → Permᴰ cs ds → (w : World) → EachPlugs cs → AllAcknowledged w cs → AllAcknowledged w ds × (end_after w ds ≡ end_after w cs)
unfolding EachPlugs AllAcknowledged end_after
moved Permᴰ.nil w each all = (all, refl)
moved (Permᴰ.cons {a = a} e d) w each all =
    let rest = moved d (step w a).world each.1 all.1 in
    rw (← e) ((all.0, rest.0), rest.1)
moved (Permᴰ.swap {a = a} {b = b} {l = l} e f) w each all =
    let two = either_order w a b each.0 each.1.0 all.0 all.1.0 in
    rw (← e, ← f) ((two.0, (two.1, rw two.2 all.1.1)), ap (λ v. end_after v l) two.2)
moved (Permᴰ.trans d e) w each all =
    let one = moved d w each all in
    let other = moved e w (each_moved d each) one.0 in
    (other.0, other.1 ∙ one.1)

pub any_order : AnyOrder
any_order w cs ds each p all = moved p w each all

-- ---- a range, cut in any way, its parts in any order
each_part : (b addr : ℕ) (ps : List Piece) → InTurn b addr ps → EachPlugs (piece_calls ps)
unfolding InTurn piece_calls EachPlugs
each_part b addr [] turn = tt
each_part b addr (p ∷ ps) turn = (record { addr = addr; count = p.blocks; asks = turn.0 }, each_part b (addr + bytes_of b p.blocks) ps turn.1)

pub one_then_any_order : OneThenAnyOrder
one_then_any_order w addr whole ps ds a turn each p e =
    let q = one_then_many w addr whole ps a turn each e in
    let m = moved p w (each_part (block_size w) addr ps turn) q.all_acknowledged in
    record { all_acknowledged = m.0; same_end = m.1 ∙ q.same_end }
