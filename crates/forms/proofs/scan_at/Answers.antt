-- SPDX-License-Identifier: Apache-2.0 AND BSD-3-Clause
-- `forms::scan_at` meets its contract. The invariant: with the values so far, what is left to scan gives the whole's answer (`Left`).
use Prim.Native.Nat.{min}
use mathlib.Core.Path.{◌≡◌, sym, ◌∙◌}
use native.Mathlib.Omega.{arith}
use Rattle.std.proofs.Common.{rules}
use lib.ListN.{length}
use Rattle.forms.proofs.Turns.{begin, no_room, no_number, hole_turn, no_byte, other_byte, byte_turn, at_end}
use Rattle.forms.proofs.scan_at.Goals as goal
use Rattle.forms.proofs.scan_at.Goals.{then-t-eq-HOLE+else-values-k+in_ok-number, else-t-eq-HOLE+in-Some+else-byte-t}

pub loop-t-init : goal.loop-t-init
loop-t-init c = let start : c.min-i.result ≡ min c.args.at (length c.args.s.now) = search rules in begin _ _ _ _ _ start

pub returns-then-values-k : goal.returns-then-values-k
returns-then-values-k c = no_room c.loop-t.invariant c.loop-t-test.true c.if-t-eq-HOLE.true c.if-values-k.true

pub returns-in_err-number : goal.returns-in_err-number
returns-in_err-number c =
    rw c.from_residual.ensures
    (no_number c.loop-t.invariant c.loop-t-test.true c.if-t-eq-HOLE.true _ c.if-values-k.false c.read_number.ensures c.in_err-number.was)

pub returns-in_default : goal.returns-in_default
returns-in_default c = no_byte c.loop-t.invariant c.loop-t-test.true c.if-t-eq-HOLE.false c.in_default.ensures.lookup.3

pub returns-then-byte-t : goal.returns-then-byte-t
returns-then-byte-t c =
    let there = c.in-Some.ensures.lookup in
    other_byte c.loop-t.invariant c.loop-t-test.true c.if-t-eq-HOLE.false there.3.0 (λ e. c.if-byte-t.true (there.4 (omega arith) 0 ∙ e))

pub loop-t-preserved : goal.loop-t-preserved
loop-t-preserved c =
    elim c.if-t-eq-HOLE.branch [
      | then-t-eq-HOLE+else-values-k+in_ok-number w ↦
          let n = w.in_ok-number.number in
          rw (w.values-is, w.i-is, w.k-is)
          (hole_turn c.loop-t.invariant c.loop-t-test.true w.if-t-eq-HOLE.true _ w.if-values-k.false w.read_number.ensures n.value n.next w.in_ok-number.was)
      | else-t-eq-HOLE+in-Some+else-byte-t w ↦
          let there = w.in-Some.ensures.lookup in
          rw (w.values-is, w.i-is, w.k-is)
          (byte_turn c.loop-t.invariant c.loop-t-test.true w.if-t-eq-HOLE.false there.3.0 (sym (there.4 (omega arith) 0) ∙ w.if-byte-t.false))
    ]

pub returns : goal.returns
returns c = at_end c.loop-t.invariant c.loop-t-test.false
