-- SPDX-License-Identifier: Apache-2.0 AND BSD-3-Clause
-- `making::Mem::new` meets its contract: 2 before 1, and only then a record.
use Rattle.std.specs.Prelude.{Result}
use Prim.Native.Nat.{◌*◌}
use mathlib.Core.Path.{◌≡◌, ap}
use native.Mathlib.Omega.{arith}
use borrow.Author.Tests.{lt-ltb, le-ltb, eq-eqb, ne_eqb}
use Rattle.record.proofs.Laws.{aligned}
use Rattle.record.specs.declared.Device.{Device}
use Rattle.refusal.specs.declared.Refusal.{Refusal}
use Rattle.making.specs.Made.{made, made_number, MadeAs}
use Rattle.making.proofs.Asked.{asked_is}
use Rattle.making.proofs.Newly.{alignment_ok_lem}
use Rattle.making.proofs.Mem.new.Goals as goal

-- the number goes with the device or the refusal
as_made : {m r : Result Device Refusal} → r ≡ m → MadeAs m r
as_made e = record { same = e; numbered = ap made_number e }

pub returns-then-too_large : goal.returns-then-too_large
unfolding made
returns-then-too_large c = as_made (simp (lt-ltb 1048576 c.args.capacity_mib (omega arith)))

pub returns-then-capacity_mib-eq0 : goal.returns-then-capacity_mib-eq0
unfolding made
returns-then-capacity_mib-eq0 c = as_made (simp (le-ltb 1048576 c.args.capacity_mib (omega arith), eq-eqb _ 0 c.if-capacity_mib-eq0.true))

pub region_of-region-requires : goal.region_of-region-requires
region_of-region-requires c =
    let boot = c.args.boot in
    (omega arith, rw c.alignment_of-alignment.ensures (aligned _ (alignment_ok_lem boot)).high)

pub returns-then-requested_refused : goal.returns-then-requested_refused
unfolding made
returns-then-requested_refused c =
    as_made
    (simp
    (le-ltb 1048576 c.args.capacity_mib (omega arith), ne_eqb _ 0 c.if-capacity_mib-eq0.false, ← c.alignment_of-alignment.ensures, ← c.region_of-region.ensures, ← c.requested_refused.ensures, c.if-requested_refused.true))

pub overflow_mul-requested : goal.overflow_mul-requested
overflow_mul-requested c =
    omega (arith, (asked_is 4194304 (c.args.requested_mib * 1048576) _ _ c.requested_refused.ensures c.if-requested_refused.false).within)

pub returns : goal.returns
unfolding made
returns c =
    as_made
    (simp
    (le-ltb 1048576 c.args.capacity_mib (omega arith), ne_eqb _ 0 c.if-capacity_mib-eq0.false, ← c.alignment_of-alignment.ensures, ← c.region_of-region.ensures, ← c.requested_refused.ensures, c.if-requested_refused.false, c.new_device.ensures))
