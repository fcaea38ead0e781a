-- SPDX-License-Identifier: Apache-2.0 AND BSD-3-Clause
-- `plan` meets its contract.
use Rattle.std.specs.Prelude.{Option, Some, None, Err}
use Prim.Native.Nat.{ℕ}
use mathlib.Core.Path.{◌≡◌, refl, sym, ◌∙◌}
use mathlib.Core.Bool.{Bool, true, false}
use mathlib.Core.List.{List}
use native.Mathlib.Omega.{arith}
use lib.Dec.{ltb}
use lib.ListN.{length}
use borrow.Author.Tests.{ne_eqb, eq-eqb}
use Rattle.units.specs.Numbers.{blocks_in, map_region}
use Rattle.units.proofs.Tests.{flag}
use Rattle.bitmap.specs.Blocks.{blocks, next_clear}
use Rattle.record.specs.Shape.{config_shaped_of, of_config}
use Rattle.record.proofs.Laws.{Shaped, config_shaped_is}
use Rattle.refusal.specs.declared.Refusal.TheVariants.{NothingToPlug}
use Rattle.driver.specs.Plan.{room_of, plan_at, plan_of}
use Rattle.driver.proofs.Laws.{Starts, starts, count_few}
use borrow.Author.Rules.{rules}
use Rattle.driver.proofs.plan.Goals as goal
use Rattle.driver.proofs.plan.Goals.{Else-not-config_shaped, Else-too_short, In_ok-lowest}

-- past the tests: the shape (12), the length (11), the lowest free block and the room (17)
shape : (c : Else-not-config_shaped) → config_shaped_of c.args.config ≡ true
shape c = flag _ _ _ c.config_shaped.ensures c.if-not-config_shaped.false

numbers : (c : Else-not-config_shaped) → Shaped (of_config c.args.config)
numbers c = config_shaped_is c.args.config (shape c)

long : (c : Else-too_short) → (let a = c.args in ltb (length (blocks a.bitmap.now)) (blocks_in a.config.block_size a.config.region_size)) ≡ false
long c = flag _ _ _ c.too_short.ensures c.if-too_short.false

lowest : (c : In_ok-lowest) → (let a = c.args in next_clear (blocks a.bitmap.now) 0 (blocks_in a.config.block_size a.config.usable_region_size)) ≡ Some c.in_ok-lowest.lowest
lowest c = sym c.next_clear.ensures ∙ c.in_ok-lowest.ensures.ok_part

-- without room it is 17, whatever the search would find
no_room : (x : Option ℕ) (b start usable plugged requested : ℕ) (bs : List Bool) → room_of b plugged requested ≡ 0 → Err NothingToPlug ≡ plan_at x b start usable plugged requested bs
unfolding plan_at
no_room None b start usable plugged requested bs z = refl
no_room (Some i) b start usable plugged requested bs z = simp (eq-eqb _ _ z)

pub returns-then-not-config_shaped : goal.returns-then-not-config_shaped
unfolding plan_of
returns-then-not-config_shaped c = simp (flag _ _ _ c.config_shaped.ensures c.if-not-config_shaped.true)

pub nonzero_div-config : goal.nonzero_div-config
nonzero_div-config c = let n = (numbers (goal.at.nonzero_div-config c).Else-not-config_shaped).block_size in omega arith

pub returns-then-too_short : goal.returns-then-too_short
unfolding plan_of
returns-then-too_short c = simp (shape (goal.at.returns-then-too_short c).Else-not-config_shaped, flag _ _ _ c.too_short.ensures c.if-too_short.true)

pub room_of-room-requires : goal.room_of-room-requires
room_of-room-requires c = let n = (numbers (goal.at.room_of-room-requires c).Else-not-config_shaped).block_size in omega arith

pub returns-then-room-eq0 : goal.returns-then-room-eq0
unfolding plan_of
returns-then-room-eq0 c = simp (shape (goal.at.returns-then-room-eq0 c).Else-not-config_shaped, long (goal.at.returns-then-room-eq0 c).Else-too_short) (no_room _ _ _ _ _ _ _ (sym c.room_of-room.ensures ∙ c.if-room-eq0.true))

pub nonzero_div-usable : goal.nonzero_div-usable
nonzero_div-usable c = let n = (numbers (goal.at.nonzero_div-usable c).Else-not-config_shaped).block_size in omega arith

pub returns-in_err-lowest : goal.returns-in_err-lowest
unfolding plan_of plan_at
returns-in_err-lowest c =
    let none = sym c.next_clear.ensures ∙ c.in_err-lowest.ensures.ok_part in
    simp (shape (goal.at.returns-in_err-lowest c).Else-not-config_shaped, long (goal.at.returns-in_err-lowest c).Else-too_short, none) (search (rules, rw c.in_err-lowest.ensures.ok_part at c.in_err-lowest.ensures.value))

-- past the lowest free block
found : (c : In_ok-lowest) → Shaped (of_config c.args.config) → let a = c.args in Starts (blocks a.bitmap.now) a.config.block_size a.config.usable_region_size c.in_ok-lowest.lowest
found c n =
    let a = c.args in
    starts (blocks a.bitmap.now) a.config.block_size a.config.usable_region_size _ (omega (arith, n.block_size)) (lowest c)

pub count_of-count-requires : goal.count_of-count-requires
count_of-count-requires c =
    let n = numbers (goal.at.count_of-count-requires c).Else-not-config_shaped in
    let f = found (goal.at.count_of-count-requires c).In_ok-lowest n in
    record {
      block_size_nonzero = (omega (arith, n.block_size), omega (arith, n.block_size));
      first_bound = (omega (arith, n.usable_in, n.region_top, f.below), f.before_end);
    }

pub overflow_mul-result : goal.overflow_mul-result
overflow_mul-result c =
    let n = numbers (goal.at.overflow_mul-result c).Else-not-config_shaped in
    let f = found (goal.at.overflow_mul-result c).In_ok-lowest n in
    search (rules, f.bytes, n.usable_in, n.region_top)

pub overflow_add-result : goal.overflow_add-result
overflow_add-result c =
    let n = numbers (goal.at.overflow_add-result c).Else-not-config_shaped in
    let f = found (goal.at.overflow_add-result c).In_ok-lowest n in
    search (rules, f.bytes, n.usable_in, n.start_region)

pub overflow_cast-result : goal.overflow_cast-result
overflow_cast-result c =
    let a = c.args in
    let n = numbers (goal.at.overflow_cast-result c).Else-not-config_shaped in
    let e : blocks_in a.config.block_size map_region ≡ 512 = rw n.block_size in
    let k = count_few a.config.block_size a.config.usable_region_size a.config.plugged_size a.config.requested_size (blocks a.bitmap.now) c.in_ok-lowest.lowest (omega arith) in
    let r = rw c.room_of-room.ensures at c.count_of-count.ensures in
    search (rules, e, k, r)

pub returns : goal.returns
unfolding plan_of plan_at
returns c =
    let r = rw c.room_of-room.ensures at c.count_of-count.ensures in
    let z = rw c.room_of-room.ensures at (ne_eqb _ _ c.if-room-eq0.false) in
    simp (shape (goal.at.returns c).Else-not-config_shaped, long (goal.at.returns c).Else-too_short, lowest (goal.at.returns c).In_ok-lowest, z, r)
