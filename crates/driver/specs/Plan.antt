-- SPDX-License-Identifier: Apache-2.0 AND BSD-3-Clause
-- The planner (R14.5 to R14.8), over numbers and the list of blocks. b is the block size.
use Rattle.std.specs.Prelude.{ℕ, suc, ◌+◌, ◌-◌, ◌*◌, ◌/◌, min, Bool, cond, not, List, eqb, ltb, length, Option, Some, None, Result, Ok, Err}
use Rattle.refusal.specs.declared.Refusal.{Refusal}
use Rattle.refusal.specs.declared.Refusal.TheVariants.{NoShape, TooShort, NothingToPlug}
use Rattle.units.specs.declared.GuestAddr.{GuestAddr}
use Rattle.units.specs.Numbers.{bytes_of, blocks_in, map_region}
use Rattle.bitmap.specs.Blocks.{next_set, next_clear}
use Rattle.wire.specs.declared.VirtioMemConfig.{VirtioMemConfig}
use Rattle.record.specs.Shape.{config_shaped_of}
use Rattle.driver.specs.declared.Plug.{Plug}

-- what the planner gives: a plug, or why there is none
abbrev pub Proposal : Type 0
Proposal = Result Plug Refusal

-- the proposal of a plug of `count` blocks from an address on
abbrev pub plugging : GuestAddr → (count : ℕ) → Proposal
plugging addr count = Ok (record { addr = addr; nb_blocks = count })

-- R1.17: there is none to propose
abbrev pub no_plug : Proposal
no_plug = Err NothingToPlug

-- R14.7: the block behind the 2 GiB border of offsets that comes next
abbrev pub border_after : (b first : ℕ) → ℕ
border_after b first = suc (first / blocks_in b map_region) * blocks_in b map_region

-- the blocks up to the usable end and the border
abbrev pub limit_of : (b usable first : ℕ) → ℕ
limit_of b usable first = min (blocks_in b usable) (border_after b first)

abbrev pub stop_at : Option ℕ → ℕ → ℕ
stop_at (Some next) limit = next
stop_at None limit = limit

-- R14.7: where the next plugged block, the border or the usable end stops the plug
abbrev pub stop_of : (b usable : ℕ) → List Bool → (first : ℕ) → ℕ
stop_of b usable bs first = stop_at (next_set bs first (limit_of b usable first)) (limit_of b usable first)

-- R14.7: the blocks that the requested size has room for
abbrev pub room_of : (b plugged requested : ℕ) → ℕ
room_of b plugged requested = blocks_in b (requested - plugged)

abbrev pub count_of : (b usable plugged requested : ℕ) → List Bool → (first : ℕ) → ℕ
count_of b usable plugged requested bs first = min (stop_of b usable bs first - first) (room_of b plugged requested)

-- R14.6, R14.8, R1.17: a plug from the lowest free block on, or 17
unfoldable pub plan_at : Option ℕ → (b start usable plugged requested : ℕ) → List Bool → Proposal
plan_at None b start usable plugged requested bs = no_plug
plan_at (Some first) b start usable plugged requested bs =
    cond (eqb (room_of b plugged requested) 0) no_plug
    (plugging (record { 0 = start + bytes_of b first }) (count_of b usable plugged requested bs first))

-- R14.5: 12, 11, then 17 or the plug
unfoldable pub plan_of : VirtioMemConfig → List Bool → Proposal
plan_of c bs =
    let b = c.block_size in
    cond (not (config_shaped_of c)) (Err NoShape)
    (cond (ltb (length bs) (blocks_in b c.region_size)) (Err TooShort)
    (plan_at (next_clear bs 0 (blocks_in b c.usable_region_size))
    b c.addr.0 c.usable_region_size c.plugged_size c.requested_size bs))
