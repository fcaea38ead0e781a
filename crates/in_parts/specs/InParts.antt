-- SPDX-License-Identifier: Apache-2.0 AND BSD-3-Clause
-- One big plug or many small ones (R16): what holds of the plug of a range, of the plugs of its parts, and of a plug under a higher requested size. In any world: no run need have led to it, and the tables may be spoiled.
use Rattle.std.specs.Prelude.{ℕ, ◌+◌, ◌-◌, ◌*◌, ◌^◌, ◌%◌, ◌≤◌, ◌<◌, ◌≡◌, Bool, true, false, ◌&&◌, ◌||◌, eqb, get_or}
use mathlib.Core.List.{List, [], ◌∷◌, Permᴰ}
use Rattle.units.specs.Numbers.{bytes_of, map_region, MiB}
use Rattle.units.specs.declared.GuestAddr.{GuestAddr}
use Rattle.wire.specs.declared.VirtioMemReq.{VirtioMemReq}
use Rattle.chain.specs.Chain.{asked, parsed}
use Rattle.record.specs.Shape.{size_ok}
use Rattle.record.specs.Changes.{requested_to}
use Rattle.step.specs.declared.Answer.TheVariants.{Refused, Sized}
use Rattle.step.specs.World.{World, Guest, Call, SetRequestedSize, Request}
use Rattle.step.specs.Step.{step, block_size, region, start, several, requested, device_of}
use Rattle.standard.specs.Requests.{Acknowledged, Rejected, VIRTIO_MEM_REQ_PLUG}

-- ---- a plug, as the guest asks for it
abbrev pub plug_request : (addr count : ℕ) → VirtioMemReq
plug_request addr count = record { req_type = VIRTIO_MEM_REQ_PLUG; addr = record { 0 = addr }; nb_blocks = count }

-- the call is a request whose chain asks for a plug of `count` blocks at addr
pub record Asks (c : Call) (addr count : ℕ) : Type 0 where
  pub guest : Guest
  pub descriptors : ℕ
  pub head : ℕ
  pub status : GuestAddr
  pub is_request : c ≡ Request guest descriptors head
  pub reads : parsed guest.mem guest.base descriptors head ≡ asked (plug_request addr count) status

-- R16.3: so many blocks a call can ask for, whatever the address, and no more in memory whose every byte is below 256
pub record Askable (addr count : ℕ) : Type 0 where
  pub call : Call
  pub asks : Asks call addr count

abbrev pub AnyUpTo65535 : Type 0
AnyUpTo65535 = (addr count : ℕ) → addr < 2 ^ 64 → count ≤ 65535 → Askable addr count

abbrev pub NoneAbove65535 : Type 0
NoneAbove65535 = (c : Call) (addr count : ℕ) (a : Asks c addr count) → ((i : ℕ) → get_or a.guest.mem i 0 < 256) → count ≤ 65535

-- ---- calls one after the other: each is acknowledged; and the record, bits and rows that they end in
unfoldable pub AllAcknowledged : World → List Call → Type 0
AllAcknowledged w [] = Unit {0}
AllAcknowledged w (c ∷ cs) = Acknowledged (step w c) × AllAcknowledged (step w c).world cs

unfoldable pub end_after : World → List Call → World
end_after w [] = w
end_after w (c ∷ cs) = end_after (step w c).world cs

-- the calls are acknowledged, and end where the one call ends: whatever is called next has the same outcome
pub record SameAs (w : World) (cs : List Call) (whole : Call) : Type 0 where
  pub all_acknowledged : AllAcknowledged w cs
  pub same_end : end_after w cs ≡ (step w whole).world

-- ---- in two
-- with several regions, this offset is a 2 GiB border
abbrev pub on_border : (several : Bool) (offset : ℕ) → Bool
on_border several offset = several && eqb (offset % map_region) 0

-- the n blocks at addr, the first k of them, and the other n - k
pub record InTwo (b addr n k : ℕ) (whole first second : Call) : Type 0 where
  pub asks_whole : Asks whole addr n
  pub asks_first : Asks first addr k
  pub asks_second : Asks second (addr + bytes_of b k) (n - k)

-- R16.1
abbrev pub OneThenTwo : Type 0
OneThenTwo = (w : World) (addr n k : ℕ) (whole first second : Call) → InTwo (block_size w) addr n k whole first second → 0 < k → k < n
    → Acknowledged (step w whole) → SameAs w (first ∷ second ∷ []) whole

-- R16.2, of the whole where its parts are acknowledged: without a border between so is it, and it ends as they do; with one it is ERROR
pub record Joined (w : World) (border : Bool) (cs : List Call) (whole : Call) : Type 0 where
  pub same : border ≡ false → Acknowledged (step w whole) × ((step w whole).world ≡ end_after w cs)
  pub stopped : border ≡ true → Rejected (step w whole)

abbrev pub TwoThenOne : Type 0
TwoThenOne = (w : World) (addr n k : ℕ) (whole first second : Call) → InTwo (block_size w) addr n k whole first second
    → AllAcknowledged w (first ∷ second ∷ []) → Joined w (on_border (several w) (addr - start w + bytes_of (block_size w) k)) (first ∷ second ∷ []) whole

-- ---- R16.4, in many: the same of any way to cut a range
-- a part: how many blocks, and the call that asks for them
pub record Piece : Type 0 where
  pub blocks : ℕ
  pub call : Call

unfoldable pub piece_calls : List Piece → List Call
piece_calls [] = []
piece_calls (p ∷ ps) = p.call ∷ piece_calls ps

unfoldable pub total_blocks : List Piece → ℕ
total_blocks [] = 0
total_blocks (p ∷ ps) = p.blocks + total_blocks ps

-- each part has a block
unfoldable pub EachSome : List Piece → Type 0
EachSome [] = Unit {0}
EachSome (p ∷ ps) = (0 < p.blocks) × EachSome ps

-- the first part is asked for at addr, and each other where the one before it ends
unfoldable pub InTurn : (b addr : ℕ) → List Piece → Type 0
InTurn b addr [] = Unit {0}
InTurn b addr (p ∷ ps) = Asks p.call addr p.blocks × InTurn b (addr + bytes_of b p.blocks) ps

-- with several regions, a 2 GiB border lies between two of the parts, of which the first is at this offset
unfoldable pub border_between : (several : Bool) (b offset : ℕ) → List Piece → Bool
border_between several b offset [] = false
border_between several b offset (p ∷ []) = false
border_between several b offset (p ∷ q ∷ ps) = border_between several b (offset + bytes_of b p.blocks) (q ∷ ps) || on_border several (offset + bytes_of b p.blocks)

abbrev pub OneThenMany : Type 0
OneThenMany = (w : World) (addr : ℕ) (whole : Call) (parts : List Piece) → Asks whole addr (total_blocks parts) → InTurn (block_size w) addr parts → EachSome parts
    → Acknowledged (step w whole) → SameAs w (piece_calls parts) whole

abbrev pub ManyThenOne : Type 0
ManyThenOne = (w : World) (addr : ℕ) (whole : Call) (p : Piece) (ps : List Piece) → let parts = p ∷ ps in Asks whole addr (total_blocks parts) → InTurn (block_size w) addr parts
    → AllAcknowledged w (piece_calls parts) → Joined w (border_between (several w) (block_size w) (addr - start w) parts) (piece_calls parts) whole

-- ---- R16.4, in any order: plugs that are all acknowledged in one order are so in every other, and the end is the same. They need not be parts of one range
pub record IsPlug (c : Call) : Type 0 where
  pub addr : ℕ
  pub count : ℕ
  pub asks : Asks c addr count

unfoldable pub EachPlugs : List Call → Type 0
EachPlugs [] = Unit {0}
EachPlugs (c ∷ cs) = IsPlug c × EachPlugs cs

abbrev pub AnyOrder : Type 0
AnyOrder = (w : World) (cs ds : List Call) → EachPlugs cs → Permᴰ cs ds
    → AllAcknowledged w cs → AllAcknowledged w ds × (end_after w ds ≡ end_after w cs)

-- so a range may be cut in any way, and its parts asked for in any order
abbrev pub OneThenAnyOrder : Type 0
OneThenAnyOrder = (w : World) (addr : ℕ) (whole : Call) (parts : List Piece) (ds : List Call) → Asks whole addr (total_blocks parts) → InTurn (block_size w) addr parts → EachSome parts
    → Permᴰ (piece_calls parts) ds → Acknowledged (step w whole) → SameAs w ds whole

-- ---- R16.5: a higher requested size, with all else equal
abbrev pub requested_at : ℕ → World → World
requested_at r w = device_of (requested_to r w.device) w

-- the whole answer, its length and the guest's bytes are the same, and so is the end but for the requested size
pub record Raised (r : ℕ) (w : World) (c : Call) : Type 0 where
  pub same_answer : (step (requested_at r w) c).answer ≡ (step w c).answer
  pub same_bytes : (step (requested_at r w) c).bytes ≡ (step w c).bytes
  pub same_end : (step (requested_at r w) c).world ≡ requested_at r (step w c).world

-- R16.5: to a size that a record may have, whole blocks and at most the region; with any other it has lost its shape, and every call is refused
abbrev pub RaisingKeeps : Type 0
RaisingKeeps = (w : World) (r addr count : ℕ) (c : Call) → Asks c addr count → requested w ≤ r → Acknowledged (step w c)
    → (size_ok (block_size w) r (region w) ≡ true → Raised r w c) × (size_ok (block_size w) r (region w) ≡ false → (step (requested_at r w) c).answer ≡ Refused 12)

-- R16.6: as an owner raises it, by a size change to no less. More may then be usable too; where that needs a creation, requests are refused (7) until the host has answered. Where the change is done at once the plug is answered as before
abbrev pub RaisingByCall : Type 0
RaisingByCall = (w : World) (mib addr count : ℕ) (c : Call) → Asks c addr count → requested w ≤ mib * MiB → (step w (SetRequestedSize mib)).answer ≡ Sized
    → Acknowledged (step w c) → (step (step w (SetRequestedSize mib)).world c).answer ≡ (step w c).answer
