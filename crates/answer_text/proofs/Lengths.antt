-- SPDX-License-Identifier: Apache-2.0 AND BSD-3-Clause
-- Every answer has at most 200 bytes (R12.1), and a buffer of 200 bytes has room for it.
use Prim.Native.Nat.{ℕ, ◌+◌, ◌*◌, ◌≤◌}
use mathlib.Core.List.{List}
use native.Mathlib.Omega.{arith}
use lib.ListN.{length}
use Rattle.units.specs.declared.GuestAddr.{GuestAddr}
use Rattle.units.specs.declared.HostAddr.{HostAddr}
use Rattle.units.specs.declared.RegionOffset.{RegionOffset}
use Rattle.text.specs.Decimal.{largest}
use Rattle.forms.specs.Forms.{holes, filled}
use Rattle.forms.proofs.Laws.{Words, taken, filled_length}
use Rattle.answer_text.specs.Texts.{create_text, discard_text, sized_text, response_text, refusal_text}

-- a form whose holes leave room enough
short : (form vs : List ℕ) → length form + 19 * holes form ≤ 200 → Words (taken 0 (holes form) vs) → length (filled form vs) ≤ 200
short form vs h w = let l = filled_length 0 form vs w in omega arith

pub create_short : (guest : GuestAddr) (size slot : ℕ) → guest.0 ≤ largest → size ≤ largest → slot ≤ largest → length (create_text guest size slot) ≤ 200
unfolding holes
create_short guest size slot a b c = short _ _ (omega arith) (a, (b, (c, tt)))

pub discard_short : (offset : RegionOffset) (size : ℕ) (host : HostAddr) → offset.0 ≤ largest → size ≤ largest → host.0 ≤ largest
    → length (discard_text offset size host) ≤ 200
unfolding holes
discard_short offset size host a b c = short _ _ (omega arith) (a, (b, (c, tt)))

pub sized_short : (requested usable : ℕ) → requested ≤ largest → usable ≤ largest → length (sized_text requested usable) ≤ 200
unfolding holes
sized_short requested usable a b = short _ _ (omega arith) (a, (b, tt))

pub response_short : (resp state plugged usable why : ℕ) → resp ≤ largest → state ≤ largest → plugged ≤ largest → usable ≤ largest → why ≤ largest
    → length (response_text resp state plugged usable why) ≤ 200
unfolding holes
response_short resp state plugged usable why a b c d e = short _ _ (omega arith) (a, (b, (c, (d, (e, tt)))))

pub refusal_short : (number : ℕ) → number ≤ largest → length (refusal_text number) ≤ 200
unfolding holes
refusal_short number a = short _ _ (omega arith) (a, tt)
