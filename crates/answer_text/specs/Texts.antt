-- SPDX-License-Identifier: Apache-2.0 AND BSD-3-Clause
-- What a trace prints (R12.6): the text of each answer.
use Rattle.std.specs.Prelude.{ℕ, List, [], ◌∷◌}
use Rattle.units.specs.declared.GuestAddr.{GuestAddr}
use Rattle.units.specs.declared.HostAddr.{HostAddr}
use Rattle.units.specs.declared.RegionOffset.{RegionOffset}
use Rattle.text.specs.Words.{bytes}
use Rattle.forms.specs.Forms.{filled}

-- the question for a creation: `want=create guest=4294967296 size=268435456 slot=1`
abbrev pub create_text : (guest : GuestAddr) (size slot : ℕ) → List ℕ
create_text guest size slot = filled (bytes "want=create guest=# size=# slot=#") (guest.0 ∷ size ∷ slot ∷ [])

-- the question for a discard: `want=discard offset=0 size=4194304 host=140737488355328`
abbrev pub discard_text : (offset : RegionOffset) (size : ℕ) (host : HostAddr) → List ℕ
discard_text offset size host = filled (bytes "want=discard offset=# size=# host=#") (offset.0 ∷ size ∷ host.0 ∷ [])

-- a size change that is done, 0: `sized=0 requested=16777216 usable=268435456`
abbrev pub sized_text : (requested usable : ℕ) → List ℕ
sized_text requested usable = filled (bytes "sized=0 requested=# usable=#") (requested ∷ usable ∷ [])

-- a response: `resp=0 state=2 plugged=8388608 usable=268435456 why=0`
abbrev pub response_text : (resp state plugged usable why : ℕ) → List ℕ
response_text resp state plugged usable why =
    filled (bytes "resp=# state=# plugged=# usable=# why=#") (resp ∷ state ∷ plugged ∷ usable ∷ why ∷ [])

-- a refusal, 10 too: `refuse=13`
abbrev pub refusal_text : ℕ → List ℕ
refusal_text number = filled (bytes "refuse=#") (number ∷ [])
