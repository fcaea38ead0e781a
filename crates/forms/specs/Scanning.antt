-- SPDX-License-Identifier: Apache-2.0 AND BSD-3-Clause
-- What scanning does, step by step. That it undoes filling, and nothing else, is proved in proofs/Laws.antt.
use Rattle.std.specs.Prelude.{ℕ, ◌-◌, ◌≡◌, Bool, false, cond, List, [], ◌∷◌, eqb, leb, length, Option, Some, None}
use Rattle.std.proofs.lemmas.List.Edits.{sets}
use Rattle.text.specs.Reading.{Got, got, nothing, word_of}
use Rattle.forms.specs.Forms.{is_hole}

-- a text starts with a filled form, with these numbers in its holes, and goes on with `rest`; or it does not, and these are the
-- numbers that were read up to where it was lost
pub data Scan : Type 0 where
  found : (numbers rest : List ℕ) → Scan
  lost : (numbers : List ℕ) → Scan

abbrev pub numbers : (scan : Scan) → List ℕ
numbers (found us rest) = us
numbers (lost us) = us

-- a scan, after the number v
unfoldable pub push : (v : ℕ) (scan : Scan) → Scan
push v (found us rest) = found (v ∷ us) rest
push v (lost us) = lost (v ∷ us)

-- in a hole stands a number; `next` scans the text after it
unfoldable pub hole_then : (number : Got) (next : List ℕ → Scan) → Scan
hole_then nothing next = lost []
hole_then (got v rest) next = push v (next rest)

-- any other byte of a form stands for itself
unfoldable pub byte_then : (t : ℕ) (s : List ℕ) (next : List ℕ → Scan) → Scan
byte_then t [] next = lost []
byte_then t (x ∷ xs) next = cond (eqb x t) (next xs) (lost [])

-- the form, byte for byte, at the start of the text s
unfoldable pub scan_of : (form s : List ℕ) → Scan
scan_of [] s = found [] s
scan_of (t ∷ ts) s = cond (is_hole t) (hole_then (word_of s) (scan_of ts)) (byte_then t s (scan_of ts))

-- ---- what is told of a scan: a form with more numbers than there is room for is not found

-- the whole text is a filled form: nothing is left after it
abbrev pub is_whole : (room : ℕ) (scan : Scan) → Bool
is_whole room (found us []) = leb (length us) room
is_whole room (found us (x ∷ xs)) = false
is_whole room (lost us) = false

-- where the text s, whose end was scanned, goes on: the one position of s from which on just the rest is left
abbrev pub place_in : (room : ℕ) (s : List ℕ) (scan : Scan) → Option ℕ
place_in room s (found us rest) = cond (leb (length us) room) (Some (length s - length rest)) None
place_in room s (lost us) = None

-- the numbers that were read stand first in the values, as many as there is room for, and no other changed
pub record Scanned (before : List ℕ) (scan : Scan) (r : Bool) (after : List ℕ) : Type 0 where
  pub answer : r ≡ is_whole (length before) scan
  pub values : after ≡ sets before 0 (numbers scan)

pub record ScannedAt (before s : List ℕ) (scan : Scan) (r : Option ℕ) (after : List ℕ) : Type 0 where
  pub answer : r ≡ place_in (length before) s scan
  pub values : after ≡ sets before 0 (numbers scan)
