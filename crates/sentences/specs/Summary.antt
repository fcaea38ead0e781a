-- SPDX-License-Identifier: Apache-2.0 AND BSD-3-Clause
-- What is said at the end of a run (R12.14): how far the guest is from what was requested, and the map of blocks.
use Rattle.std.specs.Prelude.{ℕ, zero, suc, ◌+◌, ◌-◌, Bool, true, false, cond, ◌&&◌, List, [], ◌∷◌, ◌++◌, ltb, eqb}
use Rattle.std.specs.Bool.{beq}
use Rattle.bitmap.specs.Blocks.{block_at}
use Rattle.text.specs.Words.{bytes}
use Rattle.forms.specs.Forms.{filled}
use Rattle.spans.specs.Spans.{in_mib}

abbrev pub has_all : List ℕ
has_all = filled (bytes "the guest has what was requested") []

abbrev pub has_less : (size : ℕ) → List ℕ
has_less size = filled (bytes "the guest has # MiB less than requested") (in_mib size ∷ [])

abbrev pub has_more : (size : ℕ) → List ℕ
has_more size = filled (bytes "the guest has # MiB more than requested") (in_mib size ∷ [])

-- how far the plugged size is from the requested one
unfoldable pub gap_text : (requested plugged : ℕ) → List ℕ
gap_text requested plugged =
    cond (eqb plugged requested) has_all
    (cond (ltb plugged requested) (has_less (requested - plugged)) (has_more (plugged - requested)))

-- a block that is plugged is #, and any other .
unfoldable pub mark : Bool → ℕ
mark true = 35
mark false = 46

-- a row of the map: a mark for each of the `count` blocks from `first` on
unfoldable pub row_text : List Bool → (first count : ℕ) → List ℕ
row_text bs first zero = []
row_text bs first (suc count) = row_text bs first count ++ mark (block_at bs (first + count)) ∷ []

-- two rows of so many blocks are the same
unfoldable pub same_row : List Bool → (a b count : ℕ) → Bool
same_row bs a b zero = true
same_row bs a b (suc count) = beq (block_at bs (a + count)) (block_at bs (b + count)) && same_row bs a b count
