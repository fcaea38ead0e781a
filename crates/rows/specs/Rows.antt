-- SPDX-License-Identifier: Apache-2.0 AND BSD-3-Clause
-- What the lent map table means: a list of rows, one for each map region, row 0 first (R8.3).
-- Only `rows_in`, `rows_of`, `row_words`, `written`, `filled_table` and `laid_table` speak of words: every other definition is on that list.
use Rattle.units.specs.declared.HostAddr.{HostAddr}
use Rattle.std.specs.Prelude.{ℕ, zero, suc, ◌+◌, ◌-◌, ◌*◌, ◌/◌, Bool, not, cond, List, [], ◌∷◌, ◌++◌, eqb, length, get_or, take, drop, Option, Some, None}
use Rattle.units.specs.Numbers.{saturated, map_region}
use Rattle.rows.specs.declared.MapRow.{MapRow}

-- R8.3: how many rows so many words make
abbrev pub rows_in : (words : ℕ) → ℕ
rows_in words = words / 3

-- R8.3: the rows of a table of words
unfoldable pub rows_of : List ℕ → List MapRow
rows_of [] = []
rows_of (a ∷ []) = []
rows_of (a ∷ b ∷ []) = []
rows_of (slot ∷ mapped ∷ host ∷ words) = record { slot = slot; mapped = mapped; host = record { 0 = host } } ∷ rows_of words

-- the words of these rows
unfoldable pub row_words : List MapRow → List ℕ
row_words [] = []
row_words (row ∷ rows) = row.slot ∷ row.mapped ∷ row.host.0 ∷ row_words rows

-- R2.11: the table with these rows, and its own words past them
abbrev pub written : (words : List ℕ) → List MapRow → List ℕ
written words rows = row_words rows ++ drop (3 * length rows) words

-- row i, and R8.5 past the table
abbrev pub row_at : List MapRow → ℕ → MapRow
row_at rows i = get_or rows i (record { slot = 0; mapped = 0; host = record { 0 = 0 } })

-- R8.3
abbrev pub is_mapped : MapRow → Bool
is_mapped row = not (eqb row.mapped 0)

-- whether row i is mapped, and where
unfoldable pub mapping_of : List MapRow → ℕ → Option HostAddr
mapping_of rows i = cond (is_mapped (row_at rows i)) (Some (row_at rows i).host) None

-- the first row that is not mapped, where the first of the list is row i
unfoldable pub unmapped_from : ℕ → List MapRow → Option ℕ
unmapped_from i [] = None
unmapped_from i (row ∷ rows) = cond (is_mapped row) (unmapped_from (suc i) rows) (Some i)

-- R6.5: among the rows that exist
abbrev pub first_unmapped : List MapRow → (first last : ℕ) → Option ℕ
first_unmapped rows first last = unmapped_from first (take (last + 1 - first) (drop first rows))

-- the row mapped at a host address (R8.6)
abbrev pub mapped_at : ℕ → MapRow → MapRow
mapped_at host row = record { slot = row.slot; mapped = 1; host = record { 0 = saturated host } }

-- `count` rows from row i on mapped, the first at host and each 2 GiB past the one before; among the rows that exist
unfoldable pub fill_rows : List MapRow → (i count host : ℕ) → List MapRow
fill_rows [] i count host = []
fill_rows (row ∷ rows) (suc i) count host = row ∷ fill_rows rows i count host
fill_rows (row ∷ rows) zero zero host = row ∷ rows
fill_rows (row ∷ rows) zero (suc count) host = mapped_at host row ∷ fill_rows rows zero count (host + map_region)

-- R6.7: the rows i to last mapped, row j at host + (j - i) x 2 GiB
abbrev pub rows_filled : List MapRow → (i last host : ℕ) → List MapRow
rows_filled rows i last host = fill_rows rows i (last + 1 - i) host

-- R5.2: among the rows that exist; those past the slots stay
unfoldable pub rows_laid : List MapRow → (slots : List ℕ) → List MapRow
rows_laid [] slots = []
rows_laid (row ∷ rows) [] = row ∷ rows
rows_laid (row ∷ rows) (slot ∷ slots) = record { slot = slot; mapped = 0; host = record { 0 = 0 } } ∷ rows_laid rows slots

-- the table with the rows i to last mapped
abbrev pub filled_table : (words : List ℕ) (i last host : ℕ) → List ℕ
filled_table words i last host = written words (rows_filled (rows_of words) i last host)

-- the table with a slot in each row
abbrev pub laid_table : (words slots : List ℕ) → List ℕ
laid_table words slots = written words (rows_laid (rows_of words) slots)
