-- SPDX-License-Identifier: Apache-2.0 AND BSD-3-Clause
-- How the words of a table and its rows go over into each other.
use Prim.Native.Nat.{ℕ, zero, suc, ◌+◌, ◌*◌, ◌/◌, ◌<◌}
use mathlib.Core.Path.{◌≡◌, refl, ap}
use mathlib.Core.List.{List, [], ◌∷◌, ◌++◌, append-nil}
use native.Mathlib.Nat.{suc-add}
use native.Mathlib.Omega.{arith}
use lib.ListN.{length, get_or, drop, set, length-append, length-drop, length-set}
use lib.Seq.{drop_at, drop-length}
use Rattle.rows.specs.declared.MapRow.{MapRow}
use Rattle.rows.specs.Rows.{rows_of, row_words, written, row_at}

-- how many rows a table holds
pub count : (ws : List ℕ) → length (rows_of ws) ≡ length ws / 3
unfolding rows_of
count [] = refl
count (a ∷ []) = refl
count (a ∷ b ∷ []) = refl
count (a ∷ b ∷ d ∷ ws) = omega (arith, count ws)

three : (n : ℕ) → 3 * suc n ≡ suc (suc (suc (3 * n)))
three n = omega arith

-- a row's three words
pub words_of_row : (ws : List ℕ) (i : ℕ) → i < length (rows_of ws) → record { slot = get_or ws (3 * i) 0; mapped = get_or ws (3 * i + 1) 0; host = record { 0 = get_or ws (3 * i + 2) 0 } } ≡ row_at (rows_of ws) i
unfolding rows_of
words_of_row [] i h = absurd (omega arith)
words_of_row (a ∷ []) i h = absurd (omega arith)
words_of_row (a ∷ b ∷ []) i h = absurd (omega arith)
words_of_row (a ∷ b ∷ d ∷ ws) zero h = refl
words_of_row (a ∷ b ∷ d ∷ ws) (suc i) h = simp (three i, suc-add) (words_of_row ws i (omega arith))

length_words : (rs : List MapRow) → length (row_words rs) ≡ 3 * length rs
unfolding row_words
length_words [] = refl
length_words (r ∷ rs) = omega (arith, length_words rs)

rows_words : (rs : List MapRow) (ws : List ℕ) → rows_of (row_words rs ++ ws) ≡ rs ++ rows_of ws
unfolding rows_of row_words
rows_words [] ws = refl
rows_words (r ∷ rs) ws = rw (rows_words rs ws)

rows_drop : (n : ℕ) (ws : List ℕ) → rows_of (drop (3 * n) ws) ≡ drop n (rows_of ws)
unfolding rows_of
rows_drop zero ws = refl
rows_drop (suc n) [] = rw (three n)
rows_drop (suc n) (a ∷ []) = rw (three n)
rows_drop (suc n) (a ∷ b ∷ []) = rw (three n)
rows_drop (suc n) (a ∷ b ∷ d ∷ ws) = rw (three n) (rows_drop n ws)

-- a table is its rows and the words past them
pub whole : (ws : List ℕ) → written ws (rows_of ws) ≡ ws
unfolding rows_of row_words
whole [] = refl
whole (a ∷ []) = refl
whole (a ∷ b ∷ []) = refl
whole (a ∷ b ∷ d ∷ ws) = rw (three (length (rows_of ws)), whole ws)

-- the rows that were written are the rows that are read
pub read_back : (ws : List ℕ) (rs : List MapRow) → length rs ≡ length (rows_of ws) → rows_of (written ws rs) ≡ rs
read_back ws rs h = rw (rows_words rs (drop (3 * length rs) ws), rows_drop (length rs) ws, h, drop-length (rows_of ws)) (append-nil rs)

-- what is written last stands
pub written_again : (ws : List ℕ) (rs ss : List MapRow) → length ss ≡ length rs → written (written ws rs) ss ≡ written ws ss
written_again ws rs ss h = rw (h, drop_at (row_words rs) (drop (3 * length rs) ws) (3 * length rs) (length_words rs))

-- three stores write a row
pub stores : (ws : List ℕ) (i a b d : ℕ) → i < length (rows_of ws) → set (set (set ws (3 * i) a) (3 * i + 1) b) (3 * i + 2) d ≡ written ws (set (rows_of ws) i (record { slot = a; mapped = b; host = record { 0 = d } }))
unfolding rows_of row_words
stores [] i a b d h = absurd (omega arith)
stores (x ∷ []) i a b d h = absurd (omega arith)
stores (x ∷ y ∷ []) i a b d h = absurd (omega arith)
stores (x ∷ y ∷ z ∷ ws) zero a b d h = rw (three (length (rows_of ws)), whole ws)
stores (x ∷ y ∷ z ∷ ws) (suc i) a b d h = simp (three, suc-add) (ap (λ (l : List ℕ). x ∷ y ∷ z ∷ l) (stores ws i a b d (omega arith)))

-- a table keeps its length where a row is written
pub put_length : (ws ws' : List ℕ) (i : ℕ) (row : MapRow) → ws' ≡ written ws (set (rows_of ws) i row) → length ws' ≡ length ws
put_length ws ws' i row e = rw e (simp (length-append, length_words, length-drop, length-set) (omega (arith, count ws)))
