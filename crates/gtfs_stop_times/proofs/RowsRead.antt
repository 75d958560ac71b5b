-- The rows as read, in lent bytes: one row more is written behind the others. Assumes nothing.
use Prim.Native.Nat.{ℕ, ◌+◌, ◌*◌, ◌≤◌, ◌<◌}
use mathlib.Core.List.{List, [], ◌∷◌, ◌++◌, append_assoc, append-nil}
use mathlib.Core.Logic.{◌⊎◌, inl, inr}
use mathlib.Core.Path.{◌≡◌, sym, ap, subst, ◌∙◌}
use native.Mathlib.Nat.{eq-or-lt_of_le}
use native.Mathlib.Omega.{arith}
use lib.ListN.{length, take, drop, length-append, get_or-append}
use lib.Seq.{sets, sets-eq, take_at, length-take-le, get_or-append_seam}
use Rattle.timetable.specs.declared.Row.{Row}
use Rattle.timetable.specs.Timetable.{row_of, no_row}
use Rattle.file_layout.specs.Small.{SmallRow}
use Rattle.file_encoding.specs.Encode.{row_bytes, rows_bytes}
use Rattle.file_encoding.proofs.Sizes.{rows_size}

bytes_behind : (rows : List Row) (r : Row) → rows_bytes (rows ++ (r ∷ [])) ≡ rows_bytes rows ++ row_bytes r
unfolding rows_bytes
bytes_behind [] r = append-nil (row_bytes r)
bytes_behind (x ∷ rows) r = ap (λ l. row_bytes x ++ l) (bytes_behind rows r) ∙ sym (append_assoc (row_bytes x) (rows_bytes rows) (row_bytes r))

row_size : (r : Row) → length (row_bytes r) ≡ 12
unfolding rows_bytes
row_size r = ap length (sym (append-nil (row_bytes r))) ∙ rows_size (r ∷ [])

-- the bytes of the rows, once one more is written behind them
pub read_more : (bytes : List ℕ) (rows : List Row) (r : Row) (n : ℕ) → n ≡ length rows → 12 * n + 12 ≤ length bytes
    → take (12 * n) bytes ≡ rows_bytes rows → take (12 * (n + 1)) (sets bytes (12 * n) (row_bytes r)) ≡ rows_bytes (rows ++ (r ∷ []))
read_more bytes rows r n count room before =
    let size = row_size r in
    let front : length (take (12 * n) bytes ++ row_bytes r) ≡ 12 * (n + 1) =
    length-append (take (12 * n) bytes) (row_bytes r) ∙ ap (λ k. k + length (row_bytes r)) (length-take-le (12 * n) bytes (omega arith)) ∙ omega (arith, size)
    in
    ap (take (12 * (n + 1))) (sets-eq (row_bytes r) bytes (12 * n) (omega (arith, size)))
    ∙ take_at (take (12 * n) bytes ++ row_bytes r) (drop (12 * n + length (row_bytes r)) bytes) (12 * (n + 1)) front
    ∙ ap (λ l. l ++ row_bytes r) before ∙ sym (bytes_behind rows r)

-- rows of numbers that fit, and one more such row
pub small_more : (rows : List Row) (r : Row) → ((i : ℕ) → i < length rows → SmallRow (row_of rows i)) → SmallRow r
    → (i : ℕ) → i < length (rows ++ (r ∷ [])) → SmallRow (row_of (rows ++ (r ∷ [])) i)
small_more rows r all one i inside = go (eq-or-lt_of_le (let z : i ≤ length rows = omega (arith, length-append rows (r ∷ [])) in z))
  where
    go : (i ≡ length rows) ⊎ (i < length rows) → SmallRow (row_of (rows ++ (r ∷ [])) i)
    go (inl e) = subst SmallRow (sym (ap (λ k. row_of (rows ++ (r ∷ [])) k) e ∙ get_or-append_seam rows r [] no_row)) one
    go (inr less) = subst SmallRow (sym (get_or-append rows (r ∷ []) no_row i less)) (all i less)
