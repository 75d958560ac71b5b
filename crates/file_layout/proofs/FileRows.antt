-- Rows, one behind the other: how many a file holds, and where the i-th is read. Assumes nothing.
use Prim.Native.Nat.{ℕ, zero, suc, ◌+◌, ◌*◌, ◌<◌}
use mathlib.Core.List.{List}
use mathlib.Core.Path.{◌≡◌, refl, ap, ◌∙◌}
use native.Mathlib.Omega.{arith}
use lib.ListN.{length}
use Rattle.timetable.specs.Timetable.{row_of}
use Rattle.file_layout.specs.Decode.{row_at, rows_from}

pub rows_length : (width : ℕ) (s : List ℕ) (at n : ℕ) → length (rows_from width s at n) ≡ n
unfolding rows_from
rows_length width s at zero = refl
rows_length width s at (suc n) = ap suc (rows_length width s (at + width) n)

-- the i-th row is read i widths behind the first
pub row_of_file : (width : ℕ) (s : List ℕ) (at n i : ℕ) → i < n → row_of (rows_from width s at n) i ≡ row_at s (at + width * i)
unfolding rows_from
row_of_file width s at zero i h = absurd (let z : ⊥ = omega arith in z)
row_of_file width s at (suc n) zero h = ap (row_at s) (let z : at ≡ at + width * 0 = omega arith in z)
row_of_file width s at (suc n) (suc i) h =
    row_of_file width s (at + width) n i (omega arith)
    ∙ ap (row_at s) (let z : at + width + width * i ≡ at + width * suc i = omega arith in z)
