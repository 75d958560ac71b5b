-- Document 01, "The sailing file": what a sailing file holds, once its bytes are read.
use Rattle.std.specs.Prelude.{ℕ, pred, List, [], length, get_or}
use Rattle.timetable.specs.declared.Row.{Row}

-- stops S; the rows by their file places; for each class the shares of landings exactly 0, 1, .. M minutes late
pub record Timetable : Type 0 where
  pub stops : ℕ
  pub rows : List Row
  pub tables : List (List ℕ)

-- the shares of a class, by its number
abbrev pub shares_of : List (List ℕ) → ℕ → List ℕ
shares_of tables class = get_or tables class []

-- M, the maximum delay: a class has M + 1 shares
abbrev pub maximum_delay : List ℕ → ℕ
maximum_delay shares = pred (length shares)

-- what stands for a row past the last
abbrev pub no_row : Row
no_row = record { board = 0; land = 0; departure = 0; arrival = 0; trip = 0; class = 0 }

-- row numbers are file places from 0
abbrev pub row_of : List Row → ℕ → Row
row_of rows i = get_or rows i no_row
