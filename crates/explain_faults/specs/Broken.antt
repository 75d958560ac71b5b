-- Reading a file that may be broken anywhere: what is not there reads as 0.
use Rattle.std.specs.Prelude.{ℕ, ◌+◌, ◌-◌, ◌*◌, ◌/◌, cond, List, ltb, length}
use Rattle.timetable.specs.declared.Row.{Row}
use Rattle.file_layout.specs.Decode.{row_at}

abbrev pub no_row : Row
no_row = record { board = 0; land = 0; departure = 0; arrival = 0; trip = 0; class = 0 }

-- the row of that number, the rows of `width` bytes starting at `start`
unfoldable pub row_in : (width : ℕ) → List ℕ → (start place : ℕ) → Row
row_in width file start place =
    cond (ltb place ((length file - start) / width)) (row_at file (start + width * place)) no_row
