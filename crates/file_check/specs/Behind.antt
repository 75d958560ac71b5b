-- Document 01, "The sailing file": the rows of a file behind a row, nearest first, and the row found among them.
use Rattle.std.specs.Prelude.{ℕ, zero, suc, ◌+◌, ◌*◌, ◌≤◌, cond, List, [], ◌∷◌, eqb, Option, Some, None}
use Rattle.std.proofs.Math.Option as maybe
use Rattle.timetable.specs.declared.Row.{Row}
use Rattle.file_layout.specs.declared.Trailer.{Trailer}
use Rattle.timetable.specs.Limits.{most_rows}
use Rattle.file_layout.specs.Decode.{row_at}
use Rattle.file_check.specs.declared.Found.{Found}

-- the first `count` rows of `width` bytes each, the first at byte `start`, nearest to the last first
unfoldable pub rows_behind : ℕ → List ℕ → ℕ → ℕ → List Row
rows_behind width s start zero = []
rows_behind width s start (suc count) = row_at s (start + width * count) ∷ rows_behind width s start count

-- the nearest of them that is of the trip, with its number, found by looking back and stopping at the first
unfoldable pub found_behind : ℕ → ℕ → List ℕ → ℕ → ℕ → Option Found
found_behind trip width s start zero = None
found_behind trip width s start (suc count) =
    let row = row_at s (start + width * count) in
    let further = found_behind trip width s start count in
    cond (eqb row.trip trip) (Some (record { row = row; place = count })) further

-- the row alone
abbrev pub row_found : Option Found → maybe.Option Row
row_found None = maybe.none
row_found (Some found) = maybe.some found.row

-- what reading the rows needs: they are few, each holds its numbers, and all lie within the file
pub record RowsInside (width : ℕ) (h : Trailer) (end : ℕ) : Type 0 where
  pub width_holds_row : 12 ≤ width
  pub few : h.rows ≤ most_rows
  pub inside : h.rowstart + width * h.rows ≤ end
