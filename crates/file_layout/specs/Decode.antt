-- Document 01, "The sailing file": the trailer, the rows, the class blocks, and the timetable that they hold.
use Rattle.std.specs.Prelude.{ℕ, zero, suc, ◌+◌, ◌-◌, ◌*◌, List, [], ◌∷◌, length}
use Rattle.timetable.specs.Timetable.{Timetable}
use Rattle.timetable.specs.declared.Row.{Row}
use Rattle.file_layout.specs.declared.Format.{Format}
use Rattle.file_layout.specs.declared.Trailer.{Trailer}
use Rattle.numbers.specs.Numbers.{u16_at, u32_at}

-- where the trailer starts: it is the file's last bytes
unfoldable pub trailer_start : Format → List ℕ → ℕ
trailer_start f s = length s - f.trailer

-- version, stops S, rows n and classes K (u16), row offset and table offset (u32)
unfoldable pub trailer_at : List ℕ → ℕ → Trailer
trailer_at s at =
    record {
      version = u16_at s at;
      stops = u16_at s (at + 2);
      rows = u16_at s (at + 4);
      classes = u16_at s (at + 6);
      rowstart = u32_at s (at + 8);
      tablestart = u32_at s (at + 12);
    }

unfoldable pub trailer_of : Format → List ℕ → Trailer
trailer_of f s = trailer_at s (trailer_start f s)

-- A row has six u16: boarding stop, landing stop, departure, arrival, trip, class
unfoldable pub row_at : List ℕ → ℕ → Row
row_at s at =
    record {
      board = u16_at s at;
      land = u16_at s (at + 2);
      departure = u16_at s (at + 4);
      arrival = u16_at s (at + 6);
      trip = u16_at s (at + 8);
      class = u16_at s (at + 10);
    }

-- n rows of `width` bytes each, from byte `at` on
unfoldable pub rows_from : ℕ → List ℕ → ℕ → ℕ → List Row
rows_from width s at zero = []
rows_from width s at (suc n) = row_at s at ∷ rows_from width s (at + width) n

unfoldable pub shares_from : List ℕ → ℕ → ℕ → List ℕ
shares_from s at zero = []
shares_from s at (suc n) = u16_at s at ∷ shares_from s (at + 2) n

-- A class block is a maximum delay M (u16), then M + 1 shares (u16)
unfoldable pub table_at : List ℕ → ℕ → List ℕ
table_at s at = shares_from s (at + 2) (suc (u16_at s at))

unfoldable pub block_end : List ℕ → ℕ → ℕ
block_end s at = at + 2 + 2 * suc (u16_at s at)

-- K class blocks, one behind the other, and where the last one ends
unfoldable pub tables_from : List ℕ → ℕ → ℕ → List (List ℕ)
tables_from s at zero = []
tables_from s at (suc k) = table_at s at ∷ tables_from s (block_end s at) k

unfoldable pub tables_end : List ℕ → ℕ → ℕ → ℕ
tables_end s at zero = at
tables_end s at (suc k) = tables_end s (block_end s at) k

unfoldable pub decode : Format → List ℕ → Timetable
decode f s =
    let h = trailer_of f s in
    record {
      stops = h.stops;
      rows = rows_from f.width s h.rowstart h.rows;
      tables = tables_from s h.tablestart h.classes;
    }
