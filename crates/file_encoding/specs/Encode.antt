-- Document 01, "The sailing file": the bytes of a timetable, rows first.
use Rattle.std.specs.Prelude.{ℕ, ◌*◌, List, [], ◌∷◌, ◌++◌, length}
use Rattle.timetable.specs.Timetable.{Timetable, maximum_delay}
use Rattle.timetable.specs.declared.Row.{Row}
use Rattle.file_layout.specs.declared.Format.{Format}
use Rattle.file_layout.specs.declared.Trailer.{Trailer}
use Rattle.numbers.specs.Numbers.{u16_bytes, u32_bytes}

unfoldable pub row_bytes : Row → List ℕ
row_bytes r =
    u16_bytes r.board ++ (u16_bytes r.land ++ (u16_bytes r.departure ++ (u16_bytes r.arrival
    ++ (u16_bytes r.trip ++ u16_bytes r.class))))

unfoldable pub rows_bytes : List Row → List ℕ
rows_bytes [] = []
rows_bytes (r ∷ rows) = row_bytes r ++ rows_bytes rows

unfoldable pub shares_bytes : List ℕ → List ℕ
shares_bytes [] = []
shares_bytes (p ∷ shares) = u16_bytes p ++ shares_bytes shares

-- a class block: M, then its M + 1 shares
unfoldable pub table_bytes : List ℕ → List ℕ
table_bytes shares = u16_bytes (maximum_delay shares) ++ shares_bytes shares

unfoldable pub tables_bytes : List (List ℕ) → List ℕ
tables_bytes [] = []
tables_bytes (shares ∷ tables) = table_bytes shares ++ tables_bytes tables

-- the trailer's bytes from its numbers
unfoldable pub bytes_of_trailer : Trailer → List ℕ
bytes_of_trailer h =
    u16_bytes h.version ++ (u16_bytes h.stops ++ (u16_bytes h.rows ++ (u16_bytes h.classes
    ++ (u32_bytes h.rowstart ++ u32_bytes h.tablestart))))

-- rows stand at 0, tables where they end
unfoldable pub trailer_bytes : Format → Timetable → List ℕ
trailer_bytes f t =
    u16_bytes f.version ++ (u16_bytes t.stops ++ (u16_bytes (length t.rows) ++ (u16_bytes (length t.tables)
    ++ (u32_bytes 0 ++ u32_bytes (f.width * length t.rows)))))

unfoldable pub encode : Format → Timetable → List ℕ
encode f t = rows_bytes t.rows ++ (tables_bytes t.tables ++ trailer_bytes f t)
