-- What the encoder can write: numbers that fit their bytes; and the lengths and the trailer of what it writes.
use Rattle.std.specs.Prelude.{ℕ, ◌+◌, ◌*◌, ◌<◌, ◌≤◌, true, List, [], ◌∷◌, ◌≡◌, length, get_or}
use Rattle.timetable.specs.Timetable.{Timetable, maximum_delay, row_of, shares_of}
use Rattle.timetable.specs.Classes.{shares_rule}
use Rattle.file_layout.specs.declared.Format.{Format}
use Rattle.file_layout.specs.declared.Trailer.{Trailer}
use Rattle.timetable.specs.Limits.{fewest_stops, most_stops, most_rows, fewest_classes, most_classes}
use Rattle.file_layout.specs.Small.{SmallRow}

-- a class has a share at least, and its maximum delay and its shares are u16
pub record WritableTable (shares : List ℕ) : Type 0 where
  pub some : 0 < length shares
  pub delay : maximum_delay shares < 65536
  pub each_share : (v : ℕ) → v < length shares → get_or shares v 0 < 65536

-- the versions that it writes: a trailer of 16 bytes, rows of six numbers and no more
pub record Plain (f : Format) : Type 0 where
  pub trailer : f.trailer ≡ 16
  pub width : f.width ≡ 12

-- all numbers but the two offsets are u16
pub record Writable (f : Format) (t : Timetable) : Type 0 where
  pub plain : Plain f
  pub version : f.version < 65536
  pub stops : t.stops < 65536
  pub rows : length t.rows < 65536
  pub tables : length t.tables < 65536
  pub each_row : (i : ℕ) → i < length t.rows → SmallRow (row_of t.rows i)
  pub each_table : (k : ℕ) → k < length t.tables → WritableTable (shares_of t.tables k)

-- the bytes of a class block, of all class blocks, and of a file
unfoldable pub block_size : List ℕ → ℕ
block_size shares = 2 + 2 * length shares

unfoldable pub tables_size : List (List ℕ) → ℕ
tables_size [] = 0
tables_size (shares ∷ tables) = block_size shares + tables_size tables

unfoldable pub file_size : Timetable → ℕ
file_size t = 12 * length t.rows + (tables_size t.tables + 16)

-- the trailer's numbers, once written
unfoldable pub trailer_for : Format → Timetable → Trailer
trailer_for f t =
    record {
      version = f.version;
      stops = t.stops;
      rows = length t.rows;
      classes = length t.tables;
      rowstart = 0;
      tablestart = f.width * length t.rows;
    }

-- what the check asks of a timetable apart from its rows: 1, and 3 for each class
pub record WithinLimits (f : Format) (t : Timetable) : Type 0 where
  pub not_short : f.fewestbytes ≤ file_size t
  pub not_long : file_size t ≤ f.mostbytes
  pub enough_stops : fewest_stops ≤ t.stops
  pub few_stops : t.stops ≤ most_stops
  pub few_rows : length t.rows ≤ most_rows
  pub enough_classes : fewest_classes ≤ length t.tables
  pub few_classes : length t.tables ≤ most_classes
  pub delays : (k : ℕ) → k < length t.tables → maximum_delay (shares_of t.tables k) ≤ f.delay
  pub shares : (k : ℕ) → k < length t.tables → shares_rule (shares_of t.tables k) ≡ true
