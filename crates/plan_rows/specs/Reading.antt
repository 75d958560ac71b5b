-- What planning asks of a file's bytes, and what the lent cells hold of its delay tables.
use Rattle.std.specs.Prelude.{ℕ, suc, ◌+◌, ◌*◌, ◌≤◌, ◌<◌, List, ◌≡◌, length, get_or, take}
use Rattle.timetable.specs.Timetable.{Timetable, shares_of, maximum_delay, row_of}
use Rattle.timetable.specs.Classes.{share_total, sum}
use Rattle.timetable.specs.declared.Row.{Row}
use Rattle.timetable.specs.Limits.{most_stops, most_rows, most_trips, most_classes}
use Rattle.file_layout.specs.Decode.{row_at, table_at, rows_from, tables_from}
use Rattle.file_layout.specs.Sound.{block_at}
use Rattle.timetable.specs.Ticks.{quotient_up}
use Rattle.plans.specs.Worth.{weigh}
use Rattle.plan_rows.specs.declared.SectionPlaces.{SectionPlaces}

abbrev pub rows_in : List ℕ → SectionPlaces → List Row
rows_in file s = rows_from s.width file s.rowstart s.rows

abbrev pub tables_in : List ℕ → SectionPlaces → List (List ℕ)
tables_in file s = tables_from file s.tablestart s.classes

-- planning looks at rows and tables alone
abbrev pub timetable_in : List ℕ → SectionPlaces → Timetable
timetable_in file s = record { stops = 0; rows = rows_in file s; tables = tables_in file s }

-- a row whose numbers are places in the lent cells, and whose last landing is a minute of 16 bits
pub record RowFits (classes : ℕ) (tables : List (List ℕ)) (r : Row) : Type 0 where
  pub board : r.board < most_stops
  pub land : r.land < most_stops
  pub onward : r.departure < r.arrival
  pub trip : r.trip < most_trips
  pub class : r.class < classes
  pub lands : r.arrival + maximum_delay (shares_of tables r.class) < 65536

-- a class whose shares are whole and fit a block of 256 cells
pub record SharesFit (shares : List ℕ) : Type 0 where
  pub some_shares : 1 ≤ length shares
  pub few_shares : length shares ≤ 254
  pub shares_whole : sum shares ≡ share_total

-- the rows and tables stand in the file, and keep what planning uses of the rules
pub record FileReadable (file : List ℕ) (s : SectionPlaces) : Type 0 where
  pub few_rows : s.rows ≤ most_rows
  pub few_classes : s.classes ≤ most_classes
  pub rows_count : length (rows_in file s) ≡ s.rows
  pub tables_count : length (tables_in file s) ≡ s.classes
  pub row_readable : (i : ℕ) → i < s.rows → s.rowstart + s.width * i + 11 < length file
  pub row_read : (i : ℕ) → i < s.rows → row_of (rows_in file s) i ≡ row_at file (s.rowstart + s.width * i)
  pub row_fits : (i : ℕ) → i < s.rows → RowFits s.classes (tables_in file s) (row_of (rows_in file s) i)
  pub departures :
      (i j : ℕ) → i ≤ j → j < s.rows → (row_of (rows_in file s) i).departure ≤ (row_of (rows_in file s) j).departure
  pub shares_fit : (c : ℕ) → c < s.classes → SharesFit (shares_of (tables_in file s) c)

-- each class block stands in the file
pub record BlocksStand (file : List ℕ) (s : SectionPlaces) : Type 0 where
  pub few_classes : s.classes ≤ most_classes
  pub tables_count : length (tables_in file s) ≡ s.classes
  pub block_readable :
      (c : ℕ) → c < s.classes → block_at file s.tablestart c + 2 + 2 * length (shares_of (tables_in file s) c) ≤ length file
  pub block_read : (c : ℕ) → c < s.classes → shares_of (tables_in file s) c ≡ table_at file (block_at file s.tablestart c)
  pub shares_fit : (c : ℕ) → c < s.classes → SharesFit (shares_of (tables_in file s) c)

-- rows below `first` depart before `minute`, the others do not
pub record Cut (rows : List Row) (minute first : ℕ) : Type 0 where
  pub inside : first ≤ length rows
  pub before : (i : ℕ) → i < first → (row_of rows i).departure < minute
  pub behind : (i : ℕ) → first ≤ i → i < length rows → minute ≤ (row_of rows i).departure

-- a class's 256 cells: M, the expected delay in ticks, then the share of landings at most 0, 1, .. M minutes late
abbrev pub block_cell : ℕ → ℕ
block_cell class = 256 * class

-- a block for each of 16 classes
abbrev pub table_cells : ℕ
table_cells = block_cell most_classes

pub record BlockHeld (cells : List ℕ) (class : ℕ) (shares : List ℕ) : Type 0 where
  pub longest_held : get_or cells (block_cell class) 0 ≡ maximum_delay shares
  pub expected_held : get_or cells (block_cell class + 1) 0 ≡ quotient_up 16 (weigh shares 0 (λ v. v))
  pub cumulative_held : (v : ℕ) → v < length shares → get_or cells (block_cell class + 2 + v) 0 ≡ sum (take (suc v) shares)

pub record TablesHeld (cells : List ℕ) (tables : List (List ℕ)) : Type 0 where
  pub room : length cells ≡ table_cells
  pub held : (c : ℕ) → c < length tables → BlockHeld cells c (shares_of tables c)
