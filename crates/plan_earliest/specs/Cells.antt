-- What one row does to the cells: who is aboard or can board lands by a + M.
use Rattle.std.specs.Prelude.{ℕ, ◌+◌, ◌≤◌, ◌<◌, Bool, true, false, List, ◌≡◌, get_or, set}
use Rattle.timetable.specs.declared.Row.{Row}
use Rattle.timetable.specs.Limits.{most_stops, most_trips, most_classes}
use Rattle.plans.specs.Rides.{ready}
use Rattle.plan_cells.specs.Cells.{trip_cells, stop_cells}
use Rattle.plan_rows.specs.Reading.{block_cell}

-- a trip's cell is 0 until its boat is boarded; a stop's cell is the minute from which on one can be there
abbrev pub aboard : List ℕ → ℕ → ℕ
aboard work trip = get_or work (trip_cells + trip) 0

abbrev pub reached_at : List ℕ → ℕ → ℕ
reached_at work stop = get_or work (stop_cells + stop) 0

-- a + M, with M from the lent tables
abbrev pub landing_of : List ℕ → Row → ℕ
landing_of tables row = row.arrival + get_or tables (block_cell row.class) 0

-- a row whose numbers are places in the cells, and whose last landing is a minute of 16 bits
pub record RowInCells (tables : List ℕ) (row : Row) : Type 0 where
  pub board : row.board < most_stops
  pub land : row.land < most_stops
  pub trip : row.trip < most_trips
  pub class : row.class < most_classes
  pub lands : landing_of tables row < 65536

-- one is aboard already, or boards now, or misses the row
pub data Boarded (gate : ℕ) (row : Row) (work : List ℕ) : List ℕ → Bool → Type 0 where
  already : (aboard work row.trip ≡ 0 → ⊥) → Boarded gate row work work true
  boards : ready gate (reached_at work row.board) ≤ row.departure → Boarded gate row work (set work (trip_cells + row.trip) 1) true
  misses : aboard work row.trip ≡ 0 → row.departure < ready gate (reached_at work row.board) → Boarded gate row work work false

-- one is there sooner than known, or not
pub data Landed (stop landing : ℕ) (work : List ℕ) : List ℕ → Type 0 where
  sooner : landing < reached_at work stop → Landed stop landing work (set work (stop_cells + stop) landing)
  no_sooner : reached_at work stop ≤ landing → Landed stop landing work work

pub data RowSailed (gate : ℕ) (row : Row) (landing : ℕ) (work : List ℕ) : List ℕ → Type 0 where
  missed : {after : List ℕ} → Boarded gate row work after false → RowSailed gate row landing work after
  sailed : {between after : List ℕ} → Boarded gate row work between true → Landed row.land landing between after → RowSailed gate row landing work after
