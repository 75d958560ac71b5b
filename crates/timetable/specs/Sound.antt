-- Document 01, "The sailing file": rows that keep their rules, by their file places.
use Rattle.std.specs.Prelude.{ℕ, ◌≤◌, ◌<◌, List, ◌≡◌, length}
use Rattle.timetable.specs.declared.Row.{Row}
use Rattle.timetable.specs.declared.Ranges.{Ranges}
use Rattle.timetable.specs.Timetable.{row_of}
use Rattle.timetable.specs.Limits.{most_trips}

-- a row that keeps the rules about itself alone (4)
pub record OwnSound (g : Ranges) (r : Row) : Type 0 where
  pub board : r.board < g.stops
  pub land : r.land < g.stops
  pub differ : r.board ≡ r.land → ⊥
  pub onward : r.departure < r.arrival
  pub departure : r.departure ≤ g.lastminute
  pub arrival : r.arrival ≤ g.lastminute
  pub trip : r.trip < most_trips
  pub class : r.class < g.classes

-- rows that keep all rules (4 and 5)
pub record RowsSound (g : Ranges) (rows : List Row) : Type 0 where
  pub own : (i : ℕ) → i < length rows → OwnSound g (row_of rows i)
  -- departures never fall
  pub departures : (i j : ℕ) → i ≤ j → j < length rows → (row_of rows i).departure ≤ (row_of rows j).departure
  -- the nearest earlier row of the same trip lands at this row's boarding stop, no later than its departure
  pub joins : (i j : ℕ) → i < j → j < length rows → (row_of rows i).trip ≡ (row_of rows j).trip
      → ((k : ℕ) → i < k → k < j → (row_of rows k).trip ≡ (row_of rows j).trip → ⊥)
      → ((row_of rows i).land ≡ (row_of rows j).board) × ((row_of rows i).arrival ≤ (row_of rows j).departure)
