-- What holds of the calls of a text without a fault.
use Rattle.std.specs.Prelude.{ℕ, ◌≤◌, ◌<◌, List, length}
use Rattle.timetable.specs.Limits.{most_stops, most_rows, most_trips}
use Rattle.timetable.specs.Timetable.{row_of}
use Rattle.file_layout.specs.Small.{SmallRow}
use Rattle.gtfs_stop_time.specs.StopTime.{StopTime}
use Rattle.gtfs_calls.specs.Calls.{trips_of, stops_of, rows_of}

-- the limits of trips, stops and rows, and numbers that fit a row's bytes
pub record ReadSound (calls : List StopTime) : Type 0 where
  pub few_trips : length (trips_of calls) ≤ most_trips
  pub few_stops : length (stops_of calls) ≤ most_stops
  pub few_rows : length (rows_of calls) ≤ most_rows
  pub small : (i : ℕ) → i < length (rows_of calls) → SmallRow (row_of (rows_of calls) i)
