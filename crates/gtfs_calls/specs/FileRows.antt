-- Document 02, E2: the rows that a file holds: "exactly one row for each pair of neighbouring calls", "by departure, then by trip number,
-- then as read".
use Rattle.std.specs.Prelude.{ℕ, ◌+◌, Bool, List, ◌≡◌, length}
use Rattle.sorting.specs.Counted.{counted}
use Rattle.timetable.specs.declared.Row.{Row}
use Rattle.gtfs_order.specs.InTurn.{Ordered, alike}
use Rattle.gtfs_stop_time.specs.StopTime.{StopTime}
use Rattle.gtfs_calls.specs.Calls.{trips_of, stops_of}
use Rattle.gtfs_calls.specs.Neighbours.{neighbours, rows_between}

-- one row for each pair of neighbouring calls, as read
abbrev pub pair_rows : List StopTime → List Row
pair_rows calls = rows_between (stops_of calls) (trips_of calls) (neighbours calls)

pub record FileRows (calls : List StopTime) (rows : List Row) : Type 0 where
  pub ordered : Ordered rows
  pub as_read : (departure trip : ℕ) → alike departure trip rows ≡ alike departure trip (pair_rows calls)
  -- as many rows pass any test, so they are the pairs' rows in another order
  pub same_rows : (test : Row → Bool) → counted test rows ≡ counted test (pair_rows calls)
  -- a row for every call but the first of its trip
  pub many : length rows + length (trips_of calls) ≡ length calls
