-- Document 02, E2: the calls read so far, nearest first: their ids by number, and the rows of neighbouring calls.
use Rattle.std.specs.Prelude.{ℕ, Bool, true, cond, List, [], ◌∷◌, ◌++◌, ltb, length}
use Rattle.std.proofs.Math.Option.{Option, none, some}
use Rattle.text.specs.Same.{same_bytes}
use Rattle.timetable.specs.declared.Row.{Row}
use Rattle.timetable.specs.Timetable.{Timetable}
use Rattle.file_writing.specs.Ends.{never_late}
use Rattle.gtfs_ids.specs.Ids.{number_of, with_id}
use Rattle.gtfs_order.specs.Order.{in_order}
use Rattle.gtfs_stop_time.specs.StopTime.{StopTime}

-- ids are numbered by first appearance
unfoldable pub trips_of : List StopTime → List (List ℕ)
trips_of [] = []
trips_of (call ∷ back) = with_id (trips_of back) call.trip

unfoldable pub stops_of : List StopTime → List (List ℕ)
stops_of [] = []
stops_of (call ∷ back) = with_id (stops_of back) call.stop

-- the trip's call that was read last, though other trips' calls stand between
unfoldable pub last_call : (trip : List ℕ) → List StopTime → Option StopTime
last_call trip [] = none
last_call trip (call ∷ back) = let further = last_call trip back in cond (same_bytes call.trip trip) (some call) further

-- stop_sequence rises within its trip
unfoldable pub rises_behind : Option StopTime → StopTime → Bool
rises_behind none call = true
rises_behind (some previous) call = ltb previous.sequence call.sequence

-- one row for each pair of neighbouring calls: the first's departure, the second's arrival; class is 0
unfoldable pub row_between : (stops trips : List (List ℕ)) → StopTime → StopTime → Row
row_between stops trips previous call =
    record {
      board = number_of stops previous.stop;
      land = number_of stops call.stop;
      departure = previous.departure;
      arrival = call.arrival;
      trip = number_of trips call.trip;
      class = 0;
    }

-- the row that a call ends, if its trip has a call before it
unfoldable pub row_behind : (stops trips : List (List ℕ)) → Option StopTime → StopTime → List Row
row_behind stops trips none call = []
row_behind stops trips (some previous) call = row_between stops trips previous call ∷ []

-- the rows as read
unfoldable pub rows_of : List StopTime → List Row
rows_of [] = []
rows_of (call ∷ back) =
    rows_of back ++ row_behind (stops_of (call ∷ back)) (trips_of (call ∷ back)) (last_call call.trip back) call

-- the timetable of all calls: rows in order, one table of maximum 0
unfoldable pub timetable_of : List StopTime → Timetable
timetable_of calls = record { stops = length (stops_of calls); rows = in_order (rows_of calls); tables = never_late ∷ [] }
