-- Document 02, E2: a line's first fault: 11, 12, 13, 9, in this order, with the column that it is in; and the header's.
use Rattle.std.specs.Prelude.{ℕ, Bool, not, List, ◌∷◌, leb, is_some, length}
use Rattle.timetable.specs.Limits.{most_stops, most_rows, most_trips}
use Rattle.timetable.specs.Verdict.{Verdict, or_else, unless}
use Rattle.gtfs_lines.specs.declared.Columns.{Columns}
use Rattle.gtfs_lines.specs.Lines.{has_quote}
use Rattle.gtfs_stop_time.specs.StopTime.{StopTime, texts_on, stop_time_of}
use Rattle.gtfs_stop_time.specs.Faults.{own_verdict}
use Rattle.gtfs_calls.specs.Calls.{trips_of, stops_of, last_call, rises_behind, rows_of}

-- behind the calls read so far: 13 not rising within its trip; 9 a 2,001st trip, 201st stop or 2,001st row
unfoldable pub next_verdict : List StopTime → StopTime → Verdict
next_verdict back call =
    or_else (unless (rises_behind (last_call call.trip back) call) 13 0)
    (or_else (unless (leb (length (trips_of (call ∷ back))) most_trips) 9 1)
    (or_else (unless (leb (length (stops_of (call ∷ back))) most_stops) 9 4)
    (unless (leb (length (rows_of (call ∷ back))) most_rows) 9 0)))

-- a quote mark anywhere on the line is 11, ahead of all others
unfoldable pub line_verdict : Columns → (start : ℕ) → List StopTime → List ℕ → Verdict
line_verdict columns start back line =
    let texts = texts_on columns line in
    or_else (unless (not (has_quote line)) 11 0) (or_else (own_verdict start texts) (next_verdict back (stop_time_of start texts)))

-- the header: 11 for a quote mark or a missing column
unfoldable pub header_verdict : (quoted : Bool) → Columns → Verdict
header_verdict quoted columns =
    or_else (unless (not quoted) 11 0)
    (or_else (unless (is_some columns.trip) 11 1)
    (or_else (unless (is_some columns.arrival) 11 2)
    (or_else (unless (is_some columns.departure) 11 3)
    (or_else (unless (is_some columns.stop) 11 4) (unless (is_some columns.sequence) 11 5)))))
