-- Facts that pin what a text of some lines comes to: its rows with their numbers, or its first fault. Assumes nothing.
use Prim.Native.Nat.{ℕ}
use Prim.Native.Char.{code}
use Prim.Native.String.{String, [], ◌∷◌}
use mathlib.Core.List.{List, [], ◌∷◌}
use mathlib.Core.Path.{◌≡◌, refl}
use lib.ListN.{length}
use Rattle.text.specs.Decimal.{value_behind, value_of}
use Rattle.text.specs.Same.{same_bytes}
use Rattle.timetable.specs.declared.Row.{Row}
use Rattle.gtfs_lines.specs.Lines.{line_feed, on_first, parts, without_return, ended, lines_of, fields_of, field_of, has_quote}
use Rattle.gtfs_lines.specs.Columns.{column_from, column_of, columns_of}
use Rattle.gtfs_fields.specs.Whole.{is_whole, are_digits}
use Rattle.gtfs_fields.specs.Time.{is_time, time_minutes, hours_in, tail_in, minutes_in, tail_rule}
use Rattle.gtfs_ids.specs.Ids.{id_rule, number_of, with_id}
use Rattle.gtfs_order.specs.Order.{comes_first, among, in_order}
use Rattle.gtfs_stop_time.specs.StopTime.{day_start, texts_on, stop_time_of, is_filled, time_rule, sequence_rule}
use Rattle.gtfs_stop_time.specs.Faults.{filled_verdict, times_verdict, own_verdict}
use Rattle.gtfs_calls.specs.Calls.{trips_of, stops_of, last_call, rises_behind, row_between, row_behind, rows_of}
use Rattle.gtfs_calls.specs.Faults.{next_verdict, line_verdict, header_verdict}
use Rattle.gtfs_calls.specs.Reading.{Reading, said, wrong, read_from, stop_times}
use Rattle.gtfs_calls.specs.Names.{id_line, id_lines, names_text}

-- lines as they are printed, each with an LF behind it
abbrev line_onto : String → List ℕ → List ℕ
line_onto [] rest = line_feed ∷ rest
line_onto (character ∷ line) rest = code character ∷ line_onto line rest

abbrev printed : List String → List ℕ
printed [] = []
printed (line ∷ lines) = line_onto line (printed lines)

-- how many trips, stops and rows a text has, or its first fault, its line and its column
pub data Outcome : Type 0 where
  calls : (trips stops rows : ℕ) → Outcome
  Wrong : (number line column : ℕ) → Outcome

abbrev outcome_of : Reading → Outcome
outcome_of (said back) = calls (length (trips_of back)) (length (stops_of back)) (length (rows_of back))
outcome_of (wrong number line column) = Wrong number line column

abbrev answer : (day : ℕ) → (lines : List String) → Outcome
answer day lines = outcome_of (stop_times (day_start day) (printed lines))

-- the rows in order
abbrev rows_in : Reading → List Row
rows_in (said back) = in_order (rows_of back)
rows_in (wrong number line column) = []

abbrev rows : (day : ℕ) → (lines : List String) → List Row
rows day lines = rows_in (stop_times (day_start day) (printed lines))

abbrev row : (board land departure arrival trip : ℕ) → Row
row board land departure arrival trip = record { board = board; land = land; departure = departure; arrival = arrival; trip = trip; class = 0 }

abbrev header : String
header = "trip_id,arrival_time,departure_time,stop_id,stop_sequence"

-- two trips whose lines alternate, and a third of one call, which has a number and no row
abbrev alternating : List String
alternating =
    header ∷ "B,8:00:00,8:05:00,quay,1" ∷ "A,7:00:00,7:01:00,pier,1" ∷ "B,8:30:00,8:30:00,pier,2" ∷ "C,9:00:00,9:00:00,isle,1"
    ∷ "A,7:20:00,7:20:00,quay,5" ∷ []

pub rows_read :
    (rows 1 alternating ≡ row 1 0 421 440 1 ∷ row 0 1 485 510 0 ∷ [])
    × (rows 2 alternating ≡ row 1 0 1861 1880 1 ∷ row 0 1 1925 1950 0 ∷ [])
    -- rows of one departure come out by trip number, whatever was read first
    × (rows 1
    (header ∷ "A,5:00:00,5:00:00,pier,1" ∷ "B,6:00:00,6:00:00,pier,1" ∷ "B,7:00:00,7:00:00,quay,2" ∷ "A,6:00:00,6:00:00,isle,2"
    ∷ "A,8:00:00,8:00:00,quay,3" ∷ [])
    ≡ row 0 2 300 360 0 ∷ row 2 1 360 480 0 ∷ row 0 1 360 420 1 ∷ [])
unfolding stop_times read_from line_verdict header_verdict next_verdict own_verdict filled_verdict times_verdict is_filled time_rule sequence_rule
    texts_on stop_time_of trips_of stops_of last_call rises_behind row_between row_behind rows_of in_order among comes_first id_rule number_of with_id same_bytes
    is_time time_minutes hours_in tail_in minutes_in tail_rule is_whole are_digits value_of value_behind
    columns_of column_of column_from lines_of ended without_return parts on_first fields_of field_of has_quote
rows_read = (refl, refl, refl)

-- the ids by number: stops, then trips
abbrev names_in : Reading → List ℕ
names_in (said back) = names_text back
names_in (wrong number line column) = []

pub names_read :
    names_in (stop_times (day_start 1) (printed alternating))
    ≡ printed ("stop \"quay\"" ∷ "stop \"pier\"" ∷ "stop \"isle\"" ∷ "trip \"B\"" ∷ "trip \"A\"" ∷ "trip \"C\"" ∷ [])
unfolding names_text id_lines id_line stop_times read_from line_verdict header_verdict next_verdict own_verdict filled_verdict times_verdict is_filled time_rule
    sequence_rule texts_on stop_time_of trips_of stops_of last_call rises_behind row_between row_behind rows_of id_rule number_of with_id same_bytes
    is_time time_minutes hours_in tail_in minutes_in tail_rule is_whole are_digits value_of value_behind
    columns_of column_of column_from lines_of ended without_return parts on_first fields_of field_of has_quote
names_read = refl

pub answers :
    (answer 1 alternating ≡ calls 3 3 2)
    -- stop_sequence may leap, but neither stays nor falls within its trip; another trip's does not count
    × (answer 1 (header ∷ "A,7:00:00,7:00:00,pier,4" ∷ "B,7:00:00,7:00:00,pier,4" ∷ "A,8:00:00,8:00:00,quay,9" ∷ []) ≡ calls 2 2 1)
    × (answer 1 (header ∷ "A,7:00:00,7:00:00,pier,4" ∷ "B,7:00:00,7:00:00,pier,1" ∷ "A,8:00:00,8:00:00,quay,4" ∷ []) ≡ Wrong 13 4 0)
    × (answer 1 (header ∷ "A,7:00:00,7:00:00,pier,4" ∷ "A,8:00:00,8:00:00,quay,3" ∷ []) ≡ Wrong 13 3 0)
    -- the earlier line's fault counts, though in a later column; of two on one line 11 counts ahead of 12, and 12 ahead of 13
    × (answer 1 (header ∷ "A,7:00:00,7:00:00,pier,x" ∷ ",7:00:00,7:00:00,pier,1" ∷ []) ≡ Wrong 13 2 5)
    × (answer 1 (header ∷ "A,7:00:00,7:00:00,pier,1" ∷ "A,8:00:30,8:00:00,,2" ∷ []) ≡ Wrong 11 3 4)
    × (answer 1 (header ∷ "A,7:00:00,7:00:00,pier,1" ∷ "A,8:00:30,8:00:00,quay,1" ∷ []) ≡ Wrong 12 3 2)
    -- an empty line lacks its first field
    × (answer 1 (header ∷ "" ∷ []) ≡ Wrong 11 2 1)
    -- columns in another order beside one that is skipped
    × (answer 1 ("stop_id,note,stop_sequence,departure_time,trip_id,arrival_time" ∷ "pier,x,1,7:05:00,A,7:00:00" ∷ []) ≡ calls 1 1 0)
    -- a column that the header lacks, or the first of two; a quote mark; no line at all; nothing but the header
    × (answer 1 ("trip_id,arrival_time,departure_time,stop_id" ∷ "A,7:00:00,7:00:00,pier" ∷ []) ≡ Wrong 11 1 5)
    × (answer 1 ("trip_id,departure_time,stop_sequence" ∷ []) ≡ Wrong 11 1 2)
    × (answer 1 ("trip_id,\"arrival_time\"" ∷ []) ≡ Wrong 11 1 0)
    × (answer 1 [] ≡ Wrong 11 1 1)
    × (answer 1 (header ∷ []) ≡ calls 0 0 0)
unfolding stop_times read_from line_verdict header_verdict next_verdict own_verdict filled_verdict times_verdict is_filled time_rule sequence_rule
    texts_on stop_time_of trips_of stops_of last_call rises_behind row_between row_behind rows_of id_rule number_of with_id same_bytes
    is_time time_minutes hours_in tail_in minutes_in tail_rule is_whole are_digits value_of value_behind
    columns_of column_of column_from lines_of ended without_return parts on_first fields_of field_of has_quote
answers = (refl, refl, refl, refl, refl, refl, refl, refl, refl, refl, refl, refl, refl, refl)
