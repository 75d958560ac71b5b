-- Document 02, E2, on small texts, at both sides of each line. Each statement holds by computing. Assumes nothing.
use Prim.Native.Nat.{ℕ}
use mathlib.Core.Bool.{true, false}
use mathlib.Core.List.{List, [], ◌∷◌, ◌++◌}
use mathlib.Core.Path.{◌≡◌, refl}
use lib.ListN.{replicate}
use Rattle.numbers.specs.Numbers.{u16_bytes, u32_bytes, u16_at, u32_at}
use Rattle.text.specs.Decimal.{digit_of, value_behind, value_of}
use Rattle.text.specs.Same.{same_bytes}
use Rattle.timetable.specs.Classes.{sum, shares_rule}
use Rattle.timetable.specs.Rows.{own_rule, departure_rule, last_of_trip, follows, trip_rule, row_verdict, rows_verdict}
use Rattle.file_layout.specs.Check.{checked, checked_as, file_verdict, sections_verdict, length_rule, trailer_rule, class_verdict, classes_verdict, joined, sections_join, answered}
use Rattle.file_layout.specs.Format.{version_one}
use Rattle.file_layout.specs.Decode.{decode, trailer_of, trailer_at, trailer_start, rows_from, row_at, tables_from, table_at, shares_from, block_end, tables_end}
use Rattle.file_encoding.specs.Encode.{encode, rows_bytes, row_bytes, tables_bytes, table_bytes, shares_bytes, trailer_bytes}
use Rattle.file_writing.specs.Ends.{on_time_trailer}
use Rattle.gtfs_lines.specs.Lines.{line_feed, comma, on_first, parts, without_return, ended, lines_of, fields_of, field_of, has_quote}
use Rattle.gtfs_lines.specs.Columns.{trip_name, arrival_name, departure_name, stop_name, sequence_name, column_from, column_of, columns_of}
use Rattle.gtfs_fields.specs.Time.{colon, hours_in, tail_in, minutes_in, tail_rule, is_time, time_minutes}
use Rattle.gtfs_fields.specs.Whole.{are_digits, is_whole}
use Rattle.gtfs_ids.specs.Ids.{id_rule, number_of, with_id}
use Rattle.gtfs_order.specs.Order.{comes_first, among, in_order}
use Rattle.gtfs_stop_time.specs.StopTime.{day_start, texts_on, stop_time_of, is_filled, time_rule, sequence_rule, last_minute}
use Rattle.gtfs_stop_time.specs.Faults.{filled_verdict, times_verdict, own_verdict}
use Rattle.gtfs_calls.specs.Calls.{trips_of, stops_of, last_call, rises_behind, row_between, row_behind, rows_of, timetable_of}
use Rattle.gtfs_calls.specs.Faults.{next_verdict, line_verdict, header_verdict}
use Rattle.gtfs_calls.specs.Reading.{read_from, stop_times}
use Rattle.std.specs.Prelude.{Some, None}
use Rattle.timetable.specs.Verdict.{refused}
use Rattle.gtfs_import.specs.FaultPlace.{fault_place, place_for}
use Rattle.gtfs_import.specs.Import.{day_rule, room_rule, imported, ImportOutcome, refused_import, by_check, by_reading, import_outcome}

abbrev header : List ℕ
header =
    trip_name ++ (comma ∷ arrival_name) ++ (comma ∷ departure_name) ++ (comma ∷ stop_name) ++ (comma ∷ sequence_name) ++ (line_feed ∷ [])

-- a time of less than ten hours, by its three digits
abbrev time : (hour tens ones : ℕ) → List ℕ
time hour tens ones = digit_of hour ∷ colon ∷ digit_of tens ∷ digit_of ones ∷ colon ∷ digit_of 0 ∷ digit_of 0 ∷ []

-- a call of the one trip at a stop of one letter
abbrev call : (stop sequence : ℕ) → (arrival departure : List ℕ) → List ℕ
call stop sequence arrival departure =
    (116 ∷ comma ∷ []) ++ arrival ++ (comma ∷ departure) ++ (comma ∷ stop ∷ comma ∷ digit_of sequence ∷ line_feed ∷ [])

-- two calls, ten minutes apart
abbrev two_calls : List ℕ
two_calls = header ++ call 97 1 (time 0 0 5) (time 0 1 0) ++ call 98 2 (time 0 2 0) (time 0 2 5)

-- the row 0 1 departure arrival 0 0, the table 0 4,096 and the trailer 1 2 1 1 0 12
abbrev file_of_two : (departure arrival : List ℕ) → List ℕ
file_of_two departure arrival =
    (0 ∷ 0 ∷ 1 ∷ 0 ∷ []) ++ departure ++ arrival ++ (0 ∷ 0 ∷ 0 ∷ 0 ∷ [])
    ++ (0 ∷ 0 ∷ 0 ∷ 16 ∷ [])
    ++ (1 ∷ 0 ∷ 2 ∷ 0 ∷ 1 ∷ 0 ∷ 1 ∷ 0 ∷ 0 ∷ 0 ∷ 0 ∷ 0 ∷ 12 ∷ 0 ∷ 0 ∷ 0 ∷ [])

-- a third call at the second's stop
abbrev same_stop_again : List ℕ
same_stop_again = two_calls ++ call 98 3 (time 0 3 0) (time 0 3 0)

-- four stops at 1:40, 3:20, then 0:50 and on at 1:00, then 1:10: the rows in order depart at 60, 100 and 200
abbrev back_in_time : List ℕ
back_in_time =
    header ++ call 97 1 (time 1 4 0) (time 1 4 0) ++ call 98 2 (time 3 2 0) (time 3 2 0) ++ call 99 3 (time 0 5 0) (time 1 0 0)
    ++ call 100 4 (time 1 1 0) (time 1 1 0)

-- an arrival at minute 60 of an hour, on line 3
abbrev bad_time : List ℕ
bad_time = header ++ call 97 1 (time 0 0 5) (time 0 1 0) ++ call 98 2 (time 0 6 0) (time 1 0 0)

abbrev imported_from : (start : ℕ) → List ℕ → ImportOutcome
imported_from start text = by_reading (stop_times start text) []

-- day 1; day 2, whose minutes are 1,450 and 1,460; no call; no line; one stop twice; a row from a stop to itself; and the others
pub texts :
    (imported_from 0 two_calls ≡ record { answer = imported (on_time_trailer 2 1) 32; out = file_of_two (10 ∷ 0 ∷ []) (20 ∷ 0 ∷ []) })
    × (imported_from (day_start 2) two_calls ≡ record { answer = imported (on_time_trailer 2 1) 32; out = file_of_two (170 ∷ 5 ∷ []) (180 ∷ 5 ∷ []) })
    × (imported_from 0 header ≡ refused_import 1 0 [])
    × (imported_from 0 [] ≡ refused_import 11 0 [])
    × (imported_from 0 (header ++ call 97 1 (time 0 0 5) (time 0 1 0) ++ call 97 2 (time 0 2 0) (time 0 2 5)) ≡ refused_import 1 0 [])
    × (imported_from 0 same_stop_again ≡ refused_import 4 1 [])
    × (imported_from 0 back_in_time ≡ refused_import 5 1 [])
    × (imported_from 0 bad_time ≡ refused_import 12 0 [])
    × (place_for bad_time 1 ≡ Some (record { line = 3; column = 2 }))
    × (place_for [] 1 ≡ Some (record { line = 1; column = 1 }))
    × (place_for two_calls 1 ≡ None)
    × (place_for bad_time 8 ≡ None)
    × ((import_outcome two_calls 7 (replicate 27920 0)).answer ≡ imported (on_time_trailer 2 1) 32)
unfolding u16_bytes u32_bytes u16_at u32_at value_behind value_of same_bytes sum shares_rule own_rule departure_rule last_of_trip follows trip_rule row_verdict rows_verdict checked checked_as file_verdict sections_verdict length_rule trailer_rule class_verdict classes_verdict joined sections_join answered decode trailer_of trailer_at trailer_start rows_from row_at tables_from table_at shares_from block_end tables_end encode rows_bytes row_bytes tables_bytes table_bytes shares_bytes trailer_bytes on_first parts without_return ended lines_of fields_of field_of has_quote column_from column_of columns_of hours_in tail_in minutes_in tail_rule is_time time_minutes are_digits is_whole id_rule number_of with_id comes_first among in_order texts_on stop_time_of is_filled time_rule sequence_rule filled_verdict times_verdict own_verdict trips_of stops_of last_call rises_behind row_between row_behind rows_of timetable_of next_verdict line_verdict header_verdict read_from stop_times fault_place place_for day_rule room_rule by_check by_reading import_outcome
texts = (refl, refl, refl, refl, refl, refl, refl, refl, refl, refl, refl, refl, refl)

-- service days are 1 to 7, whatever the text and the room
pub service_days :
    ((text out : List ℕ) → import_outcome text 0 out ≡ refused_import 6 0 out) × ((text out : List ℕ) → import_outcome text 8 out ≡ refused_import 6 0 out)
    × (day_rule 1 ≡ true) × (day_rule 7 ≡ true)
unfolding import_outcome day_rule
service_days = ((λ text out. refl), (λ text out. refl), refl, refl)

-- 27,919 bytes are too few, whatever the text
pub rooms :
    ((text : List ℕ) → (import_outcome text 1 (replicate 27919 0)).answer ≡ refused 7 0) × ((text : List ℕ) → import_outcome text 7 [] ≡ refused_import 7 0 [])
    × (room_rule 27919 ≡ false) × (room_rule 27920 ≡ true)
unfolding import_outcome day_rule room_rule
rooms = ((λ text. refl), (λ text. refl), refl, refl)

-- a time's last minute is that of version 1's rows
pub last_minute_lem : last_minute ≡ version_one.lastminute
last_minute_lem = refl
