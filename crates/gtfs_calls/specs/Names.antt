-- The ids by number as a text: a line for each stop, then a line for each trip, as the office's file `names` has them.
use Rattle.std.specs.Prelude.{ℕ, ◌+◌, ◌*◌, List, [], ◌∷◌, ◌++◌}
use Rattle.timetable.specs.Limits.{most_stops, most_trips}
use Rattle.gtfs_lines.specs.Lines.{line_feed, quote_mark}
use Rattle.gtfs_ids.specs.Ids.{longest_id}
use Rattle.gtfs_stop_time.specs.StopTime.{StopTime}
use Rattle.gtfs_calls.specs.Calls.{trips_of, stops_of}

-- `stop` and `trip`, each with a blank behind it
abbrev pub stop_word : List ℕ
stop_word = 115 ∷ 116 ∷ 111 ∷ 112 ∷ 32 ∷ []

abbrev pub trip_word : List ℕ
trip_word = 116 ∷ 114 ∷ 105 ∷ 112 ∷ 32 ∷ []

-- the word, the id between two quote marks, an LF
unfoldable pub id_line : (word id : List ℕ) → List ℕ
id_line word id = word ++ (quote_mark ∷ []) ++ id ++ (quote_mark ∷ []) ++ (line_feed ∷ [])

unfoldable pub id_lines : (word : List ℕ) → List (List ℕ) → List ℕ
id_lines word [] = []
id_lines word (id ∷ ids) = id_line word id ++ id_lines word ids

unfoldable pub names_text : List StopTime → List ℕ
names_text calls = id_lines stop_word (stops_of calls) ++ id_lines trip_word (trips_of calls)

-- a line has at most a word of five bytes, two quote marks, an id and an LF
abbrev pub line_room : ℕ
line_room = 8 + longest_id

abbrev pub names_room : ℕ
names_room = line_room * (most_stops + most_trips)
