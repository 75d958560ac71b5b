-- What the notes hold while the lines are read: the books of trips and stops, each trip's last call, and the rows as read.
use Rattle.std.specs.Prelude.{ℕ, suc, ◌+◌, ◌*◌, ◌≤◌, ◌<◌, List, [], ◌∷◌, cond, ◌≡◌, eqb, length, take, get_or, Result, Ok, Err}
use Rattle.std.proofs.Math.Option.{some}
use Rattle.std.proofs.lemmas.List.Edits.{sets}
use Rattle.timetable.specs.Limits.{most_stops, most_rows, most_trips}
use Rattle.timetable.specs.Timetable.{row_of}
use Rattle.timetable.specs.Verdict.{fine, fault}
use Rattle.file_layout.specs.Small.{SmallRow}
use Rattle.file_encoding.specs.Encode.{rows_bytes}
use Rattle.gtfs_ids.specs.declared.Key.{Key}
use Rattle.gtfs_ids.specs.Ids.{number_of}
use Rattle.gtfs_ids.specs.Book.{HoldsIds, book_cells, book_with, key_number, keys_in}
use Rattle.gtfs_stop_times.specs.declared.Notes.{Notes}
use Rattle.gtfs_stop_time.specs.declared.Call.{Call}
use Rattle.gtfs_stop_time.specs.declared.FieldFault.{FieldFault}
use Rattle.gtfs_stop_time.specs.StopTime.{StopTime, last_minute, sequence_limit}
use Rattle.gtfs_calls.specs.Calls.{trips_of, stops_of, last_call, rows_of}
use Rattle.gtfs_calls.specs.Faults.{next_verdict}
use Rattle.gtfs_stop_time.specs.Said.{Says}

-- three cells a trip: the stop, departure and stop_sequence of its last call
pub record CallHeld (last : List ℕ) (stops : List (List ℕ)) (t : ℕ) (call : StopTime) : Type 0 where
  pub stop : get_or last (3 * t) 0 ≡ number_of stops call.stop
  pub departure : get_or last (3 * t + 1) 0 ≡ call.departure
  pub sequence : get_or last (3 * t + 2) 0 ≡ call.sequence
  pub stop_known : number_of stops call.stop < length stops
  pub minute : call.departure ≤ last_minute

-- room for the most trips, stops and rows
pub record NotesRoom (notes : Notes) : Type 0 where
  pub trip_cells : length notes.trips ≡ book_cells most_trips
  pub stop_cells : length notes.stops ≡ book_cells most_stops
  pub call_cells : length notes.last ≡ 3 * most_trips
  pub rows_length : length notes.rows ≡ 12 * most_rows

pub record Held (text : List ℕ) (back : List StopTime) (notes : Notes) : Type 0 where
  pub room : NotesRoom notes
  pub trip_ids : HoldsIds text notes.trips (trips_of back)
  pub stop_ids : HoldsIds text notes.stops (stops_of back)
  pub trip_count : notes.counts.trips ≡ length (trips_of back)
  pub stop_count : notes.counts.stops ≡ length (stops_of back)
  pub row_count : notes.counts.rows ≡ length (rows_of back)
  pub few_trips : notes.counts.trips ≤ most_trips
  pub few_stops : notes.counts.stops ≤ most_stops
  pub few_rows : notes.counts.rows ≤ most_rows
  pub calls : (t : ℕ) → t < notes.counts.trips
      → (call : StopTime) × (last_call (get_or (trips_of back) t []) back ≡ some call) × CallHeld notes.last (stops_of back) t call
  pub read : take (12 * notes.counts.rows) notes.rows ≡ rows_bytes (rows_of back)
  pub small : (i : ℕ) → i < notes.counts.rows → SmallRow (row_of (rows_of back) i)

-- the notes hold some calls
abbrev pub Holding : (text : List ℕ) → Notes → Type 0
Holding text notes = (back : List StopTime) × Held text back notes

-- what a call without a fault of its own adds: the notes with it, or its fault behind those read so far
abbrev pub CallTaken : (text : List ℕ) (back : List StopTime) → StopTime → Result Unit FieldFault → Notes → Type 0
CallTaken text back says (Ok added) notes = (next_verdict back says ≡ fine) × Held text (says ∷ back) notes
CallTaken text back says (Err told) notes = next_verdict back says ≡ fault told.number told.column

-- the notes hold the calls read so far, and the call says something without a fault of its own
abbrev pub Ready : Call → Notes → Type 0
Ready call notes = (text : List ℕ) × (back : List StopTime) × (says : StopTime) × Held text back notes × Says text call says

-- whatever calls the notes held, they are as this call leaves them
abbrev pub TakenAs : Call → Notes → Result Unit FieldFault → Notes → Type 0
TakenAs call notes taken notes' =
    (text : List ℕ) → (back : List StopTime) → (says : StopTime) → Held text back notes → Says text call says → CallTaken text back says taken notes'

-- the numbers of a call's trip and stop, as they are found in the notes
pub record Found (call : Call) (notes : Notes) (trip stop : ℕ) : Type 0 where
  pub trip_found : trip ≡ key_number (keys_in notes.trips notes.counts.trips) call.trip
  pub stop_found : stop ≡ key_number (keys_in notes.stops notes.counts.stops) call.stop

abbrev pub count_with : (count number : ℕ) → ℕ
count_with count number = cond (eqb number count) (suc count) count

-- what a call that is taken needs of the notes that it goes into
pub record CallFits (call : Call) (stop : ℕ) (notes : Notes) : Type 0 where
  pub stop_number : stop ≤ notes.counts.stops
  pub few_stops : notes.counts.stops ≤ most_stops
  pub stop_room : count_with notes.counts.stops stop ≤ most_stops
  pub departs : call.departure ≤ last_minute
  pub follows : call.sequence < sequence_limit

-- a book that a new id, whose number is the count, is added to
unfoldable pub entered : List ℕ → (count number : ℕ) → Key → (place : ℕ) → List ℕ
entered book count number key place = cond (eqb number count) (book_with book count key place) book

-- the notes with a call as its trip's last, and with its stop
abbrev pub with_call : Notes → Call → (trip stop : ℕ) → Notes
with_call notes call trip stop =
    record notes {
      last = sets notes.last (3 * trip) (stop ∷ call.departure ∷ call.sequence ∷ []);
      stops = entered notes.stops notes.counts.stops stop call.stop call.stopplace;
      counts = record notes.counts { stops = count_with notes.counts.stops stop };
    }
