-- Document 02, E2: what is read from what the import returns: a refusal and its reason, or a file that was written.
use Rattle.std.specs.Prelude.{ℕ, ◌+◌, ◌*◌, ◌≤◌, ◌<◌, List, ◌≡◌, length, take, drop, Result, Ok}
use Rattle.timetable.specs.Limits.{fewest_stops, most_stops, most_rows}
use Rattle.timetable.specs.Verdict.{refused as told_refused}
use Rattle.timetable.specs.declared.Refusal.{Refusal as ToldRefusal}
use Rattle.file_layout.specs.declared.Trailer.{Trailer}
use Rattle.file_layout.specs.Check.{checked}
use Rattle.file_layout.specs.Decode.{decode}
use Rattle.file_layout.specs.Format.{version_one}
use Rattle.file_encoding.specs.Encode.{encode}
use Rattle.file_writing.specs.Ends.{on_time_trailer}
use Rattle.gtfs_stop_time.specs.StopTime.{StopTime, day_start}
use Rattle.gtfs_calls.specs.Calls.{stops_of, rows_of, timetable_of}
use Rattle.gtfs_calls.specs.FaultNumbers.{TextFault}
use Rattle.gtfs_calls.specs.Reading.{Reading, said, wrong, stop_times}
use Rattle.gtfs_import.specs.declared.Written.{Written}
use Rattle.gtfs_import.specs.Import.{first_day, last_day, imported}
use Rattle.file_writing.specs.Answers.{RefusedOnTime}

-- a service day, and room for the longest file
pub record Asked (day : ℕ) (out : List ℕ) : Type 0 where
  pub first : first_day ≤ day
  pub last : day ≤ last_day
  pub room : version_one.mostbytes ≤ length out

-- what the text says on its service day
abbrev pub read_on : (day : ℕ) → (text : List ℕ) → Reading
read_on day text = stop_times (day_start day) text

-- the file of the calls
abbrev pub file_of : List StopTime → List ℕ
file_of calls = encode version_one (timetable_of calls)

-- the file of these calls stands in the first bytes, the check accepts it, and other bytes are as they were
pub record FileWritten (calls : List StopTime) (out out' : List ℕ) (trailer : Trailer) (bytes : ℕ) : Type 0 where
  pub file : take bytes out' ≡ file_of calls
  pub accepted : checked (take bytes out') ≡ Ok trailer
  pub decodes : decode version_one (take bytes out') ≡ timetable_of calls
  pub size : bytes ≡ 12 * length (rows_of calls) + 20
  pub says : trailer ≡ on_time_trailer (length (stops_of calls)) (length (rows_of calls))
  pub enough_stops : fewest_stops ≤ length (stops_of calls)
  pub few_stops : length (stops_of calls) ≤ most_stops
  pub few_rows : length (rows_of calls) ≤ most_rows
  pub others : drop bytes out' ≡ drop bytes out
  pub same_length : length out' ≡ length out

-- why there is a refusal: 6; 7; the text's fault, whose place is 0; or the check's
pub data Reason (text : List ℕ) (day : ℕ) (out : List ℕ) : (number place : ℕ) → Type 0 where
  no_day : (first_day ≤ day → day ≤ last_day → ⊥) → Reason text day out 6 0
  little_room : first_day ≤ day → day ≤ last_day → length out < version_one.mostbytes → Reason text day out 7 0
  text_fault : {number : ℕ} (line column : ℕ) → Asked day out → read_on day text ≡ wrong number line column → TextFault number column
      → Reason text day out number 0
  file_fault : {number place : ℕ} (calls : List StopTime) → Asked day out → read_on day text ≡ said calls
      → checked (file_of calls) ≡ told_refused number place → RefusedOnTime (length (stops_of calls)) (length (rows_of calls)) number place
      → Reason text day out number place

-- a refusal leaves `out` as it was; otherwise a file was written
pub data Ended (text : List ℕ) (day : ℕ) (out : List ℕ) (answer : Result Written (ToldRefusal ℕ)) (out' : List ℕ) : Type 0 where
  refused : (number place : ℕ) → Reason text day out number place → answer ≡ told_refused number place → out' ≡ out → Ended text day out answer out'
  written : (calls : List StopTime) (trailer : Trailer) (bytes : ℕ) → Asked day out → read_on day text ≡ said calls
      → FileWritten calls out out' trailer bytes → answer ≡ imported trailer bytes → Ended text day out answer out'

-- how many rows the text has
abbrev pub rows_in : Reading → ℕ
rows_in (said calls) = length (rows_of calls)
rows_in (wrong number line column) = 0

-- the refusals that there are, by number and place, for a text of n rows
pub data Refusal (n : ℕ) : (number place : ℕ) → Type 0 where
  too_few_stops : Refusal n 1 0
  bad_row : {row : ℕ} → row < n → Refusal n 4 row
  bad_order : {row : ℕ} → row < n → Refusal n 5 row
  no_such_day : Refusal n 6 0
  too_little_room : Refusal n 7 0
  past_a_limit : Refusal n 9 0
  unreadable_line : Refusal n 11 0
  wrong_time : Refusal n 12 0
  wrong_sequence : Refusal n 13 0
