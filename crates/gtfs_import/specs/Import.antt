-- Document 02, E2: what the import answers, and `out` afterwards: a sailing file, rows first, for one service day; or a refusal, which
-- leaves `out` as it was.
use Rattle.std.specs.Prelude.{ℕ, Bool, ◌&&◌, List, [], ◌∷◌, leb, length, Result, Ok, Err}
use Rattle.numbers.specs.Over.{over}
use Rattle.timetable.specs.Verdict.{or_else, unless, by_verdict, refused}
use Rattle.timetable.specs.declared.Refusal.{Refusal}
use Rattle.file_layout.specs.declared.Trailer.{Trailer}
use Rattle.file_layout.specs.Format.{version_one}
use Rattle.file_layout.specs.Check.{Answer, checked}
use Rattle.file_encoding.specs.Encode.{encode}
use Rattle.gtfs_stop_time.specs.StopTime.{day_start}
use Rattle.gtfs_calls.specs.Calls.{timetable_of}
use Rattle.gtfs_calls.specs.Reading.{Reading, said, wrong, stop_times}
use Rattle.gtfs_import.specs.declared.Written.{Written}

-- a service day, 1 to 7
abbrev pub first_day : ℕ
first_day = 1

abbrev pub last_day : ℕ
last_day = 7

unfoldable pub day_rule : ℕ → Bool
day_rule day = leb first_day day && leb day last_day

-- room for the longest file, 27,920 bytes
unfoldable pub room_rule : ℕ → Bool
room_rule room = leb version_one.mostbytes room

-- a file that was written
abbrev pub imported : Trailer → (bytes : ℕ) → Result Written (Refusal ℕ)
imported trailer bytes = Ok (record { trailer = trailer; bytes = bytes })

pub record ImportOutcome : Type 0 where
  pub answer : Result Written (Refusal ℕ)
  pub out : List ℕ

abbrev pub refused_import : (number place : ℕ) → List ℕ → ImportOutcome
refused_import number place out = record { answer = refused number place; out = out }

-- document 01's own refusals, in order, over the finished file
unfoldable pub by_check : (file out : List ℕ) → Result Trailer (Refusal ℕ) → ImportOutcome
by_check file out (Ok trailer) = record { answer = imported trailer (length file); out = over file out }
by_check file out (Err refusal) = refused_import refusal.number refusal.place out

-- the first fault by line, whose place is 0; else the file of the calls
unfoldable pub by_reading : Reading → List ℕ → ImportOutcome
by_reading (said calls) out = let file = encode version_one (timetable_of calls) in by_check file out (checked file)
by_reading (wrong number line column) out = refused_import number 0 out

-- 6 service day not 1 to 7; 7 room below 27,920 bytes; then what the text says
unfoldable pub import_outcome : (text : List ℕ) (day : ℕ) (out : List ℕ) → ImportOutcome
import_outcome text day out =
    let read = by_reading (stop_times (day_start day) text) out in
    by_verdict (λ number place. refused_import number place out) read (or_else (unless (day_rule day) 6 0) (unless (room_rule (length out)) 7 0))

-- by document 01's number, place and values: S, n and K, as the check says them, and the file's length
unfoldable pub import_answer : Result Written (Refusal ℕ) → Answer
import_answer (Ok file) =
    record { number = 0; place = 0; values = file.trailer.stops ∷ file.trailer.rows ∷ file.trailer.classes ∷ file.bytes ∷ [] }
import_answer (Err refusal) = record { number = refusal.number; place = refusal.place; values = [] }
