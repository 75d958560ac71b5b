-- What the check can answer to a file in which nothing is late: 1 for too few stops, else 4 or 5 at a row, else it is sound.
use Rattle.std.specs.Prelude.{ℕ, ◌<◌, ◌≤◌, List, ◌≡◌, length, Result, Ok, Err}
use Rattle.timetable.specs.Limits.{fewest_stops}
use Rattle.timetable.specs.declared.Row.{Row}
use Rattle.timetable.specs.declared.Refusal.{Refusal}
use Rattle.file_layout.specs.declared.Trailer.{Trailer}
use Rattle.file_layout.specs.Check.{checked_as}
use Rattle.file_layout.specs.Format.{version_one}
use Rattle.file_encoding.specs.Encode.{encode}
use Rattle.file_encoding.specs.Writable.{trailer_for}
use Rattle.file_writing.specs.Ends.{on_time}

-- what the check answers to the file of these rows
abbrev pub checked_on_time : ℕ → List Row → Result Trailer (Refusal ℕ)
checked_on_time stops rows = checked_as version_one (encode version_one (on_time stops rows))

-- a refusal by its number and place, in a file of so many stops and rows: never 2 or 3
pub data RefusedOnTime (stops n : ℕ) : ℕ → ℕ → Type 0 where
  few_stops : stops < fewest_stops → RefusedOnTime stops n 1 0
  own_fault : {i : ℕ} → fewest_stops ≤ stops → i < n → RefusedOnTime stops n 4 i
  order_fault : {i : ℕ} → fewest_stops ≤ stops → i < n → RefusedOnTime stops n 5 i

-- an answer that the check can give: such a refusal, or the trailer as it was written
abbrev pub AnsweredOnTime : (stops : ℕ) → List Row → Result Trailer (Refusal ℕ) → Type 0
AnsweredOnTime stops rows (Ok h) = (fewest_stops ≤ stops) × (h ≡ trailer_for version_one (on_time stops rows))
AnsweredOnTime stops rows (Err r) = RefusedOnTime stops (length rows) r.number r.place
