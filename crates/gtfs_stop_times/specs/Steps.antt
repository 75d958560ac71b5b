-- What a line adds to the notes, and what all lines come to.
use Rattle.std.specs.Prelude.{ℕ, ◌≤◌, ◌<◌, cond, List, [], ◌∷◌, ◌≡◌, length, drop, Result, Ok, Err, Option, Some, None, is_none}
use Rattle.timetable.specs.Verdict.{fine, fault}
use Rattle.gtfs_lines.specs.declared.Columns.{Columns}
use Rattle.gtfs_lines.specs.Lines.{lines_of}
use Rattle.gtfs_lines.specs.Cut.{first_line, behind_line}
use Rattle.gtfs_stop_time.specs.StopTime.{StopTime, texts_on, stop_time_of}
use Rattle.gtfs_stop_time.specs.declared.FieldFault.{FieldFault}
use Rattle.gtfs_stop_times.specs.declared.LineFault.{LineFault}
use Rattle.gtfs_stop_times.specs.declared.Notes.{Notes}
use Rattle.gtfs_stop_times.specs.declared.Service.{Service}
use Rattle.gtfs_calls.specs.Faults.{line_verdict}
use Rattle.gtfs_calls.specs.Reading.{Reading, said, wrong, read_from}
use Rattle.gtfs_stop_times.specs.Held.{Held}

-- the line that starts at `at` has no fault: where the next line starts, and the notes with its call
pub record LineSound (text : List ℕ) (at : ℕ) (service : Service) (back : List StopTime) (next : ℕ) (notes : Notes) : Type 0 where
  pub sound : line_verdict service.columns service.start back (first_line (drop at text)) ≡ fine
  pub onward : at < next
  pub inside : next ≤ length text
  pub behind : drop next text ≡ behind_line (drop at text)
  pub held : Held text (stop_time_of service.start (texts_on service.columns (first_line (drop at text))) ∷ back) notes

-- or its fault
abbrev pub LineRead : (text : List ℕ) (at : ℕ) (service : Service) (back : List StopTime) → Result ℕ FieldFault → Notes → Type 0
LineRead text at service back (Ok next) notes = LineSound text at service back next notes
LineRead text at service back (Err told) notes =
    line_verdict service.columns service.start back (first_line (drop at text)) ≡ fault told.number told.column

-- whatever calls the notes held, they are as this line leaves them
abbrev pub ReadAs : List ℕ → ℕ → Service → Notes → Result ℕ FieldFault → Notes → Type 0
ReadAs text at service notes step notes' = (back : List StopTime) → Held text back notes → LineRead text at service back step notes'

-- all lines: the notes with all calls, or the first fault
abbrev pub LinesRead : (text : List ℕ) → Reading → Result Unit LineFault → Notes → Type 0
LinesRead text reading (Ok all) notes = (back : List StopTime) × (reading ≡ said back) × Held text back notes
LinesRead text reading (Err first) notes = reading ≡ wrong first.number first.line first.column

-- the calls of the lines from byte `begin` on, the first of which is line 2
abbrev pub read_behind : List ℕ → ℕ → Service → Reading
read_behind text begin service = read_from service.columns service.start [] 2 (lines_of (drop begin text))

-- the first of the five columns that the header lacks
unfoldable pub missing_column : Columns → Option ℕ
missing_column columns =
    cond (is_none columns.trip) (Some 1) (cond (is_none columns.arrival) (Some 2) (cond (is_none columns.departure) (Some 3)
    (cond (is_none columns.stop) (Some 4) (cond (is_none columns.sequence) (Some 5) None))))
