-- What reading answers, and what it writes of the calls: their rows in order, or the names of their ids.
use Rattle.std.specs.Prelude.{ℕ, List, length, Result, Ok, Err}
use Rattle.numbers.specs.Over.{over}
use Rattle.file_encoding.specs.Encode.{rows_bytes}
use Rattle.gtfs_order.specs.Order.{in_order}
use Rattle.gtfs_stop_time.specs.StopTime.{StopTime}
use Rattle.gtfs_stop_times.specs.declared.Counts.{Counts}
use Rattle.gtfs_stop_times.specs.declared.Wanted.{Wanted}
use Rattle.gtfs_stop_times.specs.declared.Wanted.TheVariants.{Rows, Names}
use Rattle.gtfs_stop_times.specs.declared.Listed.{Listed}
use Rattle.gtfs_stop_times.specs.declared.LineFault.{LineFault}
use Rattle.gtfs_calls.specs.Calls.{trips_of, stops_of, rows_of}
use Rattle.gtfs_calls.specs.Reading.{Reading, said, wrong}
use Rattle.gtfs_calls.specs.Names.{names_text, names_room}

abbrev pub counts_of : List StopTime → Counts
counts_of calls = record { trips = length (trips_of calls); stops = length (stops_of calls); rows = length (rows_of calls) }

-- what is written of the calls
unfoldable pub written_of : Wanted → List StopTime → List ℕ
written_of Rows calls = rows_bytes (in_order (rows_of calls))
written_of Names calls = names_text calls

-- how many trips, stops and rows there are, and how many bytes are written; or the first fault with its line and column
unfoldable pub read_answer : Wanted → Reading → Result Listed LineFault
read_answer wanted (said calls) = Ok (record { counts = counts_of calls; bytes = length (written_of wanted calls) })
read_answer wanted (wrong number line column) = Err (record { number = number; line = line; column = column })

-- it goes over the first bytes; a fault changes nothing
unfoldable pub out_after : Wanted → Reading → List ℕ → List ℕ
out_after wanted (said calls) out = over (written_of wanted calls) out
out_after wanted (wrong number line column) out = out

-- room for the most that can be written
abbrev pub wanted_room : Wanted → ℕ
wanted_room Rows = 24000
wanted_room Names = names_room
