-- What a file's sailings are: its rows and its tables.
use Rattle.std.specs.Prelude.{ℕ, List}
use Rattle.timetable.specs.Timetable.{Timetable}
use Rattle.timetable.specs.declared.Row.{Row}
use Rattle.plan_rows.specs.Reading.{rows_in, tables_in, timetable_in}
use Rattle.plan_rows.specs.declared.sailings.Sailings.{Sailings}

abbrev pub rows_of : Sailings → List Row
rows_of s = rows_in s.file.now s.places

abbrev pub tables_of : Sailings → List (List ℕ)
tables_of s = tables_in s.file.now s.places

abbrev pub timetable_of : Sailings → Timetable
timetable_of s = timetable_in s.file.now s.places
