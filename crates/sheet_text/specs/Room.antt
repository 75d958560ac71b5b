-- How wide the sheet's texts get, and so what room a sheet can need.
use Rattle.std.specs.Prelude.{ℕ, ◌+◌, ◌*◌}
use Rattle.timetable.specs.Limits.{most_rows}
use Rattle.text.specs.Put.{number_width}
use Rattle.clock.specs.Text.{widest}

-- two stops, three times, four blanks and the line's end
abbrev pub line_width : ℕ
line_width = 2 * number_width + 3 * widest + 5

-- `plan`, a number, two times, three blanks and the line's end
abbrev pub first_width : ℕ
first_width = 4 + number_width + 2 * widest + 4

-- a first line, and a line for each row as a ride
abbrev pub sheet_room : ℕ
sheet_room = first_width + most_rows * line_width
