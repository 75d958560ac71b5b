-- Room for the longest file that the import writes.
use Rattle.std.specs.Prelude.{ℕ, ◌+◌, ◌*◌}
use Rattle.timetable.specs.Limits.{most_rows}

-- the most rows, one table of maximum 0 and the trailer
abbrev pub file_room : ℕ
file_room = 12 * most_rows + 20
