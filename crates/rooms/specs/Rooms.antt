-- How many numbers and bytes are lent, all of them 0 before anything is written there.
use Rattle.std.specs.Prelude.{ℕ, ◌+◌, ◌*◌, List, replicate}
use Rattle.timetable.specs.Limits.{most_rows}

-- 4n + 2,500 numbers for the most rows, and 3n
abbrev pub work_numbers : ℕ
work_numbers = 4 * most_rows + 2500

abbrev pub plan_numbers : ℕ
plan_numbers = 3 * most_rows

-- more than the longest sound file has, and more than a query has
abbrev pub sailings_room : ℕ
sailings_room = 28000

abbrev pub query_room : ℕ
query_room = 16

unfoldable pub zeros : ℕ → List ℕ
zeros count = replicate count 0
