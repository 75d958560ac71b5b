-- Document 02, E2: "one table of maximum 0".
use Rattle.std.specs.Prelude.{ℕ, ◌*◌, List, [], ◌∷◌}
use Rattle.timetable.specs.Classes.{share_total}
use Rattle.timetable.specs.Timetable.{Timetable}
use Rattle.timetable.specs.declared.Row.{Row}
use Rattle.file_layout.specs.declared.Trailer.{Trailer}

-- all landings are on time
abbrev pub never_late : List ℕ
never_late = share_total ∷ []

-- rows that are never late
abbrev pub on_time : ℕ → List Row → Timetable
on_time stops rows = record { stops = stops; rows = rows; tables = never_late ∷ [] }

-- the trailer behind n such rows and their one table, in version 1
abbrev pub on_time_trailer : (stops n : ℕ) → Trailer
on_time_trailer stops n = record { version = 1; stops = stops; rows = n; classes = 1; rowstart = 0; tablestart = 12 * n }
