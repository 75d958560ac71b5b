-- Document 01, "The sailing file" and "The sheet": a minute's day, hour and minute of the hour, and ticks rounded up.
use Rattle.std.specs.Prelude.{ℕ, suc, pred, ◌*◌, ◌-◌, ◌/◌, ◌%◌}
use Rattle.timetable.specs.Ticks.{ticks_a_minute, quotient_up}

-- Every day has 1,440 minutes
abbrev pub day_length : ℕ
day_length = 1440

-- Minute 0 is local midnight opening day 1
unfoldable pub day_of : ℕ → ℕ
day_of minute = suc (minute / day_length)

-- the minute at which a day starts: the only place that says how long the days before it are
unfoldable pub day_start : ℕ → ℕ
day_start day = pred day * day_length

-- minutes since the day's midnight
unfoldable pub since_midnight : ℕ → ℕ
since_midnight minute = minute - day_start (day_of minute)

unfoldable pub hour_of : ℕ → ℕ
hour_of minute = since_midnight minute / 60

unfoldable pub minute_of_hour : ℕ → ℕ
minute_of_hour minute = since_midnight minute % 60

-- an expected arrival is rounded up to a minute
unfoldable pub rounded_up : ℕ → ℕ
rounded_up ticks = quotient_up ticks_a_minute ticks
