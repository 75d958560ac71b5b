-- A minute's day, hour and minute of the hour: their ranges, and that together they name one minute. Assumes nothing.
use Prim.Native.Nat.{ℕ, ◌+◌, ◌*◌, ◌<◌, ◌≤◌}
use mathlib.Core.Path.{◌≡◌, ap}
use native.Mathlib.Omega.{arith}
use Rattle.timetable.specs.Ticks.{ticks_a_minute}
use Rattle.clock.specs.Clock.{day_length, day_of, day_start, since_midnight, hour_of, minute_of_hour, rounded_up}

pub day_started : (minute : ℕ) → day_start (day_of minute) ≤ minute
unfolding day_start day_of
day_started minute = omega arith

pub since_below : (minute : ℕ) → since_midnight minute < day_length
unfolding since_midnight day_start day_of
since_below minute = omega arith

pub hour_below : (minute : ℕ) → hour_of minute < 24
unfolding hour_of
hour_below minute = omega (arith, since_below minute)

pub minute_below : (minute : ℕ) → minute_of_hour minute < 60
unfolding minute_of_hour
minute_below minute = omega arith

-- the parts put together
pub parts : (minute : ℕ) → day_start (day_of minute) + (60 * hour_of minute + minute_of_hour minute) ≡ minute
unfolding hour_of minute_of_hour since_midnight
parts minute = omega (arith, day_started minute)

-- day, hour and minute of the hour together name one minute
pub one_minute : (a b : ℕ) → day_of a ≡ day_of b → hour_of a ≡ hour_of b → minute_of_hour a ≡ minute_of_hour b → a ≡ b
one_minute a b day hour minute =
    omega (arith, parts a, parts b, ap day_start day, hour, minute)

-- and every day, hour and minute of the hour is that of the minute they name
pub day_of_parts : (day hour minute : ℕ) → 0 < day → hour < 24 → minute < 60 → day_of (day_start day + (60 * hour + minute)) ≡ day
unfolding day_of day_start
day_of_parts day hour minute some h m = omega arith

pub since_of_parts : (day hour minute : ℕ) → 0 < day → hour < 24 → minute < 60
    → since_midnight (day_start day + (60 * hour + minute)) ≡ 60 * hour + minute
unfolding since_midnight
since_of_parts day hour minute some h m = rw (day_of_parts day hour minute some h m) (omega arith)

pub hour_of_parts : (day hour minute : ℕ) → 0 < day → hour < 24 → minute < 60
    → hour_of (day_start day + (60 * hour + minute)) ≡ hour
unfolding hour_of
hour_of_parts day hour minute some h m = rw (since_of_parts day hour minute some h m) (omega arith)

pub minute_of_parts : (day hour minute : ℕ) → 0 < day → hour < 24 → minute < 60
    → minute_of_hour (day_start day + (60 * hour + minute)) ≡ minute
unfolding minute_of_hour
minute_of_parts day hour minute some h m = rw (since_of_parts day hour minute some h m) (omega arith)

-- a minute of so many days prints one of them, from day 1 on
pub printed_day : (days minute : ℕ) → minute < days * day_length → (1 ≤ day_of minute) × (day_of minute ≤ days)
unfolding day_of
printed_day days minute h = (omega arith, omega arith)

-- ticks rounded up: the first minute that is not before them
pub rounded_up_lem : (ticks : ℕ) → (ticks ≤ ticks_a_minute * rounded_up ticks) × (ticks_a_minute * rounded_up ticks < ticks + ticks_a_minute)
unfolding rounded_up
rounded_up_lem ticks = (omega arith, omega arith)

-- whole minutes stay, and ticks up to a minute round to no later one
pub rounded_whole : (minute : ℕ) → rounded_up (ticks_a_minute * minute) ≡ minute
unfolding rounded_up
rounded_whole minute = omega arith

pub printed_ticks : (ticks minute : ℕ) → ticks ≤ ticks_a_minute * minute → rounded_up ticks ≤ minute
unfolding rounded_up
printed_ticks ticks minute h = omega arith
