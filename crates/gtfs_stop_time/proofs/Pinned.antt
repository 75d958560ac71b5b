-- Facts that pin what a line may say, on both sides of each border. Assumes nothing.
use Prim.Native.Nat.{ℕ, ◌+◌}
use mathlib.Core.Bool.{true, false}
use mathlib.Core.List.{List, [], ◌∷◌, ◌++◌}
use mathlib.Core.Path.{◌≡◌, refl}
use Rattle.timetable.specs.Verdict.{fine, fault}
use Rattle.text.specs.Decimal.{value_behind, value_of}
use Rattle.gtfs_fields.specs.Whole.{is_whole, are_digits}
use Rattle.gtfs_fields.specs.Time.{is_time, time_minutes, hours_in, tail_in, minutes_in, tail_rule}
use Rattle.gtfs_ids.specs.Ids.{id_rule}
use Rattle.gtfs_stop_time.specs.StopTime.{FieldTexts, day_start, is_filled, time_rule, sequence_rule, stop_time_of}
use Rattle.gtfs_stop_time.specs.Faults.{filled_verdict, times_verdict, own_verdict}

-- ids of one byte, of sixteen, and of seventeen
abbrev shortest : List ℕ
shortest = 65 ∷ []

abbrev longest : List ℕ
longest = 65 ∷ 66 ∷ 67 ∷ 68 ∷ 69 ∷ 70 ∷ 71 ∷ 72 ∷ 73 ∷ 74 ∷ 75 ∷ 76 ∷ 77 ∷ 78 ∷ 79 ∷ 80 ∷ []

abbrev too_long : List ℕ
too_long = 64 ∷ longest

pub ids : (id_rule [] ≡ false) × (id_rule shortest ≡ true) × (id_rule longest ≡ true) × (id_rule too_long ≡ false)
unfolding id_rule
ids = (refl, refl, refl, refl)

-- a time, from its hours in ASCII and the two digits of its minutes
abbrev clock : (hours : List ℕ) (tens ones : ℕ) → List ℕ
clock hours tens ones = hours ++ (58 ∷ (48 + tens) ∷ (48 + ones) ∷ 58 ∷ 48 ∷ 48 ∷ [])

-- 167:59:00
abbrev week_end : List ℕ
week_end = clock (49 ∷ 54 ∷ 55 ∷ []) 5 9

-- 168:00:00
abbrev behind_week : List ℕ
behind_week = clock (49 ∷ 54 ∷ 56 ∷ []) 0 0

-- 23:59:00
abbrev day_end : List ℕ
day_end = clock (50 ∷ 51 ∷ []) 5 9

-- 24:00:00
abbrev behind_day : List ℕ
behind_day = clock (50 ∷ 52 ∷ []) 0 0

-- 25:10:00
abbrev next_night : List ℕ
next_night = clock (50 ∷ 53 ∷ []) 1 0

-- minutes 10,079 and 10,080, on day 1 and on day 7
pub last_minutes : (time_rule (day_start 1) week_end ≡ true) × (time_rule (day_start 1) behind_week ≡ false)
    × (time_rule (day_start 7) day_end ≡ true) × (time_rule (day_start 7) behind_day ≡ false)
unfolding time_rule is_time is_whole are_digits time_minutes hours_in tail_in minutes_in tail_rule value_of value_behind
last_minutes = (refl, refl, refl, refl)

-- 65535 and 65536
abbrev last_place : List ℕ
last_place = 54 ∷ 53 ∷ 53 ∷ 51 ∷ 53 ∷ []

abbrev behind_places : List ℕ
behind_places = 54 ∷ 53 ∷ 53 ∷ 51 ∷ 54 ∷ []

pub sequences : (sequence_rule last_place ≡ true) × (sequence_rule behind_places ≡ false)
unfolding sequence_rule is_whole are_digits value_of value_behind
sequences = (refl, refl)

-- a line at a stop whose id is short
abbrev line : (trip arrival departure sequence : List ℕ) → FieldTexts
line trip arrival departure sequence = record { trip = trip; arrival = arrival; departure = departure; stop = shortest; sequence = sequence }

pub night : (stop_time_of (day_start 1) (line shortest next_night next_night last_place)).arrival ≡ 1510
unfolding stop_time_of time_minutes hours_in tail_in minutes_in value_of value_behind
night = refl

-- a departure at the arrival, and one a minute before it
pub departures : (own_verdict (day_start 1) (line longest behind_day behind_day last_place) ≡ fine)
    × (own_verdict (day_start 1) (line longest behind_day day_end last_place) ≡ fault 12 0)
unfolding own_verdict filled_verdict times_verdict id_rule is_filled time_rule sequence_rule stop_time_of is_time is_whole are_digits time_minutes hours_in tail_in
    minutes_in tail_rule value_of value_behind
departures = (refl, refl)

-- of two faults the first counts: an id too long beside a bad time, a bad time beside a bad sequence; and the sequence alone
pub first_faults : (own_verdict (day_start 1) (line too_long behind_week day_end last_place) ≡ fault 11 1)
    × (own_verdict (day_start 7) (line longest day_end behind_day behind_places) ≡ fault 12 3)
    × (own_verdict (day_start 7) (line longest day_end day_end behind_places) ≡ fault 13 5)
unfolding own_verdict filled_verdict times_verdict id_rule is_filled time_rule sequence_rule stop_time_of is_time is_whole are_digits time_minutes hours_in tail_in
    minutes_in tail_rule value_of value_behind
first_faults = (refl, refl, refl)
