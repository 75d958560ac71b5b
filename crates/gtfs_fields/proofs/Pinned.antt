-- Facts that pin what a field says, on both sides of each line. Assumes nothing.
use Prim.Native.Nat.{ℕ}
use Prim.Native.Char.{code}
use Prim.Native.String.{String, [], ◌∷◌}
use mathlib.Core.List.{List, [], ◌∷◌}
use mathlib.Core.Path.{◌≡◌, refl}
use Rattle.text.specs.Decimal.{value_behind, value_of}
use Rattle.std.specs.Prelude.{Option, Some, None}
use Rattle.gtfs_fields.specs.Whole.{are_digits, is_whole, whole_below}
use Rattle.gtfs_fields.specs.Time.{hours_in, tail_in, minutes_in, tail_rule, is_time, time_minutes, time_within}

-- a field as it is printed
abbrev field : String → List ℕ
field [] = []
field (character ∷ rest) = code character ∷ field rest

abbrev time : String → Option ℕ
time text = time_within 65535 (field text)

abbrev whole : String → Option ℕ
whole text = whole_below 65536 (field text)

-- one digit of hours or more, zeros ahead or none, and past midnight
pub times :
    (time "7:05:00" ≡ Some 425)
    × (time "07:05:00" ≡ Some 425)
    × (time "0:00:00" ≡ Some 0)
    × (time "7:59:00" ≡ Some 479)
    × (time "24:00:00" ≡ Some 1440)
    × (time "25:10:00" ≡ Some 1510)
unfolding time_within is_time is_whole are_digits hours_in tail_in tail_rule minutes_in time_minutes value_of value_behind
times = (refl, refl, refl, refl, refl, refl)

-- minutes are two digits of 00 to 59
pub wrong_minutes :
    (time "7:5:00" ≡ None)
    × (time "7:005:00" ≡ None)
    × (time "7:60:00" ≡ None)
    × (time "7:99:00" ≡ None)
    × (time "7:0a:00" ≡ None)
    × (time "7:/9:00" ≡ None)
    × (time "7:0::00" ≡ None)
unfolding time_within is_time is_whole are_digits hours_in tail_in tail_rule minutes_in time_minutes value_of value_behind
wrong_minutes = (refl, refl, refl, refl, refl, refl, refl)

-- seconds are there, and are 00
pub wrong_seconds :
    (time "7:05" ≡ None)
    × (time "7:05:0" ≡ None)
    × (time "7:05:000" ≡ None)
    × (time "7:05:01" ≡ None)
    × (time "7:05:10" ≡ None)
    × (time "7:05:30" ≡ None)
unfolding time_within is_time is_whole are_digits hours_in tail_in tail_rule minutes_in time_minutes value_of value_behind
wrong_seconds = (refl, refl, refl, refl, refl, refl)

-- a colon stands ahead of the minutes and of the seconds
pub wrong_colons :
    (time "7.05:00" ≡ None)
    × (time "7:05.00" ≡ None)
    × (time "70500" ≡ None)
    × (time "7005000" ≡ None)
unfolding time_within is_time is_whole are_digits hours_in tail_in tail_rule minutes_in time_minutes value_of value_behind
wrong_colons = (refl, refl, refl, refl)

-- hours are digits, one at least, and nothing stands around a time
pub wrong_hours :
    (time "" ≡ None)
    × (time ":05:00" ≡ None)
    × (time "-7:05:00" ≡ None)
    × (time "+7:05:00" ≡ None)
    × (time " 7:05:00" ≡ None)
    × (time "7:05:00 " ≡ None)
    × (time "7::05:00" ≡ None)
unfolding time_within is_time is_whole are_digits hours_in tail_in tail_rule minutes_in time_minutes value_of value_behind
wrong_hours = (refl, refl, refl, refl, refl, refl, refl)

-- hours of thirty digits: zeros but the last, and not
pub thirty_digits :
    (time "000000000000000000000000000007:05:00" ≡ Some 425)
    × (time "100000000000000000000000000007:05:00" ≡ None)
unfolding time_within is_time is_whole are_digits hours_in tail_in tail_rule minutes_in time_minutes value_of value_behind
thirty_digits = (refl, refl)

-- the most is itself allowed, and a minute more is not
pub most :
    (time "1092:15:00" ≡ Some 65535)
    × (time "1092:16:00" ≡ None)
    × (time "1093:00:00" ≡ None)
    × (time_within 1440 (field "24:00:00") ≡ Some 1440)
    × (time_within 1439 (field "24:00:00") ≡ None)
unfolding time_within is_time is_whole are_digits hours_in tail_in tail_rule minutes_in time_minutes value_of value_behind
most = (refl, refl, refl, refl, refl)

-- zeros may stand ahead, and the limit is not reached
pub wholes :
    (whole "0" ≡ Some 0)
    × (whole "007" ≡ Some 7)
    × (whole "65535" ≡ Some 65535)
    × (whole "000000000000000000000000000007" ≡ Some 7)
unfolding whole_below is_whole are_digits value_of value_behind
wholes = (refl, refl, refl, refl)

-- the limit is reached
pub past_the_limit :
    (whole "65536" ≡ None)
    × (whole "65537" ≡ None)
    × (whole "655350" ≡ None)
    × (whole "100000000000000000000000000007" ≡ None)
unfolding whole_below is_whole are_digits value_of value_behind
past_the_limit = (refl, refl, refl, refl)

-- digits, one at least, and nothing else
pub wrong_wholes :
    (whole "" ≡ None)
    × (whole "+1" ≡ None)
    × (whole "-1" ≡ None)
    × (whole "1.0" ≡ None)
    × (whole " 1" ≡ None)
    × (whole "1 " ≡ None)
    × (whole "1a" ≡ None)
    × (whole "/" ≡ None)
    × (whole ":" ≡ None)
unfolding whole_below is_whole are_digits value_of value_behind
wrong_wholes = (refl, refl, refl, refl, refl, refl, refl, refl, refl)
