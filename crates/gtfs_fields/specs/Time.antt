-- Document 02, E2: times: hours of one digit or more, a colon, two digits of minutes, a colon, two digits of seconds.
use Rattle.std.specs.Prelude.{ℕ, ◌+◌, ◌*◌, ◌-◌, Bool, cond, ◌&&◌, List, leb, ltb, eqb, length, take, drop, get_or}
use Rattle.text.specs.Decimal.{digit_of, digit_in, value_of}
use Rattle.std.specs.Prelude.{Option, Some, None}
use Rattle.gtfs_fields.specs.Whole.{is_digit, is_whole}

abbrev pub colon : ℕ
colon = 58

abbrev pub minutes_an_hour : ℕ
minutes_an_hour = 60

-- minutes and seconds, with the colon ahead of each, are a time's last six bytes
abbrev pub tail_bytes : ℕ
tail_bytes = 6

-- what stands ahead of them is the hours
unfoldable pub hours_in : List ℕ → List ℕ
hours_in field = take (length field - tail_bytes) field

unfoldable pub tail_in : List ℕ → List ℕ
tail_in field = drop (length field - tail_bytes) field

-- the number of the two digits behind the first colon
unfoldable pub minutes_in : List ℕ → ℕ
minutes_in tail = 10 * digit_in (get_or tail 1 0) + digit_in (get_or tail 2 0)

-- colon, two digits of 00 to 59, colon, 00
unfoldable pub tail_rule : List ℕ → Bool
tail_rule tail =
    eqb (get_or tail 0 0) colon && is_digit (get_or tail 1 0) && is_digit (get_or tail 2 0) && ltb (minutes_in tail) minutes_an_hour
    && eqb (get_or tail 3 0) colon && eqb (get_or tail 4 0) (digit_of 0) && eqb (get_or tail 5 0) (digit_of 0)

-- what a time's last six bytes say by themselves
unfoldable pub tail_minutes : List ℕ → Option ℕ
tail_minutes tail = cond (tail_rule tail) (Some (minutes_in tail)) None

-- well formed, and seconds 00
unfoldable pub is_time : List ℕ → Bool
is_time field = is_whole (hours_in field) && tail_rule (tail_in field)

-- minutes from the service day's start
unfoldable pub time_minutes : List ℕ → ℕ
time_minutes field = minutes_an_hour * value_of (hours_in field) + minutes_in (tail_in field)

-- a time of at most so many minutes
unfoldable pub time_within : ℕ → List ℕ → Option ℕ
time_within most field = cond (is_time field && leb (time_minutes field) most) (Some (time_minutes field)) None
