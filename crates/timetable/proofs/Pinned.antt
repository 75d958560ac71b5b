-- Document 01's rules of rows and shares, at both sides of each line. Each statement holds by computing. Assumes nothing.
use Prim.Native.Nat.{ℕ}
use mathlib.Core.Bool.{true, false}
use mathlib.Core.List.{[], ◌∷◌}
use mathlib.Core.Option.{none, some}
use mathlib.Core.Path.{◌≡◌, refl}
use Rattle.timetable.specs.declared.Row.{Row}
use Rattle.timetable.specs.declared.Ranges.{Ranges}
use Rattle.timetable.specs.Timetable.{row_of, shares_of, maximum_delay, no_row}
use Rattle.timetable.specs.Verdict.{fine, fault}
use Rattle.timetable.specs.Classes.{sum, last_share, shares_rule}
use Rattle.timetable.specs.Ticks.{ticks_a_minute, quotient_up}
use Rattle.timetable.specs.Rows.{own_rule, departure_rule, last_of_trip, follows, trip_rule, row_verdict, rows_verdict}

-- a row by its six numbers, in the file's order
abbrev pub row : (board land departure arrival trip class : ℕ) → Row
row b l d a t c = record { board = b; land = l; departure = d; arrival = a; trip = t; class = c }

-- three stops, two classes, and a last minute of 720: which one a file has is its version's to say
abbrev pub ranges : Ranges
ranges = record { stops = 3; classes = 2; lastminute = 720 }

-- Stops are below S
pub stops_below : (own_rule ranges (row 2 0 600 630 0 1) ≡ true) × (own_rule ranges (row 3 0 600 630 0 1) ≡ false)
    × (own_rule ranges (row 0 2 600 630 0 1) ≡ true) × (own_rule ranges (row 0 3 600 630 0 1) ≡ false)
unfolding own_rule
stops_below = (refl, refl, refl, refl)

-- and differ
pub stops_differ : own_rule ranges (row 1 1 600 630 0 1) ≡ false
unfolding own_rule
stops_differ = refl

-- departure is less than arrival
pub departure_less : (own_rule ranges (row 0 1 629 630 0 1) ≡ true) × (own_rule ranges (row 0 1 630 630 0 1) ≡ false)
    × (own_rule ranges (row 0 1 631 630 0 1) ≡ false)
unfolding own_rule
departure_less = (refl, refl, refl)

-- minutes in rows are 0 to the last
pub minutes_to_the_last : (own_rule ranges (row 0 1 0 720 0 1) ≡ true) × (own_rule ranges (row 0 1 0 721 0 1) ≡ false)
    × (own_rule ranges (row 0 1 719 720 0 1) ≡ true) × (own_rule ranges (row 0 1 720 721 0 1) ≡ false)
unfolding own_rule
minutes_to_the_last = (refl, refl, refl, refl)

-- trip is below 2,000
pub trip_below : (own_rule ranges (row 0 1 600 630 1999 1) ≡ true) × (own_rule ranges (row 0 1 600 630 2000 1) ≡ false)
unfolding own_rule
trip_below = (refl, refl)

-- class is below K
pub class_below : (own_rule ranges (row 0 1 600 630 0 1) ≡ true) × (own_rule ranges (row 0 1 600 630 0 2) ≡ false)
unfolding own_rule
class_below = (refl, refl)

-- Departures never fall from row to row: only the row just behind counts
pub departures_never_fall : (departure_rule [] (row 0 1 600 630 0 1) ≡ true)
    × (departure_rule (row 0 1 600 700 5 1 ∷ []) (row 0 1 600 630 0 1) ≡ true)
    × (departure_rule (row 0 1 601 700 5 1 ∷ []) (row 0 1 600 630 0 1) ≡ false)
    × (departure_rule (row 0 1 600 700 5 1 ∷ row 0 1 601 700 5 1 ∷ []) (row 0 1 600 630 0 1) ≡ true)
unfolding departure_rule
departures_never_fall = (refl, refl, refl, refl)

-- The nearest earlier row of the same trip, found by looking back and stopping at the first
pub looking_back_stops : (last_of_trip 7 [] ≡ none) × (last_of_trip 7 (row 0 1 600 630 6 1 ∷ []) ≡ none)
    × (last_of_trip 7 (row 0 1 600 630 7 1 ∷ row 1 2 500 530 7 1 ∷ []) ≡ some (row 0 1 600 630 7 1))
    × (last_of_trip 7 (row 0 1 600 630 6 1 ∷ row 1 2 500 530 7 1 ∷ []) ≡ some (row 1 2 500 530 7 1))
unfolding last_of_trip
looking_back_stops = (refl, refl, refl, refl)

-- it must land at this row's boarding stop, and a further row of the trip does not count
pub trip_joins : (trip_rule (row 0 1 600 630 7 1 ∷ row 1 0 500 530 7 1 ∷ []) (row 1 2 640 660 7 1) ≡ true)
    × (trip_rule (row 1 0 600 630 7 1 ∷ row 0 1 500 530 7 1 ∷ []) (row 1 2 640 660 7 1) ≡ false)
    × (trip_rule (row 1 0 600 630 6 1 ∷ []) (row 1 2 640 660 7 1) ≡ true)
unfolding trip_rule follows last_of_trip
trip_joins = (refl, refl, refl)

-- no later than its departure: an equal minute is allowed
pub trip_in_time : (trip_rule (row 0 1 600 640 7 1 ∷ []) (row 1 2 640 660 7 1) ≡ true)
    × (trip_rule (row 0 1 600 641 7 1 ∷ []) (row 1 2 640 660 7 1) ≡ false)
unfolding trip_rule follows last_of_trip
trip_in_time = (refl, refl)

-- a row's verdict names its own place: 4 before 5, and 5 for departures as for the trip
pub own_rule_first : (row_verdict ranges (row 0 1 601 700 5 1 ∷ []) 9 (row 0 0 600 630 0 1) ≡ fault 4 9)
    × (row_verdict ranges (row 0 1 601 700 5 1 ∷ []) 9 (row 0 1 600 630 0 1) ≡ fault 5 9)
    × (row_verdict ranges (row 0 1 600 641 7 1 ∷ []) 9 (row 1 2 640 660 7 1) ≡ fault 5 9)
    × (row_verdict ranges (row 0 1 600 640 7 1 ∷ []) 9 (row 1 2 640 660 7 1) ≡ fine)
unfolding row_verdict own_rule departure_rule trip_rule follows last_of_trip
own_rule_first = (refl, refl, refl, refl)

-- row by row: both tests of a row come before the next row
pub row_by_row : (rows_verdict ranges [] 0 (row 0 1 600 640 7 1 ∷ row 1 2 640 660 7 0 ∷ row 2 0 640 641 3 1 ∷ []) ≡ fine)
    × (rows_verdict ranges [] 0 (row 0 1 600 640 7 1 ∷ row 1 2 599 660 8 0 ∷ row 2 2 640 641 3 1 ∷ []) ≡ fault 5 1)
    × (rows_verdict ranges [] 0 (row 0 1 600 640 7 1 ∷ row 1 2 640 640 7 0 ∷ row 2 0 639 641 3 1 ∷ []) ≡ fault 4 1)
    × (rows_verdict ranges [] 0 (row 0 1 600 640 7 1 ∷ row 2 0 640 641 3 1 ∷ row 0 2 641 660 7 0 ∷ []) ≡ fault 5 2)
    × (rows_verdict ranges [] 0 [] ≡ fine)
unfolding rows_verdict row_verdict own_rule departure_rule trip_rule follows last_of_trip
row_by_row = (refl, refl, refl, refl, refl)

-- Shares sum to 4,096
pub shares_sum : (shares_rule (4094 ∷ 1 ∷ []) ≡ false) × (shares_rule (4095 ∷ 1 ∷ []) ≡ true) × (shares_rule (4096 ∷ 1 ∷ []) ≡ false)
unfolding shares_rule sum
shares_sum = (refl, refl, refl)

-- The last is at least 1; others may be 0
pub last_share_counts : (shares_rule (4096 ∷ 0 ∷ []) ≡ false) × (shares_rule (0 ∷ 0 ∷ 4096 ∷ []) ≡ true) × (shares_rule (4096 ∷ []) ≡ true)
    × (last_share (7 ∷ 8 ∷ 9 ∷ []) ≡ 9) × (sum (7 ∷ 8 ∷ 9 ∷ []) ≡ 24)
unfolding shares_rule sum
last_share_counts = (refl, refl, refl, refl, refl)

-- places and classes count from 0, and a class has M + 1 shares
pub places_from_zero : (row_of (row 0 1 600 640 7 1 ∷ row 1 2 640 660 7 0 ∷ []) 1 ≡ row 1 2 640 660 7 0)
    × (row_of [] 0 ≡ no_row) × (shares_of ((4096 ∷ []) ∷ (2048 ∷ 2048 ∷ []) ∷ []) 1 ≡ 2048 ∷ 2048 ∷ [])
    × (maximum_delay (2048 ∷ 1024 ∷ 1024 ∷ []) ≡ 2)
places_from_zero = (refl, refl, refl, refl)

-- A tick is 1/256 minute; a quotient with a rest is rounded up, one without is not
pub a_tick : ticks_a_minute ≡ 256
a_tick = refl

pub quotients_up : quotient_up 16 0 ∷ quotient_up 16 1 ∷ quotient_up 16 16 ∷ quotient_up 16 17 ∷ [] ≡ 0 ∷ 1 ∷ 1 ∷ 2 ∷ []
quotients_up = refl
