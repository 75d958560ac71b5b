-- Two rides by their numbers: as they are read, one by one, and as one is written. Assumes nothing.
use mathlib.Core.List.{[], ◌∷◌}
use mathlib.Core.Path.{◌≡◌, refl}
use Rattle.timetable.specs.Timetable.{Timetable}
use Rattle.plan_slice.specs.Slice.{written, rides_in, board_in, leave_in, worth_in, with_ride}

abbrev pub empty : Timetable
empty = record { stops = 2; rows = []; tables = [] }

pub seven_numbers : written (rides_in empty (4 ∷ 6 ∷ 900 ∷ 5 ∷ 5 ∷ 800 ∷ 7 ∷ [])) ≡ 4 ∷ 6 ∷ 900 ∷ 5 ∷ 5 ∷ 800 ∷ []
unfolding written rides_in
seven_numbers = refl

pub second_ride : (board_in (4 ∷ 6 ∷ 900 ∷ 5 ∷ 8 ∷ 800 ∷ []) 1 ≡ 5) × (leave_in (4 ∷ 6 ∷ 900 ∷ 5 ∷ 8 ∷ 800 ∷ []) 1 ≡ 8)
    × (worth_in (4 ∷ 6 ∷ 900 ∷ 5 ∷ 8 ∷ 800 ∷ []) 1 ≡ 800)
second_ride = (refl, refl, refl)

pub ride_written : with_ride (4 ∷ 6 ∷ 900 ∷ 0 ∷ 0 ∷ 0 ∷ 1 ∷ []) 1 5 8 800 ≡ 4 ∷ 6 ∷ 900 ∷ 5 ∷ 8 ∷ 800 ∷ 1 ∷ []
ride_written = refl
