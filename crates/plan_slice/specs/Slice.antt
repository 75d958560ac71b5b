-- Document 01, "Expected arrival in ticks": the plan in a lent slice of u32, three a ride, by boarding row rising.
use Rattle.std.specs.Prelude.{ℕ, ◌+◌, ◌*◌, ◌≤◌, ◌<◌, List, [], ◌∷◌, length, get_or, set}
use Rattle.timetable.specs.Timetable.{Timetable}
use Rattle.plans.specs.Rides.{ride_of}
use Rattle.plans.specs.Worth.{Valued}

-- three numbers a ride: boarding row, leaving row, worth
unfoldable pub written : List Valued → List ℕ
written [] = []
written (v ∷ rides) = v.ride.board ∷ v.ride.leave ∷ v.worth ∷ written rides

-- the rides that such numbers name, timed by the rows where they board and leave; fewer than three numbers name none
unfoldable pub rides_in : Timetable → List ℕ → List Valued
rides_in t [] = []
rides_in t (board ∷ []) = []
rides_in t (board ∷ leave ∷ []) = []
rides_in t (board ∷ leave ∷ worth ∷ rest) = record { ride = ride_of t board leave; worth = worth } ∷ rides_in t rest

-- ride number i
abbrev pub board_in : List ℕ → ℕ → ℕ
board_in plan i = get_or plan (3 * i) 0

abbrev pub leave_in : List ℕ → ℕ → ℕ
leave_in plan i = get_or plan (3 * i + 1) 0

abbrev pub worth_in : List ℕ → ℕ → ℕ
worth_in plan i = get_or plan (3 * i + 2) 0

-- the slice with these three numbers as ride number i
abbrev pub with_ride : List ℕ → (i board leave worth : ℕ) → List ℕ
with_ride plan i board leave worth = set (set (set plan (3 * i) board) (3 * i + 1) leave) (3 * i + 2) worth

-- the first `rides` rides stand in the slice, and board and leave at rows that there are
pub record RidesFit (rows : ℕ) (plan : List ℕ) (rides : ℕ) : Type 0 where
  pub room : 3 * rides ≤ length plan
  pub boards : (i : ℕ) → i < rides → board_in plan i < rows
  pub leaves : (i : ℕ) → i < rides → leave_in plan i < rows
