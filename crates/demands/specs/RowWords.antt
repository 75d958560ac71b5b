-- Document 01's own words, with document 02's gate, for a row's worth and for where its ride leaves, beside the forms that compute.
use Rattle.std.specs.Prelude.{ℕ, ◌≤◌, ◌≢◌, ◌≡◌, T}
use mathlib.Core.List.{Memᴰ}
use Rattle.timetable.specs.Timetable.{Timetable, row_of}
use Rattle.plans.specs.declared.Goal.{Goal}
use Rattle.plans.specs.Trips.{NextOfTrip}
use Rattle.plans.specs.Rides.{ride_of, lands_by, ready, boards}
use Rattle.plans.specs.Journeys.{within}
use Rattle.plans.specs.Worth.{Valued, arrival_worth, change_worth}
use Rattle.plans.specs.Plan.{chosen_for}
use Rattle.demands.specs.Words.{HasWorth}

-- getting off (at the target only if a + M is within the bound; elsewhere only if a chosen row departs at or after a + M + g) and staying on
-- to the trip's next row, each with what it is worth
pub data OpenWay (t : Timetable) (goal : Goal) (i : ℕ) : ℕ → Type 0 where
  off_at_target : (ride_of t i i).to ≡ goal.target → T (within goal.bound (lands_by (ride_of t i i))) → OpenWay t goal i (arrival_worth (ride_of t i i))
  off_elsewhere :
      {safe : Valued} → (ride_of t i i).to ≢ goal.target → Memᴰ safe (chosen_for t goal)
      → T (boards safe.ride (ride_of t i i).to (ready goal.gate (lands_by (ride_of t i i))))
      → OpenWay t goal i (change_worth goal.gate (ride_of t i i) (chosen_for t goal))
  staying_on : {next worth : ℕ} → NextOfTrip t i next → HasWorth t goal next worth → OpenWay t goal i worth

-- A row's worth is the least over getting off and staying on to the trip's next row
pub record LeastWay (t : Timetable) (goal : Goal) (i worth : ℕ) : Type 0 where
  pub reached : OpenWay t goal i worth
  pub least : (other : ℕ) → OpenWay t goal i other → worth ≤ other

-- The ride from a chosen row stays aboard while the next row's worth equals the boarded row's
pub record StaysAboard (t : Timetable) (goal : Goal) (v : Valued) : Type 0 where
  pub while_equal :
      (j : ℕ) → v.ride.board ≤ j → j ≤ v.ride.leave → (row_of t.rows j).trip ≡ (row_of t.rows v.ride.board).trip
      → HasWorth t goal j v.worth
  pub not_longer : (next : ℕ) → NextOfTrip t v.ride.leave next → HasWorth t goal next v.worth → ⊥
