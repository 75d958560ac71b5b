-- Document 01's own words for chosen rows and the plan's rides, with document 02's gate, beside the forms that compute.
use Rattle.std.specs.Prelude.{ℕ, ◌<◌, ◌≤◌, ◌≢◌, ◌≡◌, T, get_or}
use mathlib.Core.List.{List, Memᴰ}
use Rattle.std.proofs.Math.Option.{Option, none, some}
use Rattle.timetable.specs.Timetable.{Timetable, row_of}
use Rattle.query.specs.declared.Query.{Query}
use Rattle.plans.specs.declared.Goal.{Goal}
use Rattle.plans.specs.Rides.{lands_by, ready, boards}
use Rattle.plans.specs.Journeys.{ready_at}
use Rattle.plans.specs.Worth.{Valued, first_open}
use Rattle.plans.specs.Chosen.{in_ticks, scanned, worth_of}

-- the best ride of row i, none if the row has no worth
unfoldable pub best_ride : Timetable → Goal → (i : ℕ) → Option Valued
best_ride t goal i = (get_or (scanned (in_ticks goal) t).weighed i (record { trip = 0; best = none })).best

-- Row i has this worth
abbrev pub HasWorth : Timetable → Goal → (i worth : ℕ) → Type 0
HasWorth t goal i worth = worth_of (best_ride t goal i) ≡ some worth

-- With margin 1 a row is chosen if it has a worth below that of every later-minute row at its stop, and in its own minute the least worth, the highest row
-- number deciding among equals. No row boarding at the target is chosen
pub record Chosen (t : Timetable) (goal : Goal) (i : ℕ) : Type 0 where
  pub worth : ℕ
  pub has_worth : HasWorth t goal i worth
  pub not_at_target : (row_of t.rows i).board ≢ goal.target
  pub below_later :
      (j other : ℕ) → HasWorth t goal j other → (row_of t.rows j).board ≡ (row_of t.rows i).board
      → (row_of t.rows i).departure < (row_of t.rows j).departure → worth < other
  pub least_of_minute :
      (j other : ℕ) → HasWorth t goal j other → (row_of t.rows j).board ≡ (row_of t.rows i).board
      → (row_of t.rows j).departure ≡ (row_of t.rows i).departure → (worth ≤ other) × (worth ≡ other → j ≤ i)

-- The plan holds the ride of the first chosen row at the source at or after T + g; and, for each ride in it not ending at the target, those of
-- the chosen rows at its landing stop from a + g up to and including the first at or after a + M + g. Nothing else
pub data InPlan (q : Query) (chosen : List Valued) : Valued → Type 0 where
  first : {v : Valued} → first_open chosen q.source (ready_at q) ≡ some v → InPlan q chosen v
  next :
      {u v safe : Valued} → InPlan q chosen u → u.ride.to ≢ q.target
      → first_open chosen u.ride.to (ready q.gate (lands_by u.ride)) ≡ some safe → Memᴰ v chosen
      → T (boards v.ride u.ride.to (ready q.gate u.ride.arrives)) → v.ride.departs ≤ safe.ride.departs
      → InPlan q chosen v
