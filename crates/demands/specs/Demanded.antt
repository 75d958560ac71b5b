-- Demands 2 and 3 in one record, with document 02's margin and gate: what must be true of a plan's rides, with its expected ticks, latest minute and
-- bound.
use Rattle.std.specs.Prelude.{ℕ, ◌+◌, ◌-◌, ◌*◌, ◌≤◌, ◌<◌, true, ◌↔◌, ◌≡◌}
use mathlib.Core.List.{List, ◌∷◌, Memᴰ}
use Rattle.std.proofs.Math.Option.{some}
use Rattle.timetable.specs.Timetable.{Timetable}
use Rattle.query.specs.declared.Query.{Query}
use Rattle.query.specs.Query.{least_margin}
use Rattle.plans.specs.Rides.{Ride, lands_by, boards}
use Rattle.plans.specs.Journeys.{IsEarliest, bound_of, goal_of, ready_at}
use Rattle.plans.specs.Worth.{Valued, valued, rides_of}
use Rattle.plans.specs.Plan.{chosen_for}
use Rattle.demands.specs.SafePlan.{SafePlan, ByBoardingRow, sorted, expected_of}
use Rattle.demands.specs.Words.{InPlan}
use Rattle.demands.specs.Walk.{Sailed, start, choices, longest_way, Boards}
use Rattle.demands.specs.Passenger.{Carries}

pub record Demanded (t : Timetable) (q : Query) (rides : List Valued) (expected latest bound : ℕ) : Type 0 where
  -- the bound is that of E, the least a + M of a safe journey's last ride
  pub bounded : (e : ℕ) × IsEarliest t q e × (bound ≡ bound_of q e)
  -- a safe plan within the bound, by boarding row rising, with the worths that its own rides give
  pub safe : SafePlan t q bound (rides_of rides)
  pub by_boarding_row : ByBoardingRow (rides_of rides)
  pub own_worths : valued q.gate q.target (rides_of rides) ≡ rides
  -- the rides of the extraction rule over the chosen rows, and nothing else
  pub its_rides : (v : Valued) → Memᴰ v rides ↔ InPlan q (chosen_for t (goal_of q bound)) v
  -- the first of its rides is the one to begin with: it boards at the source, at or after T + g, and its worth is the expected arrival
  pub begins :
      (v : Valued) × (rest : List Valued) × (rides ≡ v ∷ rest) × (boards v.ride q.source (ready_at q) ≡ true) × (v.worth ≡ expected)
  -- the latest minute is the largest a + M of its rides
  pub latest_minute :
      ((v : Valued) → Memᴰ v rides → lands_by v.ride ≤ latest) × ((v : Valued) × Memᴰ v rides × (lands_by v.ride ≡ latest))
  -- of two rides from one stop the earlier gains at least the margin
  pub gains :
      (v u : Valued) → Memᴰ v rides → Memᴰ u rides → v.ride.from ≡ u.ride.from → v.ride.departs < u.ride.departs
      → v.worth + q.margin ≤ u.worth
  -- the expected arrival is its own; against any safe plan within the same bound it loses less than the margin a ride, along that plan's
  -- longest way
  pub expects : expected_of q (rides_of rides) ≡ some expected
  pub loss :
      (others : List Ride) → SafePlan t q bound others → (x : ℕ) → expected_of q others ≡ some x
      → expected ≤ x + (q.margin - 1) * longest_way q (sorted others)
  -- so with margin 1 no other safe plan within the same bound has a smaller one
  pub minimum :
      q.margin ≡ least_margin → (others : List Ride) → SafePlan t q bound others → (x : ℕ) → expected_of q others ≡ some x → expected ≤ x
  -- it carries every passenger by the latest minute, whatever delays up to their maximum its rides have
  pub carries : Carries q (rides_of rides) latest expected
  -- and every ride is boarded under some such delays
  pub every_ride_boarded :
      (v : Valued) → Memᴰ v rides
      → (sailed : List Sailed) × Memᴰ sailed (choices (rides_of rides)) × Boards q.gate q.target sailed (start q) v.ride
