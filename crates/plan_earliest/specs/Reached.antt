-- Document 01, "Rides, safe journeys, plans": the stops that one who sets out can safely be at, and from which minute on.
use Rattle.std.specs.Prelude.{ℕ, ◌≤◌}
use Rattle.timetable.specs.Timetable.{Timetable}
use Rattle.plans.specs.Rides.{Ride, IsRide, lands_by, ready}

-- at the source from the query's minute on; and at the end of each ride that can be boarded, from its a + M on
pub data Reached (t : Timetable) (gate source minute : ℕ) : ℕ → ℕ → Type 0 where
  sets_out : Reached t gate source minute source minute
  rides :
      {r : Ride} {m : ℕ} → Reached t gate source minute r.from m → ready gate m ≤ r.departs → IsRide t r
      → Reached t gate source minute r.to (lands_by r)
