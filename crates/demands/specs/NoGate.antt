-- Document 01's own words that document 02's gate time changes, as they stood: what each must say with gate time 0.
use Rattle.std.specs.Prelude.{cond, List, ◌≡◌, eqb}
use Rattle.query.specs.declared.Query.{Query}
use Rattle.query.specs.Query.{with_gate}
use Rattle.plans.specs.Rides.{Ride, lands_by, ready, boards}
use Rattle.plans.specs.Journeys.{ready_at}
use Rattle.plans.specs.Worth.{first_open}
use Rattle.plans.specs.Chosen.{worth_of}
use Rattle.demands.specs.SafePlan.{worths_of, expected_of}
use Rattle.demands.specs.Walk.{Sailed, Standing, first_sailed, landed, step}

pub record DemandsAsBefore : Type 0 where
  -- one boards at the source at or after T
  pub begins : (q : Query) (r : Ride) → boards r q.source (ready_at (with_gate 0 q)) ≡ boards r q.source q.minute
  -- one boards at its landing stop at or after a + M
  pub safe : (r next : Ride) → boards next r.to (ready 0 (lands_by r)) ≡ boards next r.to (lands_by r)
  -- from a
  pub window : (r next : Ride) → boards next r.to (ready 0 r.arrives) ≡ boards next r.to r.arrives
  -- that of its first ride from the source at or after T
  pub expected :
      (q : Query) (rides : List Ride)
      → expected_of (with_gate 0 q) rides ≡ worth_of (first_open (worths_of (with_gate 0 q) rides) q.source q.minute)
  -- the plan's first ride leaving that stop no earlier
  pub walk :
      (q : Query) (sailed : List Sailed) (at : Standing)
      → step 0 q.target sailed at ≡ cond (eqb at.stop q.target) at (landed at (first_sailed sailed at.stop at.minute))
