-- Document 01, "Rides, safe journeys, plans", and document 02, E3: a safe plan, any set of rides that keeps these conditions.
use Rattle.std.specs.Prelude.{ℕ, ◌<◌, cond, ◌≢◌, ◌≡◌, T, eqb, ltb}
use mathlib.Core.List.{List, [], ◌∷◌, Memᴰ}
use Rattle.std.proofs.Math.Option.{Option}
use Rattle.timetable.specs.Timetable.{Timetable}
use Rattle.query.specs.declared.Query.{Query}
use Rattle.plans.specs.Rides.{Ride, IsRide, lands_by, ready, boards}
use Rattle.plans.specs.Journeys.{within, ready_at}
use Rattle.plans.specs.Worth.{Valued, valued, first_open}
use Rattle.plans.specs.Chosen.{worth_of}

-- a finite set of rides, as a list in any order
pub record SafePlan (t : Timetable) (q : Query) (bound : ℕ) (rides : List Ride) : Type 0 where
  pub are_rides : (r : Ride) → Memᴰ r rides → IsRide t r
  -- none boards at the target
  pub none_at_target : (r : Ride) → Memᴰ r rides → r.from ≢ q.target
  -- no two board at one stop in one minute
  pub no_two : (r r' : Ride) → Memᴰ r rides → Memᴰ r' rides → r.from ≡ r'.from → r.departs ≡ r'.departs → r ≡ r'
  -- each has a + M within the bound
  pub each_within : (r : Ride) → Memᴰ r rides → T (within bound (lands_by r))
  -- one boards at the source at or after T + g
  pub begins : (r : Ride) × Memᴰ r rides × T (boards r q.source (ready_at q))
  -- after each ride not ending at the target, one boards at its landing stop at or after a + M + g
  pub goes_on :
      (r : Ride) → Memᴰ r rides → r.to ≢ q.target
      → (next : Ride) × Memᴰ next rides × T (boards next r.to (ready q.gate (lands_by r)))

-- by boarding row rising
pub data ByBoardingRow : List Ride → Type 0 where
  no_rides : ByBoardingRow []
  before_all :
      {r : Ride} {rides : List Ride} → ((next : Ride) → Memᴰ next rides → r.board < next.board) → ByBoardingRow rides
      → ByBoardingRow (r ∷ rides)

-- one more ride, at its place; one with its boarding row stands for it
unfoldable pub insert : Ride → List Ride → List Ride
insert r [] = r ∷ []
insert r (x ∷ rides) =
    let later = insert r rides in cond (ltb r.board x.board) (r ∷ x ∷ rides) (cond (eqb r.board x.board) (x ∷ rides) (x ∷ later))

unfoldable pub sorted : List Ride → List Ride
sorted [] = []
sorted (r ∷ rides) = insert r (sorted rides)

-- the rides of a set, by boarding row rising, each with what the set gives
abbrev pub worths_of : Query → List Ride → List Valued
worths_of q rides = valued q.gate q.target (sorted rides)

-- Its expected arrival is that of its first ride from the source at or after T + g
unfoldable pub expected_of : Query → List Ride → Option ℕ
expected_of q rides = worth_of (first_open (worths_of q rides) q.source (ready_at q))
