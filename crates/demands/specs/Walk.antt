-- Demand 3, with document 02's gate: the passenger's walk through a plan, one landing at a time, under one choice of delays.
use Rattle.std.specs.Prelude.{ℕ, zero, suc, ◌+◌, ◌*◌, ◌<◌, max, cond, List, [], ◌∷◌, ◌++◌, map, ◌≢◌, ◌≡◌, eqb, get_or, length}
use Rattle.std.proofs.Math.Option.{Option, none, some}
use Rattle.timetable.specs.Classes.{sum}
use Rattle.query.specs.declared.Query.{Query}
use Rattle.plans.specs.Rides.{Ride, ready, boards}
use Rattle.timetable.specs.Ticks.{ticks_a_minute}

-- a ride with the delay that it is given
pub record Sailed : Type 0 where
  pub ride : Ride
  pub delay : ℕ

-- where the passenger stands, since when, and after how many rides
pub record Standing : Type 0 where
  pub stop : ℕ
  pub minute : ℕ
  pub boarded : ℕ

-- the plan's first ride leaving that stop no earlier than the passenger is ready
unfoldable pub first_sailed : List Sailed → ℕ → ℕ → Option Sailed
first_sailed [] stop minute = none
first_sailed (s ∷ sailed) stop minute =
    let later = first_sailed sailed stop minute in cond (boards s.ride stop minute) (some s) later

unfoldable pub landed : Standing → Option Sailed → Standing
landed at none = at
landed at (some s) = record { stop = s.ride.to; minute = s.ride.arrives + s.delay; boarded = suc at.boarded }

-- at the target the walk is over; elsewhere the passenger boards and lands
unfoldable pub step : (gate target : ℕ) → List Sailed → Standing → Standing
step gate target sailed at =
    cond (eqb at.stop target) at (landed at (first_sailed sailed at.stop (ready gate at.minute)))

unfoldable pub steps : (gate target : ℕ) → List Sailed → ℕ → Standing → Standing
steps gate target sailed zero at = at
steps gate target sailed (suc k) at = steps gate target sailed k (step gate target sailed at)

abbrev pub start : Query → Standing
start q = record { stop = q.source; minute = q.minute; boarded = 0 }

-- as many landings as the plan has rides
unfoldable pub walked : Query → List Sailed → Standing
walked q sailed = steps q.gate q.target sailed (length sailed) (start q)

-- the passenger who stands there boards this ride: after some landings, short of the target, it is the first that can be boarded
pub record Boards (gate target : ℕ) (sailed : List Sailed) (at : Standing) (r : Ride) : Type 0 where
  pub landings : ℕ
  pub delay : ℕ
  pub short : (steps gate target sailed landings at).stop ≢ target
  pub first :
      first_sailed sailed (steps gate target sailed landings at).stop (ready gate (steps gate target sailed landings at).minute)
      ≡ some (record { ride = r; delay = delay })

-- the rides of a plan, each with one delay from 0 to its M
pub data Delayed : List Ride → List Sailed → Type 0 where
  undelayed : Delayed [] []
  delay_first :
      {r : Ride} {s : Sailed} {rides : List Ride} {sailed : List Sailed} → s.ride ≡ r → s.delay < length r.shares
      → Delayed rides sailed → Delayed (r ∷ rides) (s ∷ sailed)

-- one ride with each of its delays from v on, before each way to go on
unfoldable pub with_delays : Ride → ℕ → List ℕ → List (List Sailed) → List (List Sailed)
with_delays r v [] rest = []
with_delays r v (p ∷ shares) rest =
    map (λ sailed. record { ride = r; delay = v } ∷ sailed) rest ++ with_delays r (suc v) shares rest

-- all choices: each ride is given one delay from 0 to its M
unfoldable pub choices : List Ride → List (List Sailed)
choices [] = [] ∷ []
choices (r ∷ rides) = with_delays r 0 r.shares (choices rides)

-- the weight of a choice is the product of the shares
unfoldable pub weight : List Sailed → ℕ
weight [] = 1
weight (s ∷ sailed) = get_or s.ride.shares s.delay 0 * weight sailed

-- A: the sum, over all choices, of weight × 256 × the minute at which the passenger then reaches the target
unfoldable pub weighted_arrivals : Query → List Ride → ℕ
weighted_arrivals q rides = sum (map (λ sailed. weight sailed * (ticks_a_minute * (walked q sailed).minute)) (choices rides))

unfoldable pub largest : List ℕ → ℕ
largest [] = 0
largest (x ∷ xs) = max x (largest xs)

-- L: the most rides boarded under any choice
unfoldable pub longest_way : Query → List Ride → ℕ
longest_way q rides = largest (map (λ sailed. (walked q sailed).boarded) (choices rides))
