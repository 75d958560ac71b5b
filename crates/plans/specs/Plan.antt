-- Document 01, "Expected arrival in ticks", and document 02, E3: the plan, its ride count, expected ticks, latest minute and bound.
use Rattle.std.specs.Prelude.{ℕ, max, Bool, false, cond, ◌&&◌, ◌||◌, List, [], ◌∷◌, ◌++◌, leb, eqb}
use Rattle.std.proofs.Math.Option.{Option, none, some}
use Rattle.timetable.specs.Timetable.{Timetable}
use Rattle.query.specs.declared.Query.{Query}
use Rattle.plans.specs.declared.Goal.{Goal}
use Rattle.plans.specs.Rides.{Ride, lands_by, ready, boards}
use Rattle.plans.specs.Journeys.{bound_of, goal_of, ready_at}
use Rattle.plans.specs.Worth.{Valued, first_open}
use Rattle.plans.specs.Chosen.{scanned, in_ticks, in_minutes, worth_of}

-- the earliest safe arrival E, none if there is no safe journey
unfoldable pub earliest : Timetable → Query → Option ℕ
earliest t q = worth_of (first_open (scanned (in_minutes q.gate q.target) t).chosen q.source (ready_at q))

-- the chosen rows, each with its ride and worth, by boarding row rising
unfoldable pub chosen_for : Timetable → Goal → List Valued
chosen_for t goal = (scanned (in_ticks goal) t).chosen

-- the rides that one who is ready at `stop` can catch from `minute` on, up to and including the one that departs at `until`
pub record Window : Type 0 where
  pub stop : ℕ
  pub minute : ℕ
  pub until : ℕ

unfoldable pub in_window : Window → Ride → Bool
in_window w r = boards r w.stop w.minute && leb r.departs w.until

unfoldable pub wanted : List Window → Ride → Bool
wanted [] r = false
wanted (w ∷ ws) r = in_window w r || wanted ws r

unfoldable pub up_to : ℕ → ℕ → Option Valued → List Window
up_to stop minute none = []
up_to stop minute (some v) = record { stop = stop; minute = minute; until = v.ride.departs } ∷ []

-- for each ride in it not ending at the target, from a + g up to and including the first chosen row at or after a + M + g
unfoldable pub windows_of : (gate target : ℕ) → Ride → List Valued → List Window
windows_of gate target r behind =
    cond (eqb r.to target) [] (up_to r.to (ready gate r.arrives) (first_open behind r.to (ready gate (lands_by r))))

unfoldable pub extract : (gate target : ℕ) → List Window → List Valued → List Valued
extract gate target ws [] = []
extract gate target ws (v ∷ vs) =
    let taken = v ∷ extract gate target (windows_of gate target v.ride vs ++ ws) vs in
    let passed = extract gate target ws vs in
    cond (wanted ws v.ride) taken passed

-- the first chosen row at the source at or after T + g, then what it leads to. Nothing else
unfoldable pub rides_from : Query → List Valued → List Valued
rides_from q chosen =
    extract q.gate q.target (up_to q.source (ready_at q) (first_open chosen q.source (ready_at q))) chosen

-- the largest a + M of its rides
unfoldable pub latest_of : List Valued → ℕ
latest_of [] = 0
latest_of (v ∷ vs) = max (lands_by v.ride) (latest_of vs)

pub record Plan : Type 0 where
  pub rides : List Valued
  pub expected : ℕ
  pub latest : ℕ
  pub bound : ℕ

unfoldable pub plan_within : Timetable → Query → ℕ → Option Valued → Option Plan
plan_within t q bound none = none
plan_within t q bound (some first) =
    let rides = rides_from q (chosen_for t (goal_of q bound)) in
    some (record { rides = rides; expected = first.worth; latest = latest_of rides; bound = bound })

unfoldable pub plan_before : Timetable → Query → Option ℕ → Option Plan
plan_before t q none = none
plan_before t q (some e) =
    let bound = bound_of q e in
    plan_within t q bound (first_open (chosen_for t (goal_of q bound)) q.source (ready_at q))

-- the minimum expected arrival plan, none if there is no safe journey
unfoldable pub planned : Timetable → Query → Option Plan
planned t q = plan_before t q (earliest t q)
