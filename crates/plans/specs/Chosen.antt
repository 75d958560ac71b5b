-- Document 01, "Expected arrival in ticks", and document 02, E1 and E3: a row's worth, and which rows are chosen, from the last row to the first.
use Rattle.std.specs.Prelude.{ℕ, suc, ◌+◌, Bool, true, cond, not, ◌&&◌, List, [], ◌∷◌, eqb, leb, ltb}
use Rattle.std.proofs.Math.Option.{Option, none, some}
use Rattle.timetable.specs.Timetable.{Timetable, shares_of}
use Rattle.timetable.specs.declared.Row.{Row}
use Rattle.query.specs.Query.{least_margin}
use Rattle.plans.specs.declared.Goal.{Goal}
use Rattle.plans.specs.Rides.{Ride, lands_by, ready}
use Rattle.plans.specs.Journeys.{within}
use Rattle.plans.specs.Worth.{Valued, first_open, arrival_worth, change_worth}

-- what getting off is worth, given the chosen rides behind; none where it is not open
abbrev pub GettingOff : Type 0
GettingOff = Ride → List Valued → Option ℕ

unfoldable pub when_safe : Option Valued → ℕ → Option ℕ
when_safe none worth = none
when_safe (some v) worth = some worth

-- at the target only if a + M is within the bound; elsewhere only if a chosen row departs at or after a + M + g
unfoldable pub off_in_ticks : Goal → GettingOff
off_in_ticks goal r behind =
    cond (eqb r.to goal.target) (cond (within goal.bound (lands_by r)) (some (arrival_worth r)) none)
    (when_safe (first_open behind r.to (ready goal.gate (lands_by r))) (change_worth goal.gate r behind))

unfoldable pub worth_of : Option Valued → Option ℕ
worth_of none = none
worth_of (some v) = some v.worth

-- the same recursion for the earliest safe arrival: a + M at the target, elsewhere that of the first ride at or after a + M + g
unfoldable pub off_in_minutes : (gate target : ℕ) → GettingOff
off_in_minutes gate target r behind =
    cond (eqb r.to target) (some (lands_by r)) (worth_of (first_open behind r.to (ready gate (lands_by r))))

-- what a scan aims at: what getting off is worth, the stop where no row is chosen, and the margin between chosen rows
pub record Aim : Type 0 where
  pub off : GettingOff
  pub target : ℕ
  pub margin : ℕ

abbrev pub in_ticks : Goal → Aim
in_ticks goal = record { off = off_in_ticks goal; target = goal.target; margin = goal.margin }

-- a query's margin does not touch the earliest safe arrival
abbrev pub in_minutes : (gate target : ℕ) → Aim
in_minutes gate target = record { off = off_in_minutes gate target; target = target; margin = least_margin }

-- the ride of one row, and a later ride of the trip boarded at this row already
abbrev pub row_ride : List (List ℕ) → ℕ → Row → Ride
row_ride tables i r =
    record {
      board = i;
      leave = i;
      from = r.board;
      departs = r.departure;
      to = r.land;
      arrives = r.arrival;
      shares = shares_of tables r.class;
    }

abbrev pub boarded_at : ℕ → Row → Ride → Ride
boarded_at i r later =
    record {
      board = i;
      leave = later.leave;
      from = r.board;
      departs = r.departure;
      to = later.to;
      arrives = later.arrives;
      shares = later.shares;
    }

-- a row with its trip and its best ride, none if it has no worth
pub record Weighed : Type 0 where
  pub trip : ℕ
  pub best : Option Valued

-- the trip's next row
unfoldable pub next_of : List Weighed → ℕ → Option Valued
next_of [] trip = none
next_of (w ∷ ws) trip = let further = next_of ws trip in cond (eqb w.trip trip) w.best further

unfoldable pub get_off : Ride → Option ℕ → Option Valued
get_off r none = none
get_off r (some worth) = some (record { ride = r; worth = worth })

unfoldable pub stay_on : ℕ → Row → Option Valued → Option Valued
stay_on i r none = none
stay_on i r (some v) = some (record { ride = boarded_at i r v.ride; worth = v.worth })

-- A row's worth is the least over getting off and staying on; the ride stays aboard while the next row's worth equals the boarded row's
unfoldable pub least_of : Option Valued → Option Valued → Option Valued
least_of none on = on
least_of (some off) none = some off
least_of (some off) (some on) = cond (ltb off.worth on.worth) (some off) (some on)

unfoldable pub first_at : List Valued → ℕ → Option Valued
first_at [] stop = none
first_at (v ∷ vs) stop = let later = first_at vs stop in cond (eqb v.ride.from stop) (some v) later

-- the stop has no chosen row yet, or the worth plus the margin is at most that of the stop's current first chosen row
unfoldable pub leads : (margin worth : ℕ) → Option Valued → Bool
leads margin worth none = true
leads margin worth (some first) = leb (worth + margin) first.worth

-- in the same minute it replaces that row
unfoldable pub others : Ride → List Valued → List Valued
others r [] = []
others r (v ∷ vs) =
    let rest = others r vs in
    cond (eqb v.ride.from r.from && eqb v.ride.departs r.departs) rest (v ∷ rest)

-- No row boarding at the target is chosen
unfoldable pub choose : Aim → Option Valued → List Valued → List Valued
choose aim none chosen = chosen
choose aim (some v) chosen =
    cond (not (eqb v.ride.from aim.target) && leads aim.margin v.worth (first_at chosen v.ride.from))
    (v ∷ others v.ride chosen) chosen

-- the rows from row i on: each with its best ride, and the rides of the chosen ones
pub record Scan : Type 0 where
  pub weighed : List Weighed
  pub chosen : List Valued

unfoldable pub best_of : Aim → List (List ℕ) → ℕ → Row → Scan → Option Valued
best_of aim tables i r later =
    least_of (get_off (row_ride tables i r) (aim.off (row_ride tables i r) later.chosen))
    (stay_on i r (next_of later.weighed r.trip))

unfoldable pub scan : Aim → List (List ℕ) → ℕ → List Row → Scan
scan aim tables i [] = record { weighed = []; chosen = [] }
scan aim tables i (r ∷ rows) =
    let later = scan aim tables (suc i) rows in
    let best = best_of aim tables i r later in
    record {
      weighed = record { trip = r.trip; best = best } ∷ later.weighed;
      chosen = choose aim best later.chosen;
    }

unfoldable pub scanned : Aim → Timetable → Scan
scanned aim t = scan aim t.tables 0 t.rows
