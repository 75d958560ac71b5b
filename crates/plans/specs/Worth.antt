-- Document 01, "Expected arrival in ticks", and document 02, E3: what a ride is worth, given what the rides behind it are worth.
use Rattle.std.specs.Prelude.{ℕ, suc, ◌+◌, ◌*◌, cond, List, [], ◌∷◌, map, eqb}
use Rattle.std.proofs.Math.Option.{Option, none, some}
use Rattle.timetable.specs.Classes.{share_total}
use Rattle.timetable.specs.Ticks.{ticks_a_minute, quotient_up}
use Rattle.plans.specs.Rides.{Ride, ready, boards}

-- the sum over delays v of share(v) × f (minute + v)
unfoldable pub weigh : List ℕ → ℕ → (ℕ → ℕ) → ℕ
weigh [] minute f = 0
weigh (p ∷ shares) minute f = p * f minute + weigh shares (suc minute) f

-- a ride with its worth
pub record Valued : Type 0 where
  pub ride : Ride
  pub worth : ℕ

abbrev pub rides_of : List Valued → List Ride
rides_of vs = map (λ (v : Valued). v.ride) vs

-- the first ride of a list that one who is ready at `stop` at `minute` can board
unfoldable pub first_open : List Valued → ℕ → ℕ → Option Valued
first_open [] stop minute = none
first_open (v ∷ vs) stop minute =
    let later = first_open vs stop minute in cond (boards v.ride stop minute) (some v) later

unfoldable pub worth_or : ℕ → Option Valued → ℕ
worth_or other none = other
worth_or other (some v) = v.worth

-- worth of the ride caught
unfoldable pub caught : List Valued → ℕ → ℕ → ℕ
caught vs stop minute = worth_or 0 (first_open vs stop minute)

-- A ride ending at the target is worth 256a plus (sum of delay × share)/16, rounded up
unfoldable pub arrival_worth : Ride → ℕ
arrival_worth r = ticks_a_minute * r.arrives + quotient_up 16 (weigh r.shares 0 (λ v. v))

-- Any other ride is worth (sum over v of share(v) × worth of the ride caught after v)/4,096, rounded up once
unfoldable pub change_worth : (gate : ℕ) → Ride → List Valued → ℕ
change_worth gate r behind =
    quotient_up share_total (weigh r.shares r.arrives (λ minute. caught behind r.to (ready gate minute)))

unfoldable pub land_worth : (gate target : ℕ) → Ride → List Valued → ℕ
land_worth gate target r behind = cond (eqb r.to target) (arrival_worth r) (change_worth gate r behind)

-- the rides of any plan, by boarding row rising, each with what its own plan gives
unfoldable pub valued : (gate target : ℕ) → List Ride → List Valued
valued gate target [] = []
valued gate target (r ∷ rides) =
    let behind = valued gate target rides in record { ride = r; worth = land_worth gate target r behind } ∷ behind
