-- Demand 3: what a passenger meets who follows a plan, whatever whole-minute delays its rides have.
use Rattle.std.specs.Prelude.{ℕ, ◌+◌, ◌*◌, ◌^◌, ◌≤◌, ◌<◌, ◌≢◌, ◌≡◌, length}
use mathlib.Core.List.{List, Memᴰ}
use Rattle.std.proofs.Math.Option.{some}
use Rattle.timetable.specs.Classes.{share_total}
use Rattle.query.specs.declared.Query.{Query}
use Rattle.plans.specs.Rides.{Ride, ready}
use Rattle.demands.specs.Walk.{Sailed, Standing, first_sailed, steps, start, walked, choices, weighted_arrivals, longest_way}

-- where the passenger stands after k landings
abbrev pub stands_after : Query → List Sailed → ℕ → Standing
stands_after q sailed k = steps q.gate q.target sailed k (start q)

-- the rides, with this latest minute and these expected ticks, carry every passenger; a choice gives each ride one delay from 0 to its M
pub record Carries (q : Query) (rides : List Ride) (latest expected : ℕ) : Type 0 where
  -- a ride is always there
  pub ride_there :
      (sailed : List Sailed) → Memᴰ sailed (choices rides) → (k : ℕ) → (stands_after q sailed k).stop ≢ q.target
      → (s : Sailed) × (first_sailed sailed (stands_after q sailed k).stop (ready q.gate (stands_after q sailed k).minute) ≡ some s)
  -- the target is reached by the latest minute in no more rides than the plan has
  pub reached : (sailed : List Sailed) → Memᴰ sailed (choices rides) → (walked q sailed).stop ≡ q.target
  pub in_time : (sailed : List Sailed) → Memᴰ sailed (choices rides) → (walked q sailed).minute ≤ latest
  pub no_more_rides : (sailed : List Sailed) → Memᴰ sailed (choices rides) → (walked q sailed).boarded ≤ length rides
  -- A ≤ 4,096^R × X < A + 4,096^R × L
  pub mean_not_later : weighted_arrivals q rides ≤ share_total ^ length rides * expected
  pub mean_close : share_total ^ length rides * expected < weighted_arrivals q rides + share_total ^ length rides * longest_way q rides
