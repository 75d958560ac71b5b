-- Demand 3, for every safe plan with its own worths and for the plan that demand 2 fixes. Uses all that a sound timetable keeps.
use Prim.Native.Nat.{ℕ, ◌^◌, ◌≤◌}
use native.Mathlib.Omega.{arith}
use mathlib.Core.List.{List, map, Memᴰ}
use mathlib.Core.Logic.{◌↔◌}
use mathlib.Core.Option.{some}
use mathlib.Core.Path.{◌≡◌, refl, sym, subst, ◌∙◌}
use lib.ListN.{length}
use Rattle.timetable.specs.Timetable.{Timetable}
use Rattle.timetable.specs.Classes.{sum, share_total}
use Rattle.query.specs.declared.Query.{Query}
use Rattle.plans.specs.Rides.{Ride}
use Rattle.plans.specs.Worth.{Valued, rides_of}
use Rattle.plans.specs.Plan.{Plan, latest_of, planned}
use Rattle.demands.specs.SafePlan.{SafePlan, ByBoardingRow, sorted, worths_of, expected_of}
use Rattle.plans.specs.Sound.{Timely}
use Rattle.demands.specs.Walk.{Sailed, Delayed, start, walked, choices, weight, longest_way, Boards}
use Rattle.demands.specs.Passenger.{Carries}
use Rattle.plans.proofs.RideMinutes.{ride_shares, ride_delays}
use Rattle.plans.proofs.Made.{plan_made}
use Rattle.demands.proofs.PlanIsSafe.{plan_safe, plan_rising, plan_expected}
use Rattle.demands.proofs.Choices.{choice_delayed, delayed_choice, on_time, weights_total}
use Rattle.demands.proofs.Largest.{none_larger, one_largest}
use Rattle.demands.proofs.Walked.{finds_ride, walk_reaches, walk_in_time, walk_count, valued_rides, sandwich_below, sandwich_above}
use Rattle.demands.proofs.Sorting.{safe_sorted, expected_sorted}
use Rattle.demands.proofs.Boarded.{plan_boards}

-- the choices are all ways to give each ride one delay from 0 to its M
pub each_choice : (rides : List Ride) (sailed : List Sailed) → Memᴰ sailed (choices rides) ↔ Delayed rides sailed
each_choice rides sailed = (choice_delayed rides sailed, delayed_choice)

module _ {t : Timetable} (timely : Timely t) (q : Query) where
  -- with these rides and whatever worths beside them
  rides_carry :
      (bound : ℕ) (rides : List Ride) → SafePlan t q bound rides → ByBoardingRow rides → (vs : List Valued) → rides_of vs ≡ rides → (x : ℕ)
      → expected_of q rides ≡ some x → Carries q rides (latest_of vs) x
  rides_carry bound rides safe rising vs same x e =
      record {
        ride_there = λ sailed choice. finds_ride q bound rides safe sailed (choice_delayed rides sailed choice);
        reached = λ sailed choice. walk_reaches timely q bound rides safe rising sailed (choice_delayed rides sailed choice);
        in_time = λ sailed choice. walk_in_time timely q bound rides safe rising vs same sailed (choice_delayed rides sailed choice);
        no_more_rides = λ sailed choice. walk_count timely q bound rides safe rising sailed (choice_delayed rides sailed choice);
        mean_not_later = sandwich_below timely q bound rides safe rising x e;
        mean_close = sandwich_above timely q bound rides safe rising x e;
      }

  module _ (bound : ℕ) (rides : List Ride) (safe : SafePlan t q bound rides) where
    -- every safe plan, its rides taken by boarding row, carries its passengers
    pub safe_plan_carries : (x : ℕ) → expected_of q rides ≡ some x → Carries q (sorted rides) (latest_of (worths_of q rides)) x
    safe_plan_carries x e =
        let in_order = safe_sorted t q bound rides safe in
        rides_carry bound (sorted rides) in_order.0 in_order.1 (worths_of q rides) (valued_rides q.gate q.target (sorted rides)) x
        (expected_sorted q rides ∙ e)

    -- L: no choice boards more rides, and one boards as many
    pub none_longer : (sailed : List Sailed) → Memᴰ sailed (choices rides) → (walked q sailed).boarded ≤ longest_way q rides
    unfolding longest_way
    none_longer = none_larger (λ sailed. (walked q sailed).boarded) (choices rides)

    pub longest_boarded : (sailed : List Sailed) × Memᴰ sailed (choices rides) × ((walked q sailed).boarded ≡ longest_way q rides)
    unfolding longest_way
    longest_boarded =
        let nobody_late = on_time rides (λ r among. omega (arith, ride_delays t timely r (safe.are_rides r among))) in
        one_largest (λ sailed. (walked q sailed).boarded) (choices rides) nobody_late.0 (delayed_choice nobody_late.1)

    -- the weights of all choices make up the whole
    pub all_weights : sum (map weight (choices rides)) ≡ share_total ^ length rides
    all_weights = weights_total rides (λ r among. ride_shares t timely r (safe.are_rides r among))

  module _ (p : Plan) (is_planned : planned t q ≡ some p) where
    -- the plan carries its passengers by its latest minute, with its expected ticks
    pub plan_carries : Carries q (rides_of p.rides) p.latest p.expected
    plan_carries =
        let made = plan_made t q p is_planned in
        subst (λ (last : ℕ). Carries q (rides_of p.rides) last p.expected) (sym made.ends)
        (rides_carry p.bound (rides_of p.rides) (plan_safe t timely q p made) (plan_rising t timely q p made) p.rides refl
        p.expected (plan_expected t timely q p made))

    -- every ride is boarded under some such delays
    pub every_ride_boarded :
        (v : Valued) → Memᴰ v p.rides
        → (sailed : List Sailed) × Memᴰ sailed (choices (rides_of p.rides)) × Boards q.gate q.target sailed (start q) v.ride
    every_ride_boarded = plan_boards t timely q p (plan_made t q p is_planned)
