-- The small plan's numbers are as stated, and another plan is safe too. Assumes nothing.
use Prim.Native.Nat.{ℕ, ◌<◌}
use native.Mathlib.Nat.{le_refl}
use native.Mathlib.Omega.{arith}
use mathlib.Core.List.Memᴰ
use mathlib.Core.List.{Memᴰ}
use mathlib.Core.Logic.{◌≢◌}
use mathlib.Core.Path.{◌≡◌, refl, sym, subst}
use lib.Dec.{T}
use Rattle.laws.proofs.Members.{head_or_later}
use Rattle.timetable.specs.Classes.{sum}
use Rattle.plans.specs.Rides.{Ride, IsRide, ride_of, lands_by, ready, boards}
use Rattle.plans.specs.Journeys.{within}
use Rattle.plans.specs.Worth.{weigh, first_open, worth_or, caught, arrival_worth, change_worth, land_worth, valued}
use Rattle.plans.specs.Chosen.{when_safe, off_in_ticks, worth_of, off_in_minutes, next_of, get_off, stay_on, least_of, first_at, leads, others, choose, best_of, scan, scanned}
use Rattle.plans.specs.Plan.{earliest, chosen_for, in_window, wanted, up_to, windows_of, extract, rides_from, latest_of, plan_within, plan_before, planned}
use Rattle.plans.specs.Examples.{Hold, told_rides, told}
use Rattle.demands.specs.SafePlan.{SafePlan, insert, sorted, expected_of}
use Rattle.demands.specs.Walk.{first_sailed, landed, step, steps, walked, with_delays, choices, weight, weighted_arrivals, largest, longest_way}
use Rattle.demands.specs.SmallPlan.{small, asked, later_boat, expected_in, small_cases}

pub small_counted : Hold small_cases
unfolding small_cases expected_in sum land_worth valued insert sorted expected_of first_sailed landed step steps walked with_delays choices weight weighted_arrivals largest longest_way told_rides told planned plan_before earliest weigh first_open worth_or caught arrival_worth change_worth when_safe off_in_ticks worth_of off_in_minutes next_of get_off stay_on least_of first_at leads others choose best_of scan scanned chosen_for in_window wanted up_to windows_of extract rides_from latest_of plan_within
small_counted = (refl, (refl, (refl, (refl, (refl, (refl, (refl, (refl, (refl, (refl, (refl, (refl, (refl, (refl, tt))))))))))))))

-- the boat is a ride of its one row, and so is the later of the two
is_ride : (i : ℕ) → i < 3 → IsRide small (ride_of small i i)
is_ride i inside = record { onward = le_refl i; inside = inside; one_trip = refl; as_timed = refl }

of_two : (P : Ride → Type 0) → P (ride_of small 2 2) → P (ride_of small 0 0) → (r : Ride) → Memᴰ r later_boat → P r
of_two P later first r m =
    head_or_later (P r) m (λ e. subst P (sym e) later)
    (λ n. head_or_later (P r) n (λ e. subst P (sym e) first) (λ none_left. absurd (Memᴰ.not-nil none_left)))

-- not only the plan itself is a safe plan
pub later_boat_safe : SafePlan small asked 0 later_boat
later_boat_safe =
    record {
      are_rides = of_two (IsRide small) (is_ride 2 (omega arith)) (is_ride 0 (omega arith));
      none_at_target = of_two (λ r. r.from ≢ 2) (λ e. omega arith) (λ e. omega arith);
      no_two =
          λ r r' m n. of_two (λ x. x.from ≡ r'.from → x.departs ≡ r'.departs → x ≡ r')
          (of_two (λ y. 1 ≡ y.from → 631 ≡ y.departs → ride_of small 2 2 ≡ y) (λ _ _. refl) (λ e _. absurd (let z : ⊥ = omega arith in z)) r' n)
          (of_two (λ y. 0 ≡ y.from → 600 ≡ y.departs → ride_of small 0 0 ≡ y) (λ e _. absurd (let z : ⊥ = omega arith in z)) (λ _ _. refl) r' n) r m;
      each_within = of_two (λ r. T (within 0 (lands_by r))) tt tt;
      begins = (ride_of small 0 0, Memᴰ.tail (Memᴰ.head refl), tt);
      goes_on = of_two (λ r. r.to ≢ 2 → (next : Ride) × Memᴰ next later_boat × T (boards next r.to (ready 0 (lands_by r)))) (λ away. absurd (away refl))
          (λ _. (ride_of small 2 2, Memᴰ.head refl, tt));
    }
