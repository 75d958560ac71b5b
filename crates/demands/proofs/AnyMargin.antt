-- Document 02, E1: what a margin leaves as it is, and what it can cost against margin 1. Uses all that a sound timetable keeps.
use Prim.Native.Nat.{ℕ, ◌+◌, ◌-◌, ◌*◌, ◌≤◌}
use native.Mathlib.Nat.{mul-le-mul_right}
use native.Mathlib.Omega.{arith}
use mathlib.Core.List.{List}
use mathlib.Core.Logic.{◌↔◌, ◌≢◌}
use mathlib.Core.Option.{none, some}
use mathlib.Core.Path.{◌≡◌, refl, sym, ap, subst, ◌∙◌}
use Rattle.timetable.specs.Timetable.{Timetable}
use Rattle.query.specs.declared.Query.{Query}
use Rattle.query.specs.Query.{with_margin, least_margin}
use Rattle.plans.specs.Rides.{Ride}
use Rattle.plans.specs.Sound.{Timely}
use Rattle.plans.specs.Journeys.{Journey, IsEarliest, bound_of, CodeStands}
use Rattle.plans.specs.Worth.{Valued, rides_of}
use Rattle.plans.specs.Plan.{Plan, planned, earliest}
use Rattle.demands.specs.SafePlan.{SafePlan, expected_of}
use Rattle.demands.specs.Walk.{longest_way}
use Rattle.demands.specs.Demanded.{Demanded}
use Rattle.demands.proofs.Demand2.{no_safe_journey}
use Rattle.demands.proofs.Demanded.{plan_demanded}
use Rattle.demands.proofs.OnePlan.{one_earliest}
use Rattle.demands.proofs.Sorting.{sorted_same}

module _ (t : Timetable) (q : Query) (margin : ℕ) where
  -- E and the bound are those of any other margin
  pub same_earliest : earliest t (with_margin margin q) ≡ earliest t q
  unfolding earliest
  same_earliest = refl

  pub same_bound : (e : ℕ) → bound_of (with_margin margin q) e ≡ bound_of q e
  same_bound e = refl

  -- and so are the safe journeys
  pub same_journey : (end : ℕ) → Journey t (with_margin margin q) end ↔ Journey t q end
  same_journey end = (
    λ j. record { first = j.first; in_time = j.in_time; onward = j.onward },
    λ j. record { first = j.first; in_time = j.in_time; onward = j.onward },
  )

  pub is_earliest : {e : ℕ} → IsEarliest t (with_margin margin q) e → IsEarliest t q e
  is_earliest {e} least =
      record { reached = (same_journey e).0 least.reached; least = λ end j. least.least end ((same_journey end).1 j) }

  -- and the safe plans, with their expected arrivals
  pub safe_plan : {bound : ℕ} {rides : List Ride} → SafePlan t (with_margin margin q) bound rides → SafePlan t q bound rides
  safe_plan safe =
      record {
        are_rides = safe.are_rides;
        none_at_target = safe.none_at_target;
        no_two = safe.no_two;
        each_within = safe.each_within;
        begins = safe.begins;
        goes_on = safe.goes_on;
      }

  pub same_expected : (rides : List Ride) → expected_of (with_margin margin q) rides ≡ expected_of q rides
  unfolding expected_of
  same_expected rides = refl

  -- a plan exists with one margin exactly if it does with another
  pub plan_either_way : Timely t → CodeStands q.code → q.source ≢ q.target → (planned t (with_margin margin q) ≡ none) ↔ (planned t q ≡ none)
  plan_either_way timely stands apart =
      let with' = no_safe_journey t timely (with_margin margin q) stands apart in
      let without = no_safe_journey t timely q stands apart in (
        λ h. without.1 (λ end j. with'.0 h end ((same_journey end).1 j)),
        λ h. with'.1 (λ end j. without.0 h end ((same_journey end).0 j)),
      )

-- of two plans demanded, one with margin 1: one bound, and the expected arrival is later by at most the margin less one for each ride of the
-- longest way through margin 1's plan
pub margin_loses : {t : Timetable} {q : Query} {rides others : List Valued} {expected latest bound expected' latest' bound' : ℕ}
    → Demanded t q rides expected latest bound → Demanded t (with_margin least_margin q) others expected' latest' bound'
    → (bound ≡ bound') × (expected ≤ expected' + (q.margin - 1) * longest_way q (rides_of others))
margin_loses {t} {q} {rides} {others} {expected} {latest} {bound} {expected'} {latest'} {bound'} d d' = (bounds, lost)
  where
    bounds : bound ≡ bound'
    bounds =
        d.bounded.2 ∙ ap (bound_of q) (one_earliest d.bounded.1 (is_earliest t q least_margin d'.bounded.1)) ∙ sym d'.bounded.2

    lost : expected ≤ expected' + (q.margin - 1) * longest_way q (rides_of others)
    lost =
        subst (λ (l : List Ride). expected ≤ expected' + (q.margin - 1) * longest_way q l) (sorted_same d'.by_boarding_row)
        (d.loss (rides_of others) (subst (λ b. SafePlan t q b (rides_of others)) (sym bounds) (safe_plan t q least_margin d'.safe)) expected'
        (sym (same_expected t q least_margin (rides_of others)) ∙ d'.expects))

-- of the definitions
pub planned_loses : (t : Timetable) → Timely t → (q : Query) (p one : Plan) → planned t q ≡ some p → planned t (with_margin least_margin q) ≡ some one
    → (p.bound ≡ one.bound) × (p.expected ≤ one.expected + (q.margin - 1) * longest_way q (rides_of one.rides))
planned_loses t timely q p one is is_one =
    margin_loses (plan_demanded t timely q p is) (plan_demanded t timely (with_margin least_margin q) one is_one)

-- so it is at most the margin for each of them, as document 02 asks
pub loses_as_asked : (expected expected' margin rides : ℕ) → expected ≤ expected' + (margin - 1) * rides → expected ≤ expected' + margin * rides
loses_as_asked expected expected' margin rides h =
    omega (arith, mul-le-mul_right rides (let z : margin - 1 ≤ margin = omega arith in z))
