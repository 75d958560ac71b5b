-- A safe plan's walk under any choice of delays, from the query's source and minute. Uses all that a sound timetable keeps.
use Prim.Native.Nat.{ℕ, ◌+◌, ◌*◌, ◌^◌, ◌≤◌, ◌<◌}
use mathlib.Core.List.Memᴰ
use mathlib.Core.List.{List, [], ◌∷◌, map, Memᴰ}
use mathlib.Core.Logic.{◌≢◌}
use mathlib.Core.Option.{Option, none, some}
use mathlib.Core.Path.{◌≡◌, refl, sym, ◌∙◌, ap, subst}
use native.Mathlib.Nat.{le_of_eq}
use native.Mathlib.Omega.{arith}
use borrow.Author.Tests.{ne_eqb}
use lib.ListN.{length, length-map}
use Rattle.laws.proofs.Tests.{T_true, cond_false}
use Rattle.laws.proofs.Options.{absent, same_thing}
use Rattle.timetable.specs.Timetable.{Timetable}
use Rattle.timetable.specs.Classes.{share_total}
use Rattle.query.specs.declared.Query.{Query}
use Rattle.plans.specs.Rides.{Ride, lands_by, ready}
use Rattle.timetable.specs.Ticks.{ticks_a_minute}
use Rattle.plans.specs.Journeys.{ready_at}
use Rattle.plans.specs.Worth.{Valued, valued, first_open, caught, worth_or}
use Rattle.plans.specs.Chosen.{worth_of}
use Rattle.plans.specs.Plan.{latest_of}
use Rattle.demands.specs.SafePlan.{SafePlan, ByBoardingRow, expected_of}
use Rattle.plans.specs.Sound.{Timely}
use Rattle.demands.specs.Walk.{Sailed, Delayed, Standing, first_sailed, start, walked, choices, weighted_arrivals, largest, longest_way}
use Rattle.demands.specs.Passenger.{stands_after}
use Rattle.demands.proofs.Means.{standing_worth}
use Rattle.demands.proofs.Choices.{total, total_same, delayed_choice, delayed_rides, delayed_range}
use Rattle.demands.proofs.Forward.{Served, onward, Forward, forward_timed}
use Rattle.plans.proofs.Open.{boards_minute, boards_stop}
use Rattle.plans.proofs.RideMinutes.{departs_before}
use Rattle.demands.proofs.Course.{rides_sailed, course, steps_course}
use Rattle.demands.proofs.Reached.{course_reaches, steps_served, served_finds, steps_in_time, steps_count}
use Rattle.demands.proofs.Sandwich.{mean, worth_at, AtMostRides, mean_within, mean_strictly_above}
use Rattle.demands.proofs.Sorting.{sorted_same}
use Rattle.demands.proofs.Largest.{none_larger, lands_by_lem}
use Rattle.demands.proofs.Safe.{plan_serves, safe_forward}

-- the rides of a plan with its own worths are the plan's rides
pub valued_rides : (gate target : ℕ) (rides : List Ride) → map (λ v. v.ride) (valued gate target rides) ≡ rides
unfolding valued
valued_rides gate target [] = refl
valued_rides gate target (r ∷ rides) = ap (λ rest. r ∷ rest) (valued_rides gate target rides)

module _ {t : Timetable} (q : Query) (bound : ℕ) (rides : List Ride) (safe : SafePlan t q bound rides) where
  -- one begins away from the target, and is served
  pub begins_served : Served q.target rides q.source (ready_at q)
  begins_served = onward safe.begins.0 safe.begins.1 safe.begins.2

  pub begins_elsewhere : q.source ≢ q.target
  begins_elsewhere there =
      safe.none_at_target safe.begins.0 safe.begins.1
      (boards_stop safe.begins.0 q.source (ready_at q) (T_true safe.begins.2) ∙ there)

  pub finds_ride :
      (sailed : List Sailed) → Delayed rides sailed → (k : ℕ) → (stands_after q sailed k).stop ≢ q.target
      → (s : Sailed) × (first_sailed sailed (stands_after q sailed k).stop (ready q.gate (stands_after q sailed k).minute) ≡ some s)
  finds_ride sailed delayed k elsewhere =
      served_finds sailed (stands_after q sailed k).stop (ready q.gate (stands_after q sailed k).minute)
      (steps_served q.gate q.target sailed (delayed_range delayed) serves k (start q)
      (subst (λ (x : List Ride). Served q.target x q.source (ready_at q)) (sym (delayed_rides delayed)) begins_served))
      elsewhere
    where
      serves : (r : Ride) → Memᴰ r (rides_sailed sailed) → Served q.target (rides_sailed sailed) r.to (ready q.gate (lands_by r))
      serves =
          subst (λ (x : List Ride). (r : Ride) → Memᴰ r x → Served q.target x r.to (ready q.gate (lands_by r))) (sym (delayed_rides delayed))
          (plan_serves q bound rides safe)

module _ {t : Timetable} (timely : Timely t) (q : Query) (bound : ℕ) (rides : List Ride) (safe : SafePlan t q bound rides)
    (rising : ByBoardingRow rides) where
  pub forward : Forward q.gate q.target rides
  forward = safe_forward timely q bound rides safe rising

  -- the walk is the course
  walk_course : (sailed : List Sailed) → Delayed rides sailed → walked q sailed ≡ course q.gate sailed (start q)
  unfolding walked
  walk_course sailed delayed =
      steps_course q.gate q.target sailed
      (forward_timed (subst (Forward q.gate q.target) (sym (delayed_rides delayed)) forward)) (length sailed) (le_of_eq refl) (start q)

  pub walk_reaches : (sailed : List Sailed) → Delayed rides sailed → (walked q sailed).stop ≡ q.target
  walk_reaches sailed delayed =
      ap (λ at. at.stop) (walk_course sailed delayed)
      ∙ course_reaches q.gate q.target sailed (subst (Forward q.gate q.target) (sym (delayed_rides delayed)) forward) (delayed_range delayed) (start q)
      (subst (λ (x : List Ride). Served q.target x q.source (ready_at q)) (sym (delayed_rides delayed)) (begins_served q bound rides safe))

  -- by the latest minute of the same rides, with whatever worths
  pub walk_in_time :
      (vs : List Valued) → map (λ v. v.ride) vs ≡ rides → (sailed : List Sailed) → Delayed rides sailed → (walked q sailed).minute ≤ latest_of vs
  unfolding walked
  walk_in_time vs same sailed delayed =
      steps_in_time q.gate q.target (latest_of vs) sailed (delayed_range delayed)
      (λ r among. by_last r (subst (Memᴰ r) (delayed_rides delayed) among)) (length sailed) (start q) before
    where
      by_last : (r : Ride) → Memᴰ r rides → lands_by r ≤ latest_of vs
      by_last r among =
          let found = Memᴰ.of_map (λ v. v.ride) vs (subst (Memᴰ r) (sym same) among) in
          subst (λ (x : Ride). lands_by x ≤ latest_of vs) found.2 (lands_by_lem vs found.0 found.1)

      before : q.minute ≤ latest_of vs
      before =
          let first = safe.begins.0 in
          omega (
            arith,
            boards_minute first q.source (ready_at q) (T_true safe.begins.2),
            departs_before t timely first (safe.are_rides first safe.begins.1),
            by_last first safe.begins.1,
          )

  pub walk_count : (sailed : List Sailed) → Delayed rides sailed → (walked q sailed).boarded ≤ length rides
  unfolding walked
  walk_count sailed delayed =
      omega (
        arith,
        steps_count q.gate q.target sailed (length sailed) (start q),
        sym (length-map sailed (λ s. s.ride)) ∙ ap length (delayed_rides delayed),
      )

  -- the expected ticks are what standing at the source is worth
  pub expected_worth : (x : ℕ) → expected_of q rides ≡ some x → worth_at q.gate q.target rides (start q) ≡ x
  unfolding expected_of standing_worth caught worth_of worth_or
  expected_worth x e =
      cond_false (ticks_a_minute * q.minute) (caught (valued q.gate q.target rides) q.source (ready_at q))
      (ne_eqb q.source q.target (begins_elsewhere q bound rides safe))
      ∙ go (first_open (valued q.gate q.target rides) q.source (ready_at q))
      (ap (λ (l : List Ride). worth_of (first_open (valued q.gate q.target l) q.source (ready_at q))) (sym (sorted_same rising)) ∙ e)
    where
      go : (o : Option Valued) → worth_of o ≡ some x → worth_or 0 o ≡ x
      go none none_is = absent none_is
      go (some v) some_is = same_thing some_is

  arrivals_mean : weighted_arrivals q rides ≡ mean q.gate rides (start q)
  unfolding weighted_arrivals mean total
  arrivals_mean =
      total_same (λ sailed. ticks_a_minute * (walked q sailed).minute) (λ sailed. ticks_a_minute * (course q.gate sailed (start q)).minute) rides
      (λ sailed delayed. ap (λ at. ticks_a_minute * at.minute) (walk_course sailed delayed))

  pub sandwich_below : (x : ℕ) → expected_of q rides ≡ some x → weighted_arrivals q rides ≤ share_total ^ length rides * x
  sandwich_below x e =
      rw (arrivals_mean, ← expected_worth x e) (mean_within q.gate q.target forward (start q) (begins_served q bound rides safe))

  pub longest_most : AtMostRides q.gate rides (start q) (longest_way q rides)
  unfolding longest_way
  longest_most sailed delayed =
      subst (λ (at : Standing). at.boarded ≤ largest (map (λ sailed. (walked q sailed).boarded) (choices rides))) (walk_course sailed delayed)
      (none_larger (λ sailed. (walked q sailed).boarded) (choices rides) sailed (delayed_choice delayed))

  pub sandwich_above :
      (x : ℕ) → expected_of q rides ≡ some x → share_total ^ length rides * x < weighted_arrivals q rides + share_total ^ length rides * longest_way q rides
  sandwich_above x e =
      rw (arrivals_mean, ← expected_worth x e)
      (mean_strictly_above q.gate q.target (longest_way q rides) forward (start q) (begins_served q bound rides safe) longest_most
      (begins_elsewhere q bound rides safe))
