-- There is a plan exactly if there is a safe journey. Uses rising departures and rows that arrive after they depart.
use Prim.Native.Nat.{ℕ, suc, zero-le, ◌+◌, ◌-◌, ◌*◌, ◌/◌, ◌≤◌, ◌<◌}
use native.Mathlib.Nat.{mul-le-mul_right, le-div_iff_mul-le, lt_of_lt_of_le}
use native.Mathlib.Omega.{arith}
use mathlib.Core.Bool.{true, false, cond, ◌||◌}
use mathlib.Core.List.{List}
use mathlib.Core.Logic.{inl, inr, ◌≢◌, ◌↔◌}
use mathlib.Core.Option.{none, some}
use mathlib.Core.Path.{◌≡◌, refl, sym, ap, subst, ◌∙◌}
use lib.Dec.{eqb, leb}
use borrow.Author.Tests.{eqb-true, eqb-false, eq-eqb, ne_eqb, le-leb}
use Rattle.laws.proofs.Options.{absent, present_or_absent}
use Rattle.laws.proofs.Tests.{ifb, cond_false, T_true}
use Rattle.laws.proofs.Alternatives.{or_right}
use Rattle.timetable.specs.Timetable.{Timetable}
use Rattle.plans.specs.declared.Goal.{Goal}
use Rattle.plans.specs.Sound.{Timely}
use Rattle.query.specs.declared.Query.{Query}
use Rattle.plans.specs.Rides.{Ride, IsRide, lands_by, ready, boards}
use Rattle.plans.specs.Journeys.{goal_of, Onward, leaves, changes, Journey, bound_of, within, CodeStands, ready_at}
use Rattle.plans.specs.Worth.{Valued, first_open, arrival_worth, change_worth}
use Rattle.plans.specs.Chosen.{in_ticks}
use Rattle.plans.specs.Plan.{planned, earliest, chosen_for}
use Rattle.plans.proofs.Open.{boards_minute}
use Rattle.plans.proofs.AtMost.{AtMost, found_at_most}
use Rattle.plans.specs.FromRow.{chosen_from}
use Rattle.plans.proofs.Staying.{ride_at_most}
use Rattle.plans.proofs.RideMinutes.{boards_behind, ride_first}
use Rattle.plans.proofs.EarliestSafe.{onward_ride, onward_after, journey_after, earliest_is_least, no_earliest}
use Rattle.plans.proofs.InTicks.{best_in_ticks, within_earlier, ticks_landed, ticks_at_target, ticks_elsewhere}
use Rattle.plans.proofs.Made.{chosen_for_lem, no_plan, no_plan_without}

-- a bound of four quarters or more does not lie before E
pub bound_after : (q : Query) (e : ℕ) → q.minute ≤ e → 4 ≤ q.code → e ≤ bound_of q e
bound_after q e after quarters =
    let c : eqb q.code 0 ≡ false = ne_eqb q.code 0 (λ z. let y : ⊥ = omega arith in y) in
    let d : (e - q.minute) * 4 ≤ q.code * (e - q.minute) = omega (arith, mul-le-mul_right (e - q.minute) quarters) in
    let k : e - q.minute ≤ q.code * (e - q.minute) / 4 = (le-div_iff_mul-le {k = 4} {x = e - q.minute} {y = q.code * (e - q.minute)}
    (omega arith)).1 d in
    subst (λ x. e ≤ x) (sym (cond_false 0 (q.minute + q.code * (e - q.minute) / 4) c))
    (let z : e ≤ q.minute + q.code * (e - q.minute) / 4 = omega arith in z)

pub within_bound : (q : Query) (e : ℕ) → q.minute ≤ e → CodeStands q.code → within (bound_of q e) e ≡ true
within_bound q e after (inl none') =
    ap (λ b. eqb (cond b 0 (q.minute + q.code * (e - q.minute) / 4)) 0 || leb e (cond b 0 (q.minute + q.code * (e - q.minute) / 4)))
    (eq-eqb q.code 0 none')
within_bound q e after (inr quarters) = or_right (eqb (bound_of q e) 0) (leb e (bound_of q e)) (le-leb e (bound_of q e) (bound_after q e after quarters))

module _ (t : Timetable) (timely : Timely t) where
  -- the boarding row of a ride has a worth, if what is boarded after it has one
  change_exists :
      (goal : Goal) (r next : Ride) → IsRide t r → IsRide t next → boards next r.to (ready goal.gate (lands_by r)) ≡ true → within goal.bound (lands_by r) ≡ true
      → (w : ℕ) × AtMost (best_in_ticks t goal next.board) w → (w : ℕ) × AtMost (best_in_ticks t goal r.board) w
  change_exists goal r next is is' caught b further =
      let aim = in_ticks goal in
      let late : ready goal.gate (lands_by r) ≤ next.departs = boards_minute next r.to (ready goal.gate (lands_by r)) caught in
      ifb (λ c. eqb r.to goal.target ≡ c → Some) (eqb r.to goal.target)
      (λ q _. (
        arrival_worth r,
        ride_at_most aim t r is (ticks_landed goal) (arrival_worth r)
            (ticks_at_target goal r _ (eqb-true r.to goal.target q) b),
      ))
      (λ q _. found_at_most Some
      (ride_first t timely aim (suc r.leave) next is'
      (boards_behind t timely r next is is' (let z : r.arrives ≤ next.departs = omega arith in z))
      r.to (ready goal.gate (lands_by r)) further.0 caught (eqb-false r.to goal.target q) further.1)
      (λ u e _. (
        change_worth goal.gate r (chosen_from aim t (suc r.leave)),
        ride_at_most aim t r is (ticks_landed goal) _
            (ticks_elsewhere goal r _ (eqb-false r.to goal.target q) u e),
      ))) refl
    where
      Some : Type 0
      Some = (w : ℕ) × AtMost (best_in_ticks t goal r.board) w

  -- the row where a safe journey within the bound boards has a worth
  pub ticks_exist :
      (goal : Goal) {r : Ride} {end : ℕ} → Onward t goal.gate goal.target r end → within goal.bound end ≡ true
      → (w : ℕ) × AtMost (best_in_ticks t goal r.board) w
  ticks_exist goal (leaves {r} is e) b = (
    arrival_worth r,
    ride_at_most (in_ticks goal) t r is (ticks_landed goal) (arrival_worth r)
        (ticks_at_target goal r _ e b),
  )
  ticks_exist goal (changes {r} {next} {end} is caught on) b =
      let late : ready goal.gate (lands_by r) ≤ next.departs = boards_minute next r.to (ready goal.gate (lands_by r)) (T_true caught) in
      change_exists goal r next is (onward_ride t goal.gate goal.target on) (T_true caught)
      (within_earlier goal.bound (lands_by r) end (let z : lands_by r ≤ end = omega (arith, onward_after t goal.gate goal.target timely on) in z) b)
      (ticks_exist goal on b)

  -- a journey within the bound finds a first chosen row
  journey_begins :
      (q : Query) (bound end : ℕ) → q.source ≢ q.target → Journey t q end → within bound end ≡ true
      → first_open (chosen_for t (goal_of q bound)) q.source (ready_at q) ≡ none → ⊥
  journey_begins q bound end apart j b h =
      let some' = ticks_exist (goal_of q bound) j.onward b in
      found_at_most ⊥
      (ride_first t timely (in_ticks (goal_of q bound)) 0 j.first (onward_ride t q.gate q.target j.onward) zero-le q.source
      (ready_at q) some'.0
      (T_true j.in_time) apart some'.1)
      (λ v e _. absent {a = v} (sym h ∙ ap (λ (l : List Valued). first_open l q.source (ready_at q)) (chosen_for_lem t (goal_of q bound)) ∙ e))

  pub plan_exists : (q : Query) → CodeStands q.code → q.source ≢ q.target → (planned t q ≡ none) ↔ ((end : ℕ) → Journey t q end → ⊥)
  plan_exists q stands apart = (
    λ h end j. no_plan t q h (λ never. no_earliest t timely q apart never end j)
        (λ e reached shut. let least = earliest_is_least t timely q e reached in
        journey_begins q (bound_of q e) e apart least.reached
        (within_bound q e (let z : q.minute ≤ e = omega (arith, journey_after t timely q e least.reached) in z) stands) shut),
    λ h. present_or_absent (planned t q ≡ none) (earliest t q) (λ never. no_plan_without t q never)
        (λ e reached. absurd (h e (earliest_is_least t timely q e reached).reached)),
  )

  -- a real bound is never 0, which stands for none
  pub bound_real : (q : Query) (e : ℕ) → earliest t q ≡ some e → 4 ≤ q.code → (e ≤ bound_of q e) × (0 < bound_of q e)
  bound_real q e reached quarters =
      let after = journey_after t timely q e (earliest_is_least t timely q e reached).reached in
      let far : e ≤ bound_of q e = bound_after q e (let z : q.minute ≤ e = omega arith in z) quarters in
      (far, let z : 0 < bound_of q e = lt_of_lt_of_le (let y : 0 < e = omega arith in y) far in z)
