-- The plan is a safe plan within its bound, by boarding row rising, with its own worths. Uses all that a sound timetable keeps.
use Prim.Native.Nat.{ℕ, ◌+◌, ◌≤◌, ◌<◌}
use native.Mathlib.Omega.{arith}
use mathlib.Core.Bool.{true}
use mathlib.Core.List.Memᴰ
use mathlib.Core.List.{List, ◌∷◌, Memᴰ}
use mathlib.Core.Logic.{◌≢◌}
use mathlib.Core.Option.{some}
use mathlib.Core.Path.{◌≡◌, sym, ap, subst, ◌∙◌}
use Rattle.laws.proofs.Tests.{true_T}
use Rattle.laws.proofs.Members.{head_or_later, mapped, mapped_from}
use Rattle.timetable.specs.Timetable.{Timetable}
use Rattle.plans.specs.Sound.{Timely}
use Rattle.query.specs.declared.Query.{Query}
use Rattle.plans.specs.Rides.{Ride, IsRide, lands_by, ready, boards}
use Rattle.plans.specs.Journeys.{goal_of, within, ready_at}
use Rattle.plans.specs.Worth.{Valued, rides_of, first_open, valued}
use Rattle.plans.specs.Chosen.{worth_of}
use Rattle.plans.specs.Plan.{Plan}
use Rattle.demands.specs.SafePlan.{SafePlan, ByBoardingRow, no_rides, before_all, expected_of}
use Rattle.plans.proofs.Open.{found_member, found_boards}
use Rattle.plans.proofs.Order.{Ordered, nobody, ahead, members_apart}
use Rattle.plans.proofs.OwnWorth.{OwnWorth, own_valued}
use Rattle.plans.proofs.OwnWorth as own
use Rattle.plans.proofs.EarliestSafe.{worth_of_lem}
use Rattle.demands.proofs.Sorting.{sorted_same}
use Rattle.demands.proofs.Largest.{lands_by_lem, lands_last}
use Rattle.plans.proofs.Made.{Made}
use Rattle.plans.proofs.PlanRides.{for_picked, for_ride, for_within, for_gaining, plan_member, plan_ordered, plan_own, plan_first}

pub ordered_rising : {vs : List Valued} → Ordered vs → ByBoardingRow (rides_of vs)
ordered_rising nobody = no_rides
ordered_rising (ahead {v} {vs} before o) =
    before_all (λ next m. let found = mapped_from (λ (u : Valued). u.ride) vs m in
    subst (λ (r : Ride). v.ride.board < r.board) (sym found.2) (before found.0 found.1).rows) (ordered_rising o)

-- after each ride not ending at the target, one boards at its landing stop at or after a + M + g
own_goes_on :
    (gate target : ℕ) {vs : List Valued} → OwnWorth gate target vs → (v : Valued) → Memᴰ v vs → v.ride.to ≢ target
    → (next : Valued) × Memᴰ next vs × (boards next.ride v.ride.to (ready gate (lands_by v.ride)) ≡ true)
own_goes_on gate target own.nobody v m away = absurd (Memᴰ.not-nil m)
own_goes_on gate target (own.ahead {v = u} {vs = us} moves worth on rest) v m away =
    head_or_later Next m
    (λ q. let found = on (λ e. away (ap (λ (x : Valued). x.ride.to) q ∙ e)) in (
      found.0,
      Memᴰ.tail (found_member us _ _ found.1),
      subst (λ (x : Valued). boards found.0.ride x.ride.to (ready gate (lands_by x.ride)) ≡ true) (sym q) (found_boards us _ _ found.1),
    ))
    (λ n. let found = own_goes_on gate target rest v n away in (found.0, Memᴰ.tail found.1, found.2))
  where
    Next : Type 0
    Next = (next : Valued) × Memᴰ next (u ∷ us) × (boards next.ride v.ride.to (ready gate (lands_by v.ride)) ≡ true)

module _ (t : Timetable) (timely : Timely t) (q : Query) (p : Plan) (made : Made t q p) where
  pub plan_rising : ByBoardingRow (rides_of p.rides)
  plan_rising = ordered_rising (plan_ordered t timely q p made)

  -- its worths are those that its own rides give
  pub plan_valued : valued q.gate q.target (rides_of p.rides) ≡ p.rides
  plan_valued = own_valued q.gate q.target (plan_own t timely q p made)

  pub plan_expected : expected_of q (rides_of p.rides) ≡ some p.expected
  unfolding expected_of
  plan_expected =
      ap (λ (l : List Ride). worth_of (first_open (valued q.gate q.target l) q.source (ready_at q))) (sorted_same plan_rising)
      ∙ ap (λ (l : List Valued). worth_of (first_open l q.source (ready_at q))) plan_valued
      ∙ ap worth_of (plan_first t timely q p made) ∙ worth_of_lem made.first ∙ ap some (sym made.worth)

  -- its latest minute is the largest a + M of its rides
  pub plan_last :
      ((v : Valued) → Memᴰ v p.rides → lands_by v.ride ≤ p.latest) × ((v : Valued) × Memᴰ v p.rides × (lands_by v.ride ≡ p.latest))
  plan_last =
      let last = lands_last p.rides made.first (found_member p.rides q.source (ready_at q) (plan_first t timely q p made)) in
      (λ v m. subst (λ k. lands_by v.ride ≤ k) (sym made.ends) (lands_by_lem p.rides v m), (last.0, last.1, last.2 ∙ sym made.ends))

  -- a ride of the plan is that of one of its chosen rows
  plan_ride : {r : Ride} → Memᴰ r (rides_of p.rides) → (v : Valued) × Memᴰ v p.rides × (r ≡ v.ride)
  plan_ride m = mapped_from (λ (v : Valued). v.ride) p.rides m

  plan_no_two :
      (v u : Valued) → Memᴰ v p.rides → Memᴰ u p.rides → v.ride.from ≡ u.ride.from → v.ride.departs ≡ u.ride.departs → v ≡ u
  plan_no_two v u m n there then =
      members_apart p.rides (plan_ordered t timely q p made) v u m n (λ e. e)
      (λ b. absurd (let c : v.ride.departs < u.ride.departs = b.apart there in let z : ⊥ = omega arith in z))
      (λ b. absurd (let c : u.ride.departs < v.ride.departs = b.apart (sym there) in let z : ⊥ = omega arith in z))

  -- of two rides from one stop the earlier gains at least the margin
  pub plan_gains :
      (v u : Valued) → Memᴰ v p.rides → Memᴰ u p.rides → v.ride.from ≡ u.ride.from → v.ride.departs < u.ride.departs
      → v.worth + q.margin ≤ u.worth
  plan_gains v u m n =
      for_gaining t timely (goal_of q p.bound) v u (plan_member t timely q p made v m) (plan_member t timely q p made u n)

  pub plan_safe : SafePlan t q p.bound (rides_of p.rides)
  plan_safe =
      record {
        are_rides = λ r m. let f = plan_ride m in subst (λ (x : Ride). IsRide t x) (sym f.2)
            (for_ride t timely (goal_of q p.bound) f.0 (plan_member t timely q p made f.0 f.1));
        none_at_target =
            λ r m. let f = plan_ride m in
            subst (λ (x : Ride). x.from ≢ q.target) (sym f.2)
            (for_picked t timely (goal_of q p.bound) f.0 (plan_member t timely q p made f.0 f.1)).elsewhere;
        no_two =
            λ r r' m n there then. let f = plan_ride m in let g = plan_ride n in
            f.2 ∙ ap (λ (v : Valued). v.ride)
            (plan_no_two f.0 g.0 f.1 g.1 (ap (λ (x : Ride). x.from) (sym f.2) ∙ there ∙ ap (λ (x : Ride). x.from) g.2)
            (ap (λ (x : Ride). x.departs) (sym f.2) ∙ then ∙ ap (λ (x : Ride). x.departs) g.2)) ∙ sym g.2;
        each_within =
            λ r m. let f = plan_ride m in
            true_T (subst (λ (x : Ride). within p.bound (lands_by x) ≡ true) (sym f.2)
            (for_within t timely (goal_of q p.bound) f.0 (plan_member t timely q p made f.0 f.1)));
        begins = (
          made.first.ride,
          mapped (λ (v : Valued). v.ride) (found_member p.rides q.source (ready_at q) (plan_first t timely q p made)),
          true_T (found_boards p.rides q.source (ready_at q) (plan_first t timely q p made)),
        );
        goes_on =
            λ r m away. let f = plan_ride m in
            let next = own_goes_on q.gate q.target (plan_own t timely q p made) f.0 f.1 (λ e. away (ap (λ (x : Ride). x.to) f.2 ∙ e)) in (
              next.0.ride,
              mapped (λ (v : Valued). v.ride) next.1,
              true_T (subst (λ (x : Ride). boards next.0.ride x.to (ready q.gate (lands_by x)) ≡ true) (sym f.2) next.2),
            );
      }
